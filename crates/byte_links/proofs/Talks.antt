-- What the calls of a link in memory show.
use Rattle.std.proofs.Common.{◌≡◌, ℕ, ◌<◌, ◌≤◌, List, ◌++◌, length, take, refl, sym, ap, ◌∙◌, arith, Some, None, Ok}
use Rattle.std.proofs.lemmas.List.{take_all}
use Rattle.byte_links.specs.Link.{LinkState, KeepsLink, Receives, Sends}

-- a link that tells what it has received and sent, and no image
abbrev told : List ℕ → List ℕ → ℕ → ℕ → LinkState
told received sent faults ends = record { received = Some received; sent = Some sent; faults = faults; ends = ends; image = None; step = None }

keeps_told : (r s : List ℕ) (f e : ℕ) (r' s' : List ℕ) (f' e' : ℕ) → f ≤ f' → e ≤ e' → KeepsLink (told r s f e) (told r' s' f' e')
keeps_told r s f e r' s' f' e' faults ends = record {
  received = refl;
  sent = refl;
  image = refl;
  faults = faults;
  ends = ends;
  faultless = λ image is. cc;
}

-- a read that gives bytes
pub receives_some : {r s : List ℕ} {f e : ℕ} {r' s' : List ℕ} {f' e' : ℕ} (into : List ℕ) (n : ℕ) → 0 < n → n ≤ length into → r' ≡ r ++ take n into → s' ≡ s
    → f' ≡ f → e' ≡ e → Receives (told r s f e) (told r' s' f' e') into (Ok n)
receives_some {r = r} {s = s} {f = f} {e = e} {r' = r'} {s' = s'} {f' = f'} {e' = e'} into n some fits received sent faults ends = record {
  sound = λ image is. cc;
  keeps = keeps_told r s f e r' s' f' e' (omega arith) (omega arith);
  count = fits;
  received = ap Some received;
  received_nothing = tt;
  sent = ap Some sent;
  failed = λ h. cc;
  unfailing = λ image is. cc;
  ended = λ h. let none : n ≡ 0 = cc in omega arith;
  goes_on = λ _. ends;
  in_step = λ image is. cc;
  out_of_step = λ image is. cc;
}

-- a write that takes its piece
pub sends_all : {r s : List ℕ} {f e : ℕ} {r' s' : List ℕ} {f' e' : ℕ} (piece : List ℕ) → r' ≡ r → s' ≡ s ++ piece → f' ≡ f → e' ≡ e
    → Sends {T = Unit {0}} (told r s f e) (told r' s' f' e') piece (Ok tt)
sends_all {r = r} {s = s} {f = f} {e = e} {r' = r'} {s' = s'} {f' = f'} {e' = e'} piece received sent faults ends = record {
  sound = λ image is. cc;
  keeps = keeps_told r s f e r' s' f' e' (omega arith) (omega arith);
  sent = ap Some sent;
  part = (length piece, ap Some (sent ∙ ap (λ ys. s ++ ys) (sym (take_all (length piece) piece (omega arith)))));
  received = ap Some received;
  failed = λ h. cc;
  unfailing = λ image is. cc;
  ends = ends;
  asks = λ image is. cc;
  asks_nothing = λ image is. cc;
  out_of_step = λ image is. cc;
}
