-- A text that is written piece by piece.
use Rattle.std.proofs.Common.{◌≡◌, inl, inr, ℕ, ◌≤◌, List, [], ◌++◌, Result, Ok, Err, IsErrAnd, refl, sym, subst, arith}
use Rattle.fgb_outside.specs.Sink.{Sink, Appends, AppendsPart, Writes}
use Rattle.fgb_outside.specs.declared.sinks.SinkError.{SinkError}
use Rattle.fgb_outside.specs.declared.sinks.SinkError.TheVariants.{Failed, Memory}
use Rattle.fgb_outside.proofs.Shown.{rose_since, appends_nothing, appends_appends, appends_then_part, appends_part, part_longer}
use Rattle.command_words.specs.Texts.{CountRose, Tells, Writing}

-- these bytes were written, and no count has fallen
pub record Wrote (a b : Sink) (xs : List ℕ) : Type 0 where
  pub appends : Appends a b xs
  pub later : a.faults ≤ b.faults
  pub later_wants : a.wants ≤ b.wants

-- nothing so far
pub wrote_nothing : (a : Sink) → Wrote a a []
wrote_nothing a = record { appends = appends_nothing a; later = omega arith; later_wants = omega arith }

pub wrote_next : {T : Type 0} (a b c : Sink) (xs ys piece : List ℕ) (x : T) → piece ≡ ys → Wrote a b xs → Writes b c piece (Ok x) → Wrote a c (xs ++ ys)
wrote_next a b c xs ys piece x same so_far w = record {
  appends = subst (λ zs. Appends a c (xs ++ zs)) same (appends_appends a b c xs piece so_far.appends w.written);
  later = omega (arith, so_far.later, w.later);
  later_wants = omega (arith, so_far.later_wants, w.later_wants);
}

pub rose : {T : Type 0} (b c : Sink) (ys : List ℕ) (e : SinkError) → Writes {T = T} b c ys (Err e) → CountRose b c
rose b c ys Failed w = inl (w.failed refl)
rose b c ys Memory w = inr (w.wanted refl)

rose_from : (a b c : Sink) → a.faults ≤ b.faults → a.wants ≤ b.wants → CountRose b c → CountRose a c
rose_from a b c later later_wants (inl r) = inl (rose_since a.faults b.faults c.faults later r)
rose_from a b c later later_wants (inr r) = inr (rose_since a.wants b.wants c.wants later_wants r)

-- a piece of a text failed, behind others that were written and in front of the rest
pub failed_next : {T U F : Type 0} (a b c : Sink) (text xs ys rest piece : List ℕ) (e : SinkError) (r : Result U F) (P : F → Type 0) → text ≡ xs ++ ys ++ rest → piece ≡ ys → IsErrAnd r P → Wrote a b xs → Writes {T = T} b c piece (Err e) → Writing a c text r
failed_next a b c text xs ys rest piece e (Ok u) P whole same is so_far w = absurd is
failed_next a b c text xs ys rest piece e (Err f) P whole same is so_far w = record {
  whole = tt;
  part = subst (AppendsPart a c) (sym whole) (part_longer a c (xs ++ ys) rest (subst (λ zs. AppendsPart a c (xs ++ zs)) same (appends_then_part a b c xs piece so_far.appends w.part)));
  rose = rose_from a b c so_far.later so_far.later_wants (rose b c piece e w);
  later = omega (arith, so_far.later, w.later);
  later_wants = omega (arith, so_far.later_wants, w.later_wants);
}

pub wrote_all : {U F : Type 0} (a b : Sink) (text xs : List ℕ) (u : U) → text ≡ xs → Wrote a b xs → Writing {E = F} a b text (Ok u)
wrote_all {F = F} a b text xs u whole w = subst (λ t. Writing {E = F} a b t (Ok u)) (sym whole) (record { whole = w.appends; part = appends_part a b xs w.appends; rose = tt; later = w.later; later_wants = w.later_wants })

-- whatever came of it
pub tells : {U F : Type 0} (a b : Sink) (xs : List ℕ) (r : Result U F) → Writing a b xs r → Tells a b xs
tells a b xs (Ok u) w = record { part = w.part; whole = inl w.whole }
tells a b xs (Err f) w = record { part = w.part; whole = inr w.rose }

pub tells_once : {T : Type 0} (a b : Sink) (xs : List ℕ) (r : Result T SinkError) → Writes a b xs r → Tells a b xs
tells_once a b xs (Ok x) w = record { part = w.part; whole = inl w.written }
tells_once a b xs (Err e) w = record { part = w.part; whole = inr (rose a b xs e w) }
