-- What was asked for, by a window that goes on.
use Rattle.std.proofs.Common.{◌≡◌, ℕ, ◌-◌, ◌<◌, ◌≤◌, List, length, inl, inr, sym, ap, ◌∙◌, subst, arith}
use Rattle.std.specs.List.{range_with_len}
use Rattle.std.proofs.lemmas.Bool.{cases_lt}
use Rattle.fgb_outside.specs.Source.{Source}
use Rattle.fgb_outside.specs.Asked.{IsInside, Reads, ReadsFront}
use Rattle.fgb_outside.proofs.Asking.{inside_wider, reads_weaken, reads_front, front_along, range_split}
use Rattle.section_window.specs.Window.{Held, ahead, passed, Shows}
use Rattle.level_bounds.specs.Levels.{Shape}
use Rattle.section_window.proofs.Showing.{ahead_skipped, shows_skipped}
use Rattle.tree_search.specs.Descent.{IsOver}

-- requests inside wider bounds
pub reads_wider : (from to low high : ℕ) {a b : Source} {xs : List ℕ} → low ≤ from → to ≤ high → Reads (IsInside from to) a b xs → Reads (IsInside low high) a b xs
reads_wider from to low high l h reads = reads_weaken (IsInside from to) (IsInside low high) (inside_wider from to low high l h) reads

-- where nothing more was asked for, after some of a range
pub front_some : {P : ℕ × ℕ → Type 0} {a b : Source} (from mid till : ℕ) → from ≤ mid → mid ≤ till → Reads P a b (range_with_len from (mid - from)) → ReadsFront P a b (range_with_len from (till - from))
front_some from mid till l h reads = front_along _ _ (sym (range_split from mid till l h)) (reads_front (range_with_len mid (till - mid)) reads)

-- nothing was asked for from a bound on
pub asked_until : (old new : Held) (want until : ℕ) → (want ≤ length old.bytes → new ≡ old) → (length old.bytes < want → ahead new ≤ until) → ahead old ≤ until → ahead new ≤ until
asked_until old new want until held more before = elim (cases_lt (length old.bytes) want) [
  | inl less ↦ more less
  | inr enough ↦ subst (λ w. ahead w ≤ until) (sym (held enough)) before
]

-- a window that goes on, as far as a place behind all that was asked for
module _ (w new : Held) (to n : ℕ) (behind : ahead w ≤ to) (far : n ≡ to - w.at) (is : new ≡ passed w n) where
  pub skip_at : new.at ≡ to
  skip_at = ap (λ (v : Held). v.at) is ∙ omega arith

  pub skip_ahead : ahead new ≡ to
  skip_ahead = ap ahead is ∙ ahead_skipped w n ∙ omega arith

  pub skip_over : (t : Shape) (at : ℕ) (s : Source) → to ≤ w.end → IsOver t at w s → IsOver t at new s
  skip_over t at s inside over = record {
    end = ap (λ (v : Held). v.end) is ∙ over.end;
    shows = subst (λ v. Shows v s) (sym is) (shows_skipped w s n (omega arith) over.shows);
  }
