-- What a window that reaches a place has done, where it read on or leapt.
use Rattle.std.proofs.Common.{◌≡◌, ℕ, ◌+◌, ◌-◌, ◌<◌, ◌≤◌, Bool, true, false, length, refl, sym, ap, subst, arith}
use Rattle.std.specs.List.{range_with_len}
use Rattle.fgb_outside.specs.Source.{Source}
use Rattle.fgb_outside.specs.Asked.{Reads, ReadsFront}
use Rattle.fgb_outside.proofs.Asking.{reads_along, reads_weaken, front_along, front_weaken}
use Rattle.section_window.specs.Window.{Held, ahead, IsPiece}
use Rattle.std.specs.Prelude.{Result, Ok, Err, OnOk, OnErr}
use Rattle.gap_window.specs.Bridging.{Bridging, is_near, asks_from, Reaches, ReachesPart, Stays}
use Rattle.gap_window.proofs.Near.{asks_near, asks_far, far_behind}

-- a request from a place on is one from an earlier place on
pub piece_wider : (low low' end : ℕ) → low' ≤ low → (p : ℕ × ℕ) → IsPiece low end p → IsPiece low' end p
piece_wider low low' end le p is = (omega (arith, is.0), is.1, is.2)

-- what a window over this one shows
abbrev pub shown : Held → ℕ → Bool → Bridging
shown held gap begun = record { held = held; gap = gap; begun = begun }

module _ (old : Bridging) (was new : Held) (gap : ℕ) (begun : Bool) (same : shown was gap begun ≡ old) {s s' : Source} (to want until : ℕ) where
  pub reached_near : is_near old to ≡ true → new.at ≡ to → new.end ≡ was.end → want ≤ length new.bytes → ahead was ≤ ahead new
      → Reads (IsPiece was.at until) s s' (range_with_len (ahead was) (ahead new - ahead was))
      → (to + want ≤ ahead was → ahead new ≡ ahead was) → (ahead was < to + want → ahead new ≤ until)
      → Reaches old (shown new gap true) s s' to want until
  reached_near is at end enough on reads idle before =
      subst (λ (o : Bridging). is_near o to ≡ true → Reaches o (shown new gap true) s s' to want until) same
      (λ near.
      let from : asks_from (shown was gap begun) to ≡ ahead was = asks_near (shown was gap begun) to near in
      record {
        at = at;
        end = end;
        gap = refl;
        begun = refl;
        enough = enough;
        on = omega (arith, from, on);
        reads = reads_along _ _ (ap (λ k. range_with_len k (ahead new - k)) (sym from)) reads;
        idle = idle;
        before = before;
      })
      is

  pub reached_far : is_near old to ≡ false → old.held.at ≤ to → new.at ≡ to → new.end ≡ was.end → want ≤ length new.bytes → ahead new ≤ until
      → Reads (IsPiece to until) s s' (range_with_len to (ahead new - to))
      → Reaches old (shown new gap true) s s' to want until
  reached_far is onward at end enough before reads =
      subst (λ (o : Bridging). is_near o to ≡ false → o.held.at ≤ to → Reaches o (shown new gap true) s s' to want until) same
      (λ far le.
      let from : asks_from (shown was gap begun) to ≡ to = asks_far (shown was gap begun) to far in
      let behind : ahead was < to = far_behind (shown was gap begun) to far in
      record {
        at = at;
        end = end;
        gap = refl;
        begun = refl;
        enough = enough;
        on = omega (arith, from, at);
        reads = reads_along _ _ (ap (λ k. range_with_len k (ahead new - k)) (sym from)) (reads_weaken (IsPiece to until) (IsPiece was.at until) (piece_wider to was.at until le) reads);
        idle = λ all. absurd (omega (arith, behind, all));
        before = λ _. before;
      })
      is onward

  pub part_near : is_near old to ≡ true → ReadsFront (IsPiece was.at until) s s' (range_with_len (ahead was) (until - ahead was)) → ReachesPart old s s' to until
  part_near is front =
      subst (λ (o : Bridging). is_near o to ≡ true → ReachesPart o s s' to until) same
      (λ near. front_along _ _ (ap (λ k. range_with_len k (until - k)) (sym (asks_near (shown was gap begun) to near))) front) is

  pub part_far : is_near old to ≡ false → old.held.at ≤ to → ReadsFront (IsPiece to until) s s' (range_with_len to (until - to)) → ReachesPart old s s' to until
  part_far is onward front =
      subst (λ (o : Bridging). is_near o to ≡ false → o.held.at ≤ to → ReachesPart o s s' to until) same
      (λ far le. front_along _ _ (ap (λ k. range_with_len k (until - k)) (sym (asks_far (shown was gap begun) to far)))
      (front_weaken (IsPiece to until) (IsPiece was.at until) (piece_wider to was.at until le) front))
      is onward

-- the section ends where it ended
pub end_kept : {T E : Type 0} (r : Result T E) (old new : Bridging) (s s' : Source) (to want until : ℕ) → OnOk r (Reaches old new s s' to want until) → OnErr r (Stays old new) → new.held.end ≡ old.held.end
end_kept (Ok x) old new s s' to want until reaches stays = reaches.end
end_kept (Err e) old new s s' to want until reaches stays = stays.end
