-- What a window asked for over several fills at one place.
use Rattle.std.proofs.Common.{◌≡◌, ℕ, ◌+◌, ◌-◌, ◌≤◌, ◌<◌, max, List, ⊎_elim, length, take, slice_range, Result, Some, refl, ap, subst, ◌∙◌, arith}
use Rattle.std.specs.Prelude.{OnErr}
use Rattle.std.specs.List.{range_with_len}
use Rattle.std.proofs.lemmas.Bool.{cases_lt}
use Rattle.fgb_outside.specs.Source.{Source, IfTold}
use Rattle.fgb_outside.specs.Asked.{IsInside, Reads, ReadsFront}
use Rattle.fgb_outside.proofs.Asking.{reads_along, reads_reads, reads_weaken, reads_then_front, front_nothing, front_longer, front_along, front_weaken, inside_wider}
use Rattle.section_window.specs.Window.{Held, ahead, Grows, Shows}
use Rattle.section_window.proofs.Showing.{grows_ahead, shows_front}
use Rattle.section_window.proofs.Parts.{range_join}
use Rattle.fgb_file.specs.File.{size_at}
use Rattle.read_stop.proofs.Stopping.{on_err}
use Rattle.hit_reader.specs.Filling.{Fills, FillsPart}

-- one fill, up to a bound inside the section
pub fills_one : (w w' : Held) (s s' : Source) (till : ℕ) → w'.at ≡ w.at → till ≤ w.end → Grows w w' → Reads (IsInside w.at till) s s' (range_with_len (ahead w) (ahead w' - ahead w)) → Fills w w' s s'
fills_one w w' s s' till at within grows reads = record {
  reads = reads_weaken (IsInside w.at till) (IsInside w.at w.end) (inside_wider w.at till w.at w.end (omega arith) within) reads;
  onward = grows_ahead w w' at grows;
}

pub part_one : (w : Held) (s s' : Source) (till : ℕ) → till ≤ w.end → ReadsFront (IsInside w.at till) s s' (range_with_len (ahead w) (till - ahead w)) → FillsPart w till s s'
part_one w s s' till within front = front_weaken (IsInside w.at till) (IsInside w.at w.end) (inside_wider w.at till w.at w.end (omega arith) within) front

-- a front of less
pub part_longer : (w : Held) (s s' : Source) (till till' : ℕ) → till ≤ till' → FillsPart w till s s' → FillsPart w till' s s'
part_longer w s s' till till' le front =
    let m = till - ahead w in
    let n = (till' - ahead w) - m in
    front_along _ _ (range_join (ahead w) m (ahead w + m) n (till' - ahead w) refl (omega arith)) (front_longer (range_with_len (ahead w + m) n) front)

module _ (u v : Held) (a b c : Source) (at : v.at ≡ u.at) (end : v.end ≡ u.end) (first : Fills u v a b) where
  here : (P : ℕ → ℕ → Type 0) → P v.at v.end → P u.at u.end
  here P p = subst (λ from. P from u.end) at (subst (λ till. P v.at till) end p)

  -- one after the other
  pub fills_on : (w : Held) → Fills v w b c → Fills u w a c
  fills_on w second = record {
    reads = reads_along _ _ (range_join (ahead u) (ahead v - ahead u) (ahead v) (ahead w - ahead v) (ahead w - ahead u) (omega (arith, first.onward)) (omega (arith, first.onward, second.onward)))
        (reads_reads first.reads (here (λ from till. Reads (IsInside from till) b c (range_with_len (ahead v) (ahead w - ahead v))) second.reads));
    onward = omega (arith, first.onward, second.onward);
  }

  -- and then a part of what is left up to a place that the first did not pass
  pub part_on : (till : ℕ) → ahead v ≤ max (ahead u) till → FillsPart v till b c → FillsPart u till a c
  part_on till near second =
      front_along _ _ (range_join (ahead u) (ahead v - ahead u) (ahead v) (till - ahead v) (till - ahead u) (omega (arith, first.onward)) (omega (arith, first.onward, near)))
      (reads_then_front first.reads (here (λ from to. ReadsFront (IsInside from to) b c (range_with_len (ahead v) (till - ahead v))) second))

-- what a fill up to a bound asked for
pub near_bound : (w w' : Held) (want till : ℕ) → (want ≤ length w.bytes → w' ≡ w) → (length w.bytes < want → ahead w' ≤ till) → ahead w' ≤ max (ahead w) till
near_bound w w' want till held short = ⊎_elim
    (λ (less : length w.bytes < want). omega (arith, short less))
    (λ (enough : want ≤ length w.bytes). omega (arith, ap ahead (held enough)))
    (cases_lt (length w.bytes) want)

-- all that was asked for is a front of it
pub part_whole : (u v : Held) (a b : Source) (till : ℕ) → v.at ≡ u.at → v.end ≡ u.end → ahead v ≤ max (ahead u) till → Fills u v a b → FillsPart u till a b
part_whole u v a b till at end near first = part_on u v a b b at end first till near (front_nothing b (range_with_len (ahead v) (till - ahead v)))

-- a front of what is up to a feature's end, where the bytes are told, whatever the result of the whole is
pub part_told : {T E : Type 0} (r : Result T E) (w : Held) (s s' : Source) (until : ℕ) → ((image : List ℕ) → s.image ≡ Some image → w.end ≡ length image → FillsPart w (max until (w.at + 4 + size_at image w.at)) s s')
    → OnErr r (IfTold s (λ image. w.end ≡ length image → FillsPart w (max until (w.at + 4 + size_at image w.at)) s s'))
part_told r w s s' until part = on_err r _ part

-- the size prefix that lies at the front of the window
pub front_bytes : (w : Held) (s s' : Source) (bytes : List ℕ) (at : ℕ) → s'.image ≡ s.image → bytes ≡ w.bytes → w.at ≡ at → 4 ≤ length w.bytes → Shows w s' → IfTold s (λ image. take 4 bytes ≡ slice_range image at (at + 4))
front_bytes w s s' bytes at same held here enough shows image told =
    ap (take 4) held ∙ shows_front w s' 4 enough shows image (same ∙ told) ∙ ap (λ n. slice_range image n (n + 4)) here
