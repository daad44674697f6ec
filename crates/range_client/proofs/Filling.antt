-- A place that is filled piece by piece.
use Rattle.std.proofs.Common.{◌≡◌, ℕ, ◌+◌, ◌-◌, ◌<◌, ◌≤◌, List, [], ◌++◌, length, take, drop, refl, sym, ap, subst, ◌∙◌, arith}
use Rattle.std.specs.Prelude.{slice_range}
use Rattle.std.proofs.Math.Seq.{take-add}
use Rattle.std.proofs.lemmas.List.{drop-drop, drop-take, length-drop, length-take, take-take, take_all}
use Rattle.byte_links.specs.Link.{LinkState}
use Rattle.range_client.specs.declared.faults.Fault.{Fault}
use Rattle.range_client.specs.Steps.{Stops, Takes}
use Rattle.range_client.proofs.Ending.{slice_nothing}
use Rattle.range_client.proofs.Taking.{takes_nothing, takes_takes, takes_then_stops}

-- the places from `from` to `at` are filled
pub record FillsOn (old new : LinkState) (was into : List ℕ) (from at : ℕ) : Type 0 where
  pub order : from ≤ at
  pub room : at ≤ length into
  pub len : length into ≡ length was
  pub front : take from into ≡ take from was
  pub takes : Takes old new (slice_range into from at)

pub fills_nothing : (link : LinkState) (into : List ℕ) (from : ℕ) → from ≤ length into → FillsOn link link into into from from
fills_nothing link into from room = record {
  order = omega arith;
  room = room;
  len = refl;
  front = refl;
  takes = subst (λ (l : List ℕ). Takes link link l) (sym (slice_nothing into from)) (takes_nothing link);
}

-- parts one behind the other
slice_join : (l : List ℕ) (a b c : ℕ) → a ≤ b → b ≤ c → slice_range l a b ++ slice_range l b c ≡ slice_range l a c
slice_join l a b c ab bc =
    let e : a + (b - a) ≡ b = omega arith in
    let f : (b - a) + (c - b) ≡ c - a = omega arith in
    ap (λ x. take (b - a) (drop a l) ++ take (c - b) x) (ap (λ k. drop k l) (sym e) ∙ sym (drop-drop (b - a) a l))
    ∙ sym (take-add (b - a) (c - b) (drop a l)) ∙ ap (λ k. take k (drop a l)) f

-- a part of a front
slice_front : (l : List ℕ) (a b : ℕ) → a ≤ b → slice_range l a b ≡ drop a (take b l)
slice_front l a b order =
    let e : a + (b - a) ≡ b = omega arith in
    sym (drop-take a (b - a) l) ∙ ap (λ k. drop a (take k l)) e

pub fills_more : (old mid new : LinkState) (was into after : List ℕ) (from at to : ℕ) → FillsOn old mid was into from at → at < to → to ≤ length after
    → length after ≡ length into → take at after ≡ take at into → Takes mid new (slice_range after at to) → FillsOn old new was after from to
fills_more old mid new was into after from at to so_far order room len front read =
    let same : slice_range into from at ≡ slice_range after from at = slice_front into from at so_far.order ∙ ap (drop from) (sym front) ∙ sym (slice_front after from at so_far.order) in
    record {
      order = omega (arith, so_far.order);
      room = room;
      len = len ∙ so_far.len;
      front = sym (take-take from at after so_far.order) ∙ ap (take from) front ∙ take-take from at into so_far.order ∙ so_far.front;
      takes = subst (λ (l : List ℕ). Takes old new l) (ap (λ l. l ++ slice_range after at to) same ∙ slice_join after from at to so_far.order (omega arith))
          (takes_takes old mid new (slice_range into from at) (slice_range after at to) so_far.takes read);
    }

-- a read that gave nothing
pub fills_stopped : (old mid new : LinkState) (was into after : List ℕ) (from at : ℕ) (fault : Fault) → FillsOn old mid was into from at → at < length into
    → length after ≡ length into → Stops mid new [] fault → (got : List ℕ) × (from + length got < length after) × Stops old new got fault
fills_stopped old mid new was into after from at fault so_far more same stops =
    let len : length (slice_range into from at) ≡ at - from = simp (length-take, length-drop) (omega (arith, so_far.room)) in
    (slice_range into from at, omega (arith, len, so_far.order), takes_then_stops old mid new (slice_range into from at) fault so_far.takes stops)

-- all is filled
pub filled : (old new : LinkState) (was into : List ℕ) (from at : ℕ) → FillsOn old new was into from at → length into ≤ at → Takes old new (drop from into)
filled old new was into from at so_far all =
    subst (λ (l : List ℕ). Takes old new l) (take_all (at - from) (drop from into) (omega (arith, length-drop from into))) so_far.takes
