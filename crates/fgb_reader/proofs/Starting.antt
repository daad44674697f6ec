-- The twelve bytes of the start, as they were read and as they are judged.
use Rattle.std.proofs.Common.{◌≡◌, ℕ, ◌+◌, ◌-◌, ◌*◌, ◌^◌, ◌≤◌, ◌<◌, Bool, true, false, Result, Ok, Err, MatchResult, Some, None, List, length, take, drop, slice_range, sym, ap, subst, ◌∙◌, arith, length-drop}
use Rattle.std.proofs.lemmas.List.{take_all}
use Rattle.flat_layout.specs.declared.Rule.TheVariants.{IndexPastEnd}
use Rattle.level_bounds.specs.Levels.{Shape, HasLevels, LacksLevels, no_feature, too_narrow, too_many, node_count}
use Rattle.flat_layout.specs.declared.Broken.{Broken}
use Rattle.flat_layout.specs.Layout.{number_at}
use Rattle.flat_layout.specs.Promises.{IsClean, Judges}
use Rattle.fgb_schema.specs.Paths.{header_root}
use Rattle.fgb_schema.specs.Weights.{BreaksBuffer}
use Rattle.fgb_schema.specs.Headers.{Header, header_of, has_index}
use Rattle.fgb_outside.specs.Source.{Source}
use Rattle.fgb_outside.specs.Asked.{IsInside, Reads}
use Rattle.fgb_outside.proofs.Asking.{reads_weaken}
use Rattle.fgb_file.specs.File.{header_end, header_buffer, header_in, told_count, IsStart, IsHeader, IsTree, IsOpen, absent, present, BreaksInFront}
use Rattle.fgb_file.proofs.Bytes.{slice_is, number_at-drop}
use Rattle.fgb_file.proofs.Opening.{shape_same}
use Rattle.fgb_file.proofs.Starting.{front_past_end, front_refused}
use Rattle.fgb_reader.specs.Starts.{IsOfStart}

pub as_slice : (image start : List ℕ) → length start ≡ 12 → start ≡ take 12 image → start ≡ slice_range image 0 (0 + length start)
as_slice image start twelve front = front ∙ ap (λ n. take n image) (sym twelve) ∙ sym (slice_is image 0 (length start))

pub as_front : (image start : List ℕ) → length start ≡ 12 → start ≡ slice_range image 0 (0 + length start) → start ≡ take 12 image
as_front image start twelve read = read ∙ slice_is image 0 (length start) ∙ ap (λ n. take n image) twelve

-- what was asked for the start
of_start : (size : ℕ) → size ≤ 2 ^ 48 → 12 ≤ size → (pair : ℕ × ℕ) → IsInside 0 12 pair → IsOfStart size pair
of_start size short long pair inside = record { short = short; long = long; inside = inside }

pub start_reads : {s s' : Source} (size : ℕ) (xs : List ℕ) → size ≤ 2 ^ 48 → 12 ≤ size → Reads (IsInside 0 12) s s' xs → Reads (IsOfStart size) s s' xs
start_reads size xs short long reads = reads_weaken (IsInside 0 12) (IsOfStart size) (of_start size short long) reads

-- the number in the bytes of the start behind the eighth
pub size_number : (start : List ℕ) → number_at 4 (take (length start - 8) (drop 8 start)) 0 ≡ number_at 4 start 8
size_number start = ap (λ s. number_at 4 s 0) (take_all (length start - 8) (drop 8 start) (omega (arith, length-drop 8 start))) ∙ number_at-drop 4 8 start

-- the header, as it was read from its buffer
pub header_judged : {T : Type 0} (shown : T → Header) (image buffer : List ℕ) (r : Result T Broken) → IsStart image → buffer ≡ header_buffer image
    → Judges 12 (BreaksBuffer buffer header_root) (λ h. shown h ≡ header_of buffer) r → MatchResult r (λ h. IsHeader image × (shown h ≡ header_in image)) (BreaksInFront image)
header_judged shown image buffer (Ok h) start held judged =
    (record { start = start; clean = subst (λ b. IsClean (BreaksBuffer b header_root)) held judged.1 }, judged.0 ∙ ap header_of held)
header_judged shown image buffer (Err e) start held judged = front_refused image buffer e start held judged

-- the index of a file with this header, which begins at its place behind it
module _ (image : List ℕ) (shown : Header) (place size : ℕ) (header : IsHeader image) (same : shown ≡ header_in image) (behind : place ≡ header_end image) (whole : size ≡ length image) where
  its_index : {b : Bool} → has_index shown ≡ b → has_index (header_in image) ≡ b
  its_index is = ap has_index (sym same) ∙ is

  pub open_without : has_index shown ≡ false → IsOpen image None
  open_without none = record { header = header; between = absent (its_index none) }

  its_levels : {t : Shape} → HasLevels shown.features_count shown.node_size t → HasLevels (told_count image) (header_in image).node_size t
  its_levels {t = t} levels = subst (λ h. HasLevels h.features_count h.node_size t) same levels

  open_with : {t : Shape} → has_index shown ≡ true → HasLevels shown.features_count shown.node_size t → place ≤ size → 40 * node_count t ≤ size - place → IsOpen image (Some t)
  open_with {t = t} has levels order fits = record {
    header = header;
    between = present (its_index has) (record { levels = its_levels levels; inside = omega (arith, fits, order, behind, whole) });
  }

  -- a tree of the file has the levels that the header says
  tree_levels : {t : Shape} → IsTree image t → HasLevels shown.features_count shown.node_size t
  tree_levels {t = t} tree = subst (λ h. HasLevels h.features_count h.node_size t) (sym same) tree.levels

  lacking : LacksLevels shown.features_count shown.node_size → (u : Shape) → IsTree image u → ⊥
  lacking (no_feature none) u tree = let levels = tree_levels tree in omega (arith, none, levels.shaped.some, levels.leaves)
  lacking (too_narrow narrow) u tree = let levels = tree_levels tree in omega (arith, narrow, levels.shaped.wide, levels.sized)
  lacking (too_many {t = t} shaped leaves sized large) u tree =
      let levels = tree_levels tree in
      omega (arith, large, levels.fits, ap node_count (shape_same t u shaped levels.shaped (leaves ∙ sym levels.leaves) (sized ∙ sym levels.sized)))

  past : {t : Shape} → HasLevels shown.features_count shown.node_size t → size - place < 40 * node_count t → (u : Shape) → IsTree image u → ⊥
  past {t = t} levels long u tree =
      let other = tree_levels tree in
      omega (arith, long, tree.inside, behind, whole, ap node_count (shape_same t u levels.shaped other.shaped (levels.leaves ∙ sym other.leaves) (levels.sized ∙ sym other.sized)))

  refused : has_index shown ≡ true → ((u : Shape) → IsTree image u → ⊥) → BreaksInFront image (record { place = place; rule = IndexPastEnd })
  refused has none = subst (λ n. BreaksInFront image (record { place = n; rule = IndexPastEnd })) (sym behind) (front_past_end image header (its_index has) none)

  -- as the levels were made of its numbers
  module _ (n s : ℕ) (counted : n ≡ shown.features_count) (sized : s ≡ shown.node_size) (has : has_index shown ≡ true) where
    pub refuse_lacking : LacksLevels n s → BreaksInFront image (record { place = place; rule = IndexPastEnd })
    refuse_lacking lacks = refused has (lacking (subst (λ n. LacksLevels n shown.node_size) counted (subst (LacksLevels n) sized lacks)))

    as_told : {t : Shape} → HasLevels n s t → HasLevels shown.features_count shown.node_size t
    as_told {t = t} levels = subst (λ n. HasLevels n shown.node_size t) counted (subst (λ s. HasLevels n s t) sized levels)

    pub refuse_past : {t : Shape} → HasLevels n s t → size - place < 40 * node_count t → BreaksInFront image (record { place = place; rule = IndexPastEnd })
    refuse_past levels long = refused has (past (as_told levels) long)

    pub open_levels : {t : Shape} → HasLevels n s t → place ≤ size → 40 * node_count t ≤ size - place → IsOpen image (Some t)
    open_levels levels order fits = open_with has (as_told levels) order fits
