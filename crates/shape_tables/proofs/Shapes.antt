-- A shape that was laid: it is shown, and breaks nothing, level by level.
use Rattle.std.proofs.Common.{◌≡◌, ℕ, zero, suc, ◌+◌, ◌≤◌, Bool, true, false, List, map, refl, ap, ap₂, sym, ◌∙◌, arith}
use Rattle.std.specs.Prelude.{if◌then◌else◌}
use Rattle.std.specs.List.{range_with_len}
use Rattle.flat_layout.specs.Layout.{led_to, target, entry_place}
use Rattle.fgb_schema.specs.Tables.{geometry, kind_of, has_parts, part_type}
use Rattle.fgb_schema.specs.Paths.{geometry_part}
use Rattle.fgb_schema.specs.Shapes.{Shape, shape, Shapes, none as no_shapes, more, Ordinates, shapes_of, shape_with, parts_by, shape_at}
use Rattle.fgb_schema.proofs.TablesParts.{entry_part, entry_parts}
use Rattle.flat_builder.specs.Trees.{empty}
use Rattle.flat_laid.specs.Trees.{fields_weight}
use Rattle.flat_laid.specs.Lies.{IsTable, HasFields}
use Rattle.shape_tables.specs.Laying.{shape_table, part_tables}
use Rattle.shape_tables.specs.Records.{depth, deepest, IsLevel, IsSound, AreSound, Suits}
use Rattle.shape_tables.proofs.Unbroken.{IsUnbroken, AreUnbroken, unbroken_none, ◌◁◌}
use Rattle.shape_tables.proofs.Levels.{parts_held, kind_seen, level_shown, level_unbroken}
use Rattle.shape_tables.proofs.PartLists.{part_count, parts_weight, AllSuit, parts_suit, no_parts, no_deeper, place, EachLies, entry_unbroken, parts_lie, parts_counted, parts_unbroken}

-- the table of a shape at t
abbrev pub LiesAt : List ℕ → Shape → ℕ → Type 0
LiesAt b s t = IsTable b (shape_table s) t (HasFields b (shape_table s) t)

no_tables : (parts : Shapes) → parts ≡ no_shapes → part_tables parts empty ≡ empty
unfolding part_tables
no_tables parts nothing = ap (λ ss. part_tables ss empty) nothing

-- one level, with what is said of its parts
module _ (b : List ℕ) (t kind : ℕ) (own rings : List (ℕ × ℕ)) (lists : Ordinates) (parts : Shapes) (is : IsLevel (shape kind own rings lists parts))
    (lies : LiesAt b (shape kind own rings lists parts) t) where
  step_lies : EachLies b (led_to b t 7) 0 parts
  unfolding shape_table
  step_lies = parts_lie b t 7 parts (parts_held b t kind own rings lists parts (part_tables parts empty) is lies)

  no_parts_laid : has_parts kind ≡ false → parts ≡ no_shapes
  no_parts_laid lacks = no_parts kind own rings lists parts (is.no_parts lacks)

  parts_if : (show : ℕ → Shape) (x : Bool) → has_parts kind ≡ x → shapes_of (map (λ i. show (target b (entry_place b (led_to b t 7) i))) (range_with_len 0 (part_count parts))) ≡ parts
      → (if x then parts_by show b t else no_shapes) ≡ parts
  unfolding shape_table
  parts_if show true has seen =
      ap (λ n. shapes_of (map (λ i. show (target b (entry_place b (led_to b t 7) i))) (range_with_len 0 n))) (parts_counted b t 7 parts (parts_held b t kind own rings lists parts (part_tables parts empty) is lies))
      ∙ seen
  parts_if show false lacks seen = sym (no_parts_laid lacks)

  module _ (outer : ℕ) (suits : Suits outer (shape kind own rings lists parts)) where
    step_unbroken : (d : ℕ) → d ≤ 16 → AreUnbroken b (entry_parts b (geometry (part_type kind) (d + 1)) (led_to b t 7) (part_count parts)) (parts_weight parts)
        → IsUnbroken b (geometry_part outer d t) (4 + fields_weight (shape_table (shape kind own rings lists parts)))
    unfolding shape_table
    step_unbroken d shallow entries = level_unbroken b t kind own rings lists parts (part_tables parts empty) is lies outer d suits shallow
        (λ has. parts_unbroken b t 7 (part_type kind) (d + 1) parts (parts_held b t kind own rings lists parts (part_tables parts empty) is lies) entries)
        (λ lacks. no_tables parts (no_parts_laid lacks))

    kind_laid : kind_of outer b t ≡ kind
    unfolding shape_table
    kind_laid = kind_seen b t kind own rings lists parts (part_tables parts empty) is lies outer suits

    seen_with : (seen : Shapes) → shape_with kind b t seen ≡ shape kind own rings lists seen
    unfolding shape_table
    seen_with seen = level_shown b t kind own rings lists parts (part_tables parts empty) is lies seen

    last_shown : parts ≡ no_shapes → shape_at 0 outer b t ≡ shape kind own rings lists parts
    unfolding shape_at
    last_shown nothing = ap (λ k. shape_with k b t no_shapes) kind_laid ∙ seen_with no_shapes ∙ ap (shape kind own rings lists) (sym nothing)

    level_seen : (levels : ℕ) → shapes_of (map (λ i. shape_at levels (part_type kind) b (target b (entry_place b (led_to b t 7) i))) (range_with_len 0 (part_count parts))) ≡ parts
        → shape_at (suc levels) outer b t ≡ shape kind own rings lists parts
    unfolding shape_at
    level_seen levels seen =
        ap (λ k. shape_with k b t (if has_parts k then parts_by (shape_at levels (part_type k) b) b t else no_shapes)) kind_laid
        ∙ seen_with (if has_parts kind then parts_by (shape_at levels (part_type kind) b) b t else no_shapes)
        ∙ ap (shape kind own rings lists) (parts_if (shape_at levels (part_type kind) b) (has_parts kind) refl seen)

mutual
  pub shape_unbroken : (s : Shape) (b : List ℕ) (t outer d : ℕ) → IsSound s → Suits outer s → d + depth s ≤ 17 → LiesAt b s t → IsUnbroken b (geometry_part outer d t) (4 + fields_weight (shape_table s))
  shape_unbroken (shape kind own rings lists parts) b t outer d is suits shallow lies =
      step_unbroken b t kind own rings lists parts is.0 lies outer suits d (omega (arith, shallow))
      (parts_unbroken_from parts b (led_to b t 7) (part_type kind) (d + 1) 0 is.1 (parts_suit kind own rings lists parts is.0.polygons) (omega (arith, shallow)) (step_lies b t kind own rings lists parts is.0 lies))

  parts_unbroken_from : (parts : Shapes) (b : List ℕ) (v outer d i : ℕ) → AreSound parts → AllSuit outer parts → d + deepest parts ≤ 17 → EachLies b v i parts
      → AreUnbroken b (map (entry_part b (geometry outer d) v) (range_with_len i (part_count parts))) (parts_weight parts)
  parts_unbroken_from no_shapes b v outer d i are suit shallow lie = unbroken_none b
  parts_unbroken_from (more first rest) b v outer d i are suit shallow lie =
      entry_unbroken b v outer d i (4 + fields_weight (shape_table first)) lie.0 (shape_unbroken first b (place b v i) outer d are.0 suit.0 (omega (arith, shallow)) lie.1)
      ◁ parts_unbroken_from rest b v outer d (i + 1) are.1 suit.1 (omega (arith, shallow)) lie.2

mutual
  pub shape_shown : (s : Shape) (b : List ℕ) (t outer levels : ℕ) → IsSound s → Suits outer s → depth s ≤ levels + 1 → LiesAt b s t → shape_at levels outer b t ≡ s
  shape_shown (shape kind own rings lists parts) b t outer zero is suits shallow lies =
      last_shown b t kind own rings lists parts is.0 lies outer suits (no_deeper parts (omega (arith, shallow)))
  shape_shown (shape kind own rings lists parts) b t outer (suc levels) is suits shallow lies =
      level_seen b t kind own rings lists parts is.0 lies outer suits levels
      (parts_shown_from parts b (led_to b t 7) (part_type kind) levels 0 is.1 (parts_suit kind own rings lists parts is.0.polygons) (omega (arith, shallow)) (step_lies b t kind own rings lists parts is.0 lies))

  parts_shown_from : (parts : Shapes) (b : List ℕ) (v outer levels i : ℕ) → AreSound parts → AllSuit outer parts → deepest parts ≤ levels + 1 → EachLies b v i parts
      → shapes_of (map (λ k. shape_at levels outer b (place b v k)) (range_with_len i (part_count parts))) ≡ parts
  parts_shown_from no_shapes b v outer levels i are suit shallow lie = refl
  parts_shown_from (more first rest) b v outer levels i are suit shallow lie = ap₂ more
      (shape_shown first b (place b v i) outer levels are.0 suit.0 (omega (arith, shallow)) lie.1)
      (parts_shown_from rest b v outer levels (i + 1) are.1 suit.1 (omega (arith, shallow)) lie.2)
