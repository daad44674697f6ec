-- The tables of the parts of a shape, as they lie in a buffer: how many there are, and what a list of them breaks.
use Rattle.std.proofs.Common.{◌≡◌, inl, inr, ℕ, suc, ◌+◌, ◌*◌, ◌≤◌, true, List, [], ◌∷◌, map, fold, refl, sym, subst, ◌∙◌, arith}
use Rattle.std.specs.Prelude.{⊤}
use Rattle.std.specs.List.{All}
use Rattle.std.proofs.lemmas.Bool.{both_ways}
use Rattle.std.proofs.lemmas.Bool.Decides.{eqb_tells}
use Rattle.std.proofs.lemmas.List.Elements.{All-head, All-tail}
use Rattle.flat_layout.specs.Layout.{is_absent, is_offset, is_vector, count, led_to, target, entry_place, field_place}
use Rattle.flat_layout.specs.Promises.{IsClean, BreaksVector, BreaksTo}
use Rattle.flat_layout.proofs.Judging.{clean-vector, clean-through, clean-to, clean-to_absent}
use Rattle.fgb_schema.specs.Tables.{geometry, tables as tables_thing, table as table_thing, link, part_type}
use Rattle.fgb_schema.specs.Paths.{thing, field, count_in, geometry_part}
use Rattle.fgb_schema.specs.Shapes.{Shape, shape, Shapes, none as no_shapes, more, Ordinates, type_in, parts_in, shapes_of}
use Rattle.fgb_schema.specs.Weights.{Weighs}
use Rattle.fgb_schema.proofs.Roots.{offset_clean}
use Rattle.fgb_schema.proofs.FieldParts.{to_tables_clean}
use Rattle.fgb_schema.proofs.Links.{IsLink}
use Rattle.fgb_schema.proofs.TablesParts.{entry_part, entry_parts, tables_clean}
use Rattle.fgb_schema.proofs.Weighing.{weigh_absent, weigh_link, weigh_offset, weigh_tables}
use Rattle.flat_builder.specs.Trees.{Tables, empty, push, tables, table_count}
use Rattle.flat_builder.specs.Laying.{width_of}
use Rattle.flat_laid.specs.Trees.{item_weight, fields_weight, tables_weight}
use Rattle.flat_laid.specs.Lies.{IsTable, HasFields, HasTables, HasField}
use Rattle.shape_tables.specs.Laying.{shape_table, part_tables, tables_item}
use Rattle.shape_tables.specs.Records.{depth, deepest, Suits}
use Rattle.shape_tables.proofs.Held.{IsHeld}
use Rattle.shape_tables.proofs.Unbroken.{IsUnbroken, AreUnbroken, held_weight}

abbrev pub part_count : Shapes → ℕ
part_count no_shapes = 0
part_count (more first rest) = suc (part_count rest)

-- the tables alone, without the entries of their vector
abbrev pub parts_weight : Shapes → ℕ
parts_weight no_shapes = 0
parts_weight (more first rest) = (4 + fields_weight (shape_table first)) + parts_weight rest

pub weight-parts : (parts : Shapes) (before : Tables) → tables_weight (part_tables parts before) ≡ tables_weight before + parts_weight parts
unfolding part_tables
weight-parts no_shapes before = omega arith
weight-parts (more first rest) before = omega (arith, weight-parts rest (push before (shape_table first)))

pub count-parts : (parts : Shapes) (before : Tables) → table_count (part_tables parts before) ≡ table_count before + part_count parts
unfolding part_tables
count-parts no_shapes before = omega arith
count-parts (more first rest) before = omega (arith, count-parts rest (push before (shape_table first)))

-- one behind the other
pub parts_listed : (parts : List Shape) (before : Tables) → part_tables (shapes_of parts) before ≡ fold push before (map shape_table parts)
unfolding part_tables
parts_listed [] before = refl
parts_listed (first ∷ rest) before = parts_listed rest (push before (shape_table first))

-- each may stand where this type is given from outside
abbrev pub AllSuit : ℕ → Shapes → Type 0
AllSuit outer no_shapes = ⊤
AllSuit outer (more first rest) = Suits outer first × AllSuit outer rest

module _ (kind : ℕ) (own rings : List (ℕ × ℕ)) (lists : Ordinates) where
  polygons_suit : (parts : Shapes) → All (λ part. type_in part ≡ 3) (parts_in (shape kind own rings lists parts)) → AllSuit 3 parts
  polygons_suit no_shapes all = tt
  polygons_suit (more first rest) all =
      let others = parts_in (shape kind own rings lists rest) in
      (inr (sym (All-head (λ part. type_in part ≡ 3) first others all)), polygons_suit rest (All-tail (λ part. type_in part ≡ 3) first others all))

  pub parts_suit : (parts : Shapes) → (kind ≡ 6 → All (λ part. type_in part ≡ 3) (parts_in (shape kind own rings lists parts))) → AllSuit (part_type kind) parts
  parts_suit parts polygons = elim (eqb_tells kind 6) [
    | inl six ↦ rw six.0 (polygons_suit parts (polygons six.1))
    | inr other ↦ rw other.0 (all_own parts)
  ]
    where
      all_own : (parts : Shapes) → AllSuit 0 parts
      all_own no_shapes = tt
      all_own (more first rest) = (inl refl, all_own rest)

  pub no_parts : (parts : Shapes) → parts_in (shape kind own rings lists parts) ≡ [] → parts ≡ no_shapes
  no_parts no_shapes nothing = refl
  no_parts (more first rest) nothing = absurd (differ nothing)
    where
      differ : first ∷ parts_in (shape kind own rings lists rest) ≡ [] → ⊥
      differ same = cc

-- a shape has a level
some_depth : (s : Shape) → 1 ≤ depth s
some_depth (shape kind own rings lists parts) = omega arith

pub no_deeper : (parts : Shapes) → deepest parts ≤ 0 → parts ≡ no_shapes
no_deeper no_shapes shallow = refl
no_deeper (more first rest) shallow = absurd (omega (arith, shallow, some_depth first))

module _ (b : List ℕ) (v : ℕ) where
  abbrev pub place : ℕ → ℕ
  place i = target b (entry_place b v i)

  -- from entry i of the vector on, each leads to the table of a shape
  abbrev pub EachLies : ℕ → Shapes → Type 0
  EachLies i no_shapes = ⊤
  EachLies i (more first rest) = (is_offset b (entry_place b v i) ≡ true) × IsTable b (shape_table first) (place i) (HasFields b (shape_table first) (place i)) × EachLies (i + 1) rest

  front : (parts : Shapes) (before : Tables) → HasTables b (part_tables parts before) v → HasTables b before v
  unfolding part_tables
  front no_shapes before has = has
  front (more first rest) before has = (front rest (push before (shape_table first)) has).0

  pub each_lies : (parts : Shapes) (before : Tables) → HasTables b (part_tables parts before) v → EachLies (table_count before) parts
  unfolding part_tables
  each_lies no_shapes before has = tt
  each_lies (more first rest) before has =
      let here = front rest (push before (shape_table first)) has in
      (here.1, here.2, each_lies rest (push before (shape_table first)) has)

  -- an entry, by the table that it leads to
  pub entry_unbroken : (outer d i w : ℕ) → is_offset b (entry_place b v i) ≡ true → IsUnbroken b (geometry_part outer d (place i)) w → IsUnbroken b (entry_part b (geometry outer d) v i) w
  entry_unbroken outer d i w sound behind = record {
    clean = offset_clean b (table_thing (geometry outer d)) (entry_place b v i) sound behind.clean;
    weighs = weigh_offset b (table_thing (geometry outer d)) (entry_place b v i) w sound behind.weighs;
  }

  -- the whole vector, by its entries
  pub vector_unbroken : (outer d n w : ℕ) → is_vector 4 b v ≡ true → count b v ≡ n → AreUnbroken b (entry_parts b (geometry outer d) v n) w → IsUnbroken b (thing (tables_thing (geometry outer d)) v) (4 * n + w)
  vector_unbroken outer d n w inside counted entries =
      let here = subst (λ n. AreUnbroken b (entry_parts b (geometry outer d) v n) w) (sym counted) entries in
      record {
        clean = tables_clean b (geometry outer d) v inside refl here.clean;
        weighs = subst (λ n. Weighs b (thing (tables_thing (geometry outer d)) v) (4 * n + w)) counted (weigh_tables b (geometry outer d) v w inside here.weigh);
      }

-- the field that leads to them, if there are any
module _ (b : List ℕ) (t id : ℕ) where
  tables_link : (ts : Tables) {lies : Type 0} → HasField b (tables ts) t id lies → IsLink b t id
  unfolding width_of
  tables_link ts has = record { present = has.present; field = has.fits; offset = has.led }

  held_tables : (ts : Tables) → IsHeld b t id (tables_item ts) → HasTables b ts (led_to b t id)
  held_tables empty held = tt
  held_tables (push before last) held = held.item.2

  held_count : (ts : Tables) → IsHeld b t id (tables_item ts) → count_in b t id ≡ table_count ts
  held_count empty held = rw held refl
  held_count (push before last) held = rw held.present held.item.1

  pub parts_lie : (parts : Shapes) → IsHeld b t id (tables_item (part_tables parts empty)) → EachLies b (led_to b t id) 0 parts
  parts_lie parts held = each_lies b (led_to b t id) parts empty (held_tables (part_tables parts empty) held)

  pub parts_counted : (parts : Shapes) → IsHeld b t id (tables_item (part_tables parts empty)) → count_in b t id ≡ part_count parts
  parts_counted parts held = held_count (part_tables parts empty) held ∙ count-parts parts empty ∙ (omega arith)

  linked_clean : (l : IsLink b t id) → is_vector 4 b (led_to b t id) ≡ true → IsClean (BreaksTo (BreaksVector 4) b t id)
  unfolding led_to
  linked_clean l inside = clean-to (BreaksVector 4) b t id l.field (clean-through (BreaksVector 4) b (field_place b t id) l.offset (clean-vector 4 b (led_to b t id) inside))

  pub tables_unbroken : (outer d : ℕ) (ts : Tables) → IsHeld b t id (tables_item ts) → AreUnbroken b (entry_parts b (geometry outer d) (led_to b t id) (table_count ts)) (tables_weight ts)
      → IsUnbroken b (field (link (tables_thing (geometry outer d))) t id) (held_weight (tables_item ts))
  tables_unbroken outer d empty held entries = record {
    clean = to_tables_clean b t id (geometry outer d) (clean-to_absent (BreaksVector 4) b t id held) (λ l. absurd (both_ways (is_absent b t id) l.present held));
    weighs = weigh_absent b (tables_thing (geometry outer d)) t id held;
  }
  tables_unbroken outer d (push before last) held entries =
      let l = tables_link (push before last) held in
      let list = vector_unbroken b (led_to b t id) outer d (table_count (push before last)) (tables_weight (push before last)) held.item.0 held.item.1 entries in
      record {
        clean = to_tables_clean b t id (geometry outer d) (linked_clean l held.item.0) (λ l. list.clean);
        weighs = weigh_link b (tables_thing (geometry outer d)) t id (item_weight (tables (push before last))) l list.weighs;
      }

  pub parts_unbroken : (outer d : ℕ) (parts : Shapes) → IsHeld b t id (tables_item (part_tables parts empty)) → AreUnbroken b (entry_parts b (geometry outer d) (led_to b t id) (part_count parts)) (parts_weight parts)
      → IsUnbroken b (field (link (tables_thing (geometry outer d))) t id) (held_weight (tables_item (part_tables parts empty)))
  parts_unbroken outer d parts held entries =
      let number : part_count parts ≡ table_count (part_tables parts empty) = omega (arith, count-parts parts empty) in
      let weight : parts_weight parts ≡ tables_weight (part_tables parts empty) = omega (arith, weight-parts parts empty) in
      tables_unbroken outer d (part_tables parts empty) held
      (subst (AreUnbroken b (entry_parts b (geometry outer d) (led_to b t id) (table_count (part_tables parts empty)))) weight
      (subst (λ n. AreUnbroken b (entry_parts b (geometry outer d) (led_to b t id) n) (parts_weight parts)) number entries))
