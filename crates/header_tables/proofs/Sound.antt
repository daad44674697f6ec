-- A part of a buffer from which on nothing is broken, with what it weighs; and parts one after another.
use Rattle.std.proofs.Common.{◌≡◌, ℕ, ◌+◌, true, List, [], ◌∷◌, map, Option, Some, None, sym, subst, arith}
use Rattle.std.specs.List.{AllByRecursion}
use Rattle.flat_layout.specs.Layout.{is_table}
use Rattle.flat_layout.specs.Promises.{IsClean}
use Rattle.fgb_schema.specs.Tables.{Name, table, fields}
use Rattle.fgb_schema.specs.Paths.{Part, thing, Breaks, BreaksByTable}
use Rattle.fgb_schema.specs.Weights.{Weighs, total}
use Rattle.fgb_schema.proofs.TableParts.{field_part, table_clean}
use Rattle.fgb_schema.proofs.Weighing.{WeighTogether, together_none, together_more, weigh_table}
use Rattle.flat_builder.specs.Trees.{Item, Fields, none, put}
use Rattle.flat_laid.specs.Trees.{item_weight, fields_weight}
use Rattle.header_tables.specs.Laying.{with_fields}

pub record IsSound (b : List ℕ) (x : Part) (w : ℕ) : Type 0 where
  pub clean : IsClean (Breaks b x)
  pub weighs : Weighs b x w

pub record AreSound (b : List ℕ) (xs : List Part) (w : ℕ) : Type 0 where
  pub clean : AllByRecursion (λ x. IsClean (Breaks b x)) xs
  pub weigh : WeighTogether b xs w

pub sound_none : (b : List ℕ) → AreSound b [] 0
sound_none b = record { clean = tt; weigh = together_none b }

-- one part, and those behind it
infixr 10 ◌◁◌
pub ◌◁◌ : {b : List ℕ} {x : Part} {xs : List Part} {u w : ℕ} → IsSound b x u → AreSound b xs w → AreSound b (x ∷ xs) (u + w)
◌◁◌ {b} {x} {xs} {u} {w} one rest = record {
  clean = (one.clean, rest.clean);
  weigh = together_more b x xs u w one.weighs rest.weigh;
}

-- what a field weighs that holds this item, or is absent
abbrev pub held_weight : Option Item → ℕ
held_weight None = 0
held_weight (Some it) = item_weight it

all_of : {A B : Type 0} (g : A → B) (P : B → Type 0) (xs : List A) → AllByRecursion P (map g xs) → AllByRecursion (λ x. P (g x)) xs
all_of g P [] all = tt
all_of g P (x ∷ xs) all = (all.0, all_of g P xs all.1)

weight_from : (items : List (Option Item)) (fs : Fields) (n : ℕ) → fields_weight (with_fields fs n items) ≡ fields_weight fs + total held_weight items
weight_from [] fs n = omega arith
weight_from (None ∷ rest) fs n = omega (arith, weight_from rest fs (n + 1))
weight_from (Some it ∷ rest) fs n = omega (arith, weight_from rest (put fs n it) (n + 1))

weight_of : (items : List (Option Item)) → fields_weight (with_fields none 0 items) ≡ total held_weight items
weight_of items = omega (arith, weight_from items none 0)

-- a table that holds the items of a list, by its fields
pub table_sound : (b : List ℕ) (name : Name) (t : ℕ) (items : List (Option Item)) → is_table b t ≡ true → IsClean (BreaksByTable name b t)
    → AreSound b (map (field_part t) (fields name b t)) (total held_weight items) → IsSound b (thing (table name) t) (4 + fields_weight (with_fields none 0 items))
table_sound b name t items inside own parts = record {
  clean = table_clean b name t inside own (all_of (field_part t) (λ x. IsClean (Breaks b x)) (fields name b t) parts.clean);
  weighs = subst (λ w. Weighs b (thing (table name) t) (4 + w)) (sym (weight_of items)) (weigh_table b name t (total held_weight items) inside parts.weigh);
}
