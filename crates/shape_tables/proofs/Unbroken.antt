-- A part of a buffer from which on nothing is broken, with what it weighs; and parts one after another.
use Rattle.std.proofs.Common.{◌≡◌, ℕ, ◌+◌, true, List, [], ◌∷◌, ◌++◌, map, Option, Some, None, subst, arith}
use Rattle.std.specs.List.{AllByRecursion}
use Rattle.flat_layout.specs.Layout.{is_table}
use Rattle.flat_layout.specs.Promises.{IsClean}
use Rattle.fgb_schema.specs.Tables.{Name, Content, table, fields}
use Rattle.fgb_schema.specs.Paths.{Part, thing, Breaks, BreaksByTable}
use Rattle.fgb_schema.specs.Weights.{Weighs, total, weight_within}
use Rattle.fgb_schema.proofs.TableParts.{field_part, table_clean}
use Rattle.fgb_schema.proofs.Weighing.{WeighTogether, together_none, together_more, weigh_table}
use Rattle.flat_builder.specs.Trees.{Item, Fields, none, put}
use Rattle.flat_laid.specs.Trees.{item_weight, fields_weight}
use Rattle.shape_tables.specs.Laying.{with_fields}

pub record IsUnbroken (b : List ℕ) (x : Part) (w : ℕ) : Type 0 where
  pub clean : IsClean (Breaks b x)
  pub weighs : Weighs b x w

pub record AreUnbroken (b : List ℕ) (xs : List Part) (w : ℕ) : Type 0 where
  pub clean : AllByRecursion (λ x. IsClean (Breaks b x)) xs
  pub weigh : WeighTogether b xs w

pub unbroken_none : (b : List ℕ) → AreUnbroken b [] 0
unbroken_none b = record { clean = tt; weigh = together_none b }

-- one part, and those behind it
infixr 10 ◌◁◌
pub ◌◁◌ : {b : List ℕ} {x : Part} {xs : List Part} {u w : ℕ} → IsUnbroken b x u → AreUnbroken b xs w → AreUnbroken b (x ∷ xs) (u + w)
◌◁◌ {b} {x} {xs} {u} {w} one rest = record {
  clean = (one.clean, rest.clean);
  weigh = together_more b x xs u w one.weighs rest.weigh;
}

pub unbroken_one : (b : List ℕ) (x : Part) (u : ℕ) → IsUnbroken b x u → AreUnbroken b (x ∷ []) u
unbroken_one b x u one = subst (AreUnbroken b (x ∷ [])) (omega arith) (one ◁ unbroken_none b)

-- what a field weighs that holds this item, or is absent
abbrev pub held_weight : Option Item → ℕ
held_weight None = 0
held_weight (Some it) = item_weight it

weight_from : (items : List (Option Item)) (fs : Fields) (n : ℕ) → fields_weight (with_fields fs n items) ≡ fields_weight fs + total held_weight items
weight_from [] fs n = omega arith
weight_from (None ∷ rest) fs n = omega (arith, weight_from rest fs (n + 1))
weight_from (Some it ∷ rest) fs n = omega (arith, weight_from rest (put fs n it) (n + 1))

pub weight_of : (items : List (Option Item)) → fields_weight (with_fields none 0 items) ≡ total held_weight items
weight_of items = omega (arith, weight_from items none 0)

-- fields of the table at t
module _ (b : List ℕ) (t : ℕ) where
  abbrev pub AreFields : List (ℕ × Content) → ℕ → Type 0
  AreFields fs w = AreUnbroken b (map (field_part t) fs) w

  all_both : (P : Part → Type 0) (xs ys : List (ℕ × Content)) → AllByRecursion P (map (field_part t) xs) → AllByRecursion P (map (field_part t) ys) → AllByRecursion P (map (field_part t) (xs ++ ys))
  all_both P [] ys front back = back
  all_both P (x ∷ xs) ys front back = (front.0, all_both P xs ys front.1 back)

  total_both : (f : Part → ℕ) (xs ys : List (ℕ × Content)) → total f (map (field_part t) (xs ++ ys)) ≡ total f (map (field_part t) xs) + total f (map (field_part t) ys)
  total_both f [] ys = omega arith
  total_both f (x ∷ xs) ys = omega (arith, total_both f xs ys)

  pub fields_both : (xs ys : List (ℕ × Content)) (u w : ℕ) → AreFields xs u → AreFields ys w → AreFields (xs ++ ys) (u + w)
  fields_both xs ys u w front back = record {
    clean = all_both (λ x. IsClean (Breaks b x)) xs ys front.clean back.clean;
    weigh = (front.weigh.0 + back.weigh.0, λ steps enough. omega (arith, total_both (weight_within b steps) xs ys, front.weigh.1 steps (omega (arith, enough)), back.weigh.1 steps (omega (arith, enough))));
  }

  all_of : (P : Part → Type 0) (xs : List (ℕ × Content)) → AllByRecursion P (map (field_part t) xs) → AllByRecursion (λ f. P (field_part t f)) xs
  all_of P [] all = tt
  all_of P (x ∷ xs) all = (all.0, all_of P xs all.1)

  -- a table, by the fields that are read of it
  pub table_unbroken : (name : Name) (w : ℕ) → is_table b t ≡ true → IsClean (BreaksByTable name b t) → AreFields (fields name b t) w → IsUnbroken b (thing (table name) t) (4 + w)
  table_unbroken name w inside own parts = record {
    clean = table_clean b name t inside own (all_of (λ x. IsClean (Breaks b x)) (fields name b t) parts.clean);
    weighs = weigh_table b name t w inside parts.weigh;
  }
