-- The tables of a shape that can stand in a file can be laid.
use Rattle.std.proofs.Common.{◌≡◌, ◌⊎◌, inl, inr, ℕ, ◌+◌, ◌*◌, ◌^◌, ◌<◌, ◌≤◌, true, List, [], ◌∷◌, length, Option, Some, None, refl, sym, subst, arith}
use Rattle.std.specs.Prelude.{⊤}
use Rattle.std.specs.List.{All, AllByRecursion}
use Rattle.std.proofs.lemmas.Bool.{cases_Bool}
use Rattle.std.proofs.lemmas.Bool.Decides.{nat_tests}
use Rattle.std.proofs.lemmas.List.Elements.{recursion_from_All}
use Rattle.fgb_schema.specs.Tables.{is_kind, has_rings}
use Rattle.fgb_schema.specs.Shapes.{Shape, shape, Shapes, none as no_shapes, more, Ordinates}
use Rattle.flat_builder.specs.Trees.{Item, Fields, none, put, entry_count, Tables, empty, push}
use Rattle.flat_laid.specs.Trees.{IsLayable, AreLayable, EachLayable}
use Rattle.shape_tables.specs.Laying.{turns, told_ends, numbers_item, tables_item, with_fields, shape_items, shape_table, part_tables}
use Rattle.shape_tables.specs.Records.{IsNumber, IsLevel, IsSound, AreSound}
use Rattle.shape_tables.proofs.Turns.{turned_numbers}
use Rattle.shape_tables.proofs.Rings.{ends_fit}

-- an item, if there is one, can be laid
abbrev pub MayLay : Option Item → Type 0
MayLay None = ⊤
MayLay (Some it) = IsLayable it

infixr 10 ◌&◌
pub ◌&◌ : {A B : Type 0} → A → B → A × B
x & rest = (x, rest)

pub from_list : (items : List (Option Item)) (fs : Fields) (n : ℕ) → AreLayable fs → entry_count fs ≤ n → n + length items ≤ 1000 → AllByRecursion MayLay items → AreLayable (with_fields fs n items)
from_list [] fs n before ascends few all = before
from_list (None ∷ rest) fs n before ascends few all = from_list rest fs (n + 1) before (omega (arith, ascends)) (omega (arith, few)) all.1
from_list (Some it ∷ rest) fs n before ascends few all =
    from_list rest (put fs n it) (n + 1) (before, ascends, omega (arith, few), all.0) (omega arith) (omega (arith, few)) all.1

pub may_numbers : (w : ℕ) → (w ≡ 1) ⊎ (w ≡ 4) ⊎ (w ≡ 8) → (xs : List ℕ) → AllByRecursion (λ x. x < 2 ^ (8 * w)) xs → MayLay (numbers_item w xs)
may_numbers w width [] all = tt
may_numbers w width (x ∷ xs) all = (width, all)

may_tables : (ts : Tables) → EachLayable ts → MayLay (tables_item ts)
may_tables empty each = tt
may_tables (push before last) each = each

longs : (xs : List ℕ) → All (λ x. x < 2 ^ 64) xs → MayLay (numbers_item 8 xs)
longs xs all = may_numbers 8 (inr (inr refl)) xs (recursion_from_All (λ x. x < 2 ^ 64) xs all)

weaker : (P Q : ℕ → Type 0) → ((x : ℕ) → P x → Q x) → (xs : List ℕ) → AllByRecursion P xs → AllByRecursion Q xs
weaker P Q passes [] all = tt
weaker P Q passes (x ∷ xs) all = (passes x all.0, weaker P Q passes xs all.1)

small : (kind : ℕ) → is_kind kind ≡ true → kind < 2 ^ 8
small kind known = grind (arith, nat_tests)

module _ (kind : ℕ) (own rings : List (ℕ × ℕ)) (lists : Ordinates) (parts : Shapes) (is : IsLevel (shape kind own rings lists parts)) where
  may_points : MayLay (numbers_item 8 (turns own))
  may_points = may_numbers 8 (inr (inr refl)) (turns own) (weaker IsNumber (λ x. x < 2 ^ 64) (λ x is_number. is_number.1) (turns own) (turned_numbers own is.points))

  -- an end is no more than the points, which are few
  may_ends : MayLay (numbers_item 4 (told_ends rings))
  may_ends = elim (cases_Bool (has_rings kind)) [
    | inl ringed ↦ may_numbers 4 (inr (inl refl)) (told_ends rings)
        (weaker (λ end. end ≤ length own) (λ end. end < 2 ^ 32) (λ end within. omega (arith, within, is.few_points)) (told_ends rings) (ends_fit (length own) rings (is.chained ringed)).within)
    | inr lacks ↦ subst (λ rs. MayLay (numbers_item 4 (told_ends rs))) (sym (is.no_rings lacks)) tt
  ]

  level_layable : (laid : Tables) → EachLayable laid → AreLayable (with_fields none 0 (shape_items kind own rings lists laid))
  level_layable laid each = from_list (shape_items kind own rings lists laid) none 0 tt (omega arith) (omega arith) (
      may_ends
      & may_points
      & longs lists.z is.z.1
      & longs lists.m is.m.1
      & longs lists.t is.t'.1
      & longs lists.tm is.tm.1
      & (inl refl, small kind is.known)
      & may_tables laid each
      & tt)

mutual
  unfolding shape_table part_tables

  pub shape_layable : (s : Shape) → IsSound s → AreLayable (shape_table s)
  shape_layable (shape kind own rings lists parts) is = level_layable kind own rings lists parts is.0 (part_tables parts empty) (parts_layable parts empty tt is.1)

  parts_layable : (parts : Shapes) (before : Tables) → EachLayable before → AreSound parts → EachLayable (part_tables parts before)
  parts_layable no_shapes before each are = each
  parts_layable (more first rest) before each are = parts_layable rest (push before (shape_table first)) (each, shape_layable first are.0) are.1
