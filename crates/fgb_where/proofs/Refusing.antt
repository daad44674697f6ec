-- A condition under the header of a buffer: refused where and as it breaks a rule, and bound where it breaks none.
use Rattle.std.proofs.Common.{◌≡◌, ℕ, ◌+◌, List, Option, Some, None, ap, sym, ◌∙◌, subst}
use Rattle.std.specs.Prelude.{slice_get}
use Rattle.flat_layout.specs.declared.Rule.{Rule}
use Rattle.flat_layout.specs.declared.Rule.TheVariants.{WhereColumn}
use Rattle.flat_layout.specs.declared.Broken.{Broken}
use Rattle.flat_layout.specs.Promises.{IsClean, Names}
use Rattle.fgb_schema.specs.Headers.{Column, header_of, types}
use Rattle.fgb_where.specs.declared.class.Class.{Class}
use Rattle.fgb_where.specs.declared.words.Condition.{Condition}
use Rattle.fgb_where.specs.Values.{IsValue, class_of}
use Rattle.fgb_where.specs.Columns.{first_named}
use Rattle.fgb_where.specs.Binding.{Bounded, HasColumn, BreaksAs, no_class, no_value, Breaks, no_column, on_column, table_place, BreaksCondition, BindsAs, Binds}

-- a value of the class of a type breaks no rule on a column of that type
binds_clean : (c : Condition) (kind : ℕ) (bounded : Bounded) → BindsAs c kind bounded → (r : Rule) → BreaksAs c kind r → ⊥
binds_clean c kind bounded binds r (no_class none) = let e : Some binds.class ≡ None = sym binds.classed ∙ none in cc
binds_clean c kind bounded binds r (no_value class classed none) =
    let same : binds.class ≡ class = cc (binds.classed, classed) in
    none bounded.sought (subst (λ k. IsValue k c.value.now bounded.sought) same binds.value)

module _ (b : List ℕ) (c : Condition) (columns : List Column) (same : columns ≡ (header_of b).columns) (base place : ℕ) where
  -- there is no column of the name
  pub missing : None ≡ first_named c.name.now columns → place ≡ base + table_place b None → Names base (BreaksCondition b c) (record { place = place; rule = WhereColumn })
  missing none at =
      let there : first_named c.name.now (header_of b).columns ≡ None = subst (λ cs. first_named c.name.now cs ≡ None) same (sym none) in
      (table_place b None, at, record { rule = no_column there; place = ap (table_place b) (sym there) })

  -- the first one has this number and this type
  module _ (j kind : ℕ) (number : Some j ≡ first_named c.name.now columns) (kinded : slice_get (types columns) j ≡ Some kind) where
    found : HasColumn (header_of b) c j kind
    found = record {
      number = subst (λ cs. first_named c.name.now cs ≡ Some j) same (sym number);
      kinded = subst (λ cs. slice_get (types cs) j ≡ Some kind) same kinded;
    }

    pub refused : (r : Rule) → BreaksAs c kind r → place ≡ base + table_place b (Some j) → Names base (BreaksCondition b c) (record { place = place; rule = r })
    refused r broken at = (table_place b (Some j), at, record { rule = on_column j kind found broken; place = ap (table_place b) (sym found.number) })

    module _ (bounded : Bounded) (binds : BindsAs c kind bounded) where
      none_broken : (r : Rule) → Breaks (header_of b) c r → ⊥
      none_broken r (no_column none) = let e : Some j ≡ None = sym found.number ∙ none in cc
      none_broken r (on_column i other column broken) =
          let at : i ≡ j = cc (column.number, found.number) in
          let there : slice_get (types (header_of b).columns) j ≡ Some other = subst (λ k. slice_get (types (header_of b).columns) k ≡ Some other) at column.kinded in
          let kinds : other ≡ kind = cc (there, found.kinded) in
          binds_clean c kind bounded binds r (subst (λ k. BreaksAs c k r) kinds broken)

      pub bound : Binds (header_of b) c bounded × IsClean (BreaksCondition b c)
      bound = (record { number = j; kind = kind; column = found; bound = binds }, λ q r broken. none_broken r broken.rule)
