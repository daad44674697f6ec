-- How deep the values of a table go, and the tables of a vector.
use Rattle.std.proofs.Common.{◌≡◌, ℕ, ◌+◌, ◌*◌, ◌<◌, ◌≤◌, List, [], ◌∷◌, length, get_or, max, refl, sym, ap, ◌∙◌, arith}
use denote.Param.Weighed.{most, at_most}
use Rattle.flat_builder.specs.declared.table.Field.{Field}
use Rattle.flat_builder.specs.declared.table.Value.{Value}
use Rattle.flat_builder.specs.declared.table.Value.TheVariants.{TableVector}
use Rattle.flat_builder.specs.declared.table.FlatTable.TheInside.{Inside}
use Rattle.flat_builder.specs.declared.table.FlatTable.TheDeep.{deep-Field, deep-Value, size-Field, size-FlatTable}
use Rattle.flat_builder.specs.Trees.{Fields, fields_size}
use Rattle.flat_builder.specs.Fields.{fields_of}
use Rattle.flat_builder.specs.Sizes.{fields_hold}

most_sizes : (ts : List Fields) → most size-FlatTable ts ≡ 3 * max (most (λ t. fields_size t + 1) ts) 0
most_sizes [] = refl
most_sizes (t ∷ ts) = omega (arith, most_sizes ts)

-- the tables of a vector are not larger than the value
pub most_of_vector : (v : Value) (all : _) (ts : List Fields) → v ≡ TableVector all → ts ≡ all.items → most size-FlatTable ts ≡ 3 * deep-Value v
most_of_vector v all ts is same = ap (most size-FlatTable) same ∙ most_sizes all.items ∙ ap (λ u. 3 * deep-Value u) (sym is)

-- a value is smaller than the fields that it is among
pub value_among : (fs : List Field) (i : ℕ) (f : Field) → f ≡ get_or fs i f → i < length fs → 3 * deep-Value f.value + 2 ≤ most size-Field fs
value_among fs i f is inside = omega (arith, at_most size-Field fs i f inside, ap (λ (x : Field). deep-Value x.value) is)

most_fields : (fs : List Field) → most size-Field fs ≤ 3 * most deep-Field fs + 2
most_fields [] = omega arith
most_fields (f ∷ fs) = omega (arith, most_fields fs)

-- the fields of a table are smaller than the table
pub fields_within : (t : Inside) (fs : List Field) (v : Fields) → fs ≡ t.fields.items → fields_of t.fields.items ≡ v → most size-Field fs ≤ 3 * fields_size v + 2
fields_within t fs v same shows =
    omega (arith, ap (most size-Field) same, most_fields t.fields.items, fields_hold t, ap fields_size shows)
