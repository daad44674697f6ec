-- Whether a condition holds for a feature.
use Rattle.std.specs.Prelude.{ℕ, ◌==◌, ℤ, pos, Bool, true, false, if◌then◌else◌, List, Option, Some, None, slice_get}
use Rattle.std.specs.Option.{option_map, option_and_then}
use Rattle.std.specs.List.{find}
use Rattle.std.specs.declared.cmp.Ordering.{Ordering}
use Rattle.std.specs.Ordering.{nat_cmp, int_cmp, is_eq, is_ne, is_lt, is_le, is_gt, is_ge, is_some_and}
use Rattle.std.specs.Cmp.Lexicographic.{slice_cmp}
use Rattle.order_keys.specs.Keys.{key_of, is_finite}
use Rattle.fgb_values.specs.Values.{Content, Whole as whole, Truth, Pattern, Bytes}
use Rattle.fgb_schema.specs.Headers.{Header, Column, types}
use Rattle.fgb_schema.specs.Properties.{Property}
use Rattle.fgb_schema.specs.Features.{Feature, columns_holding}
use Rattle.fgb_where.specs.declared.class.Class.{Class}
use Rattle.fgb_where.specs.declared.class.Class.TheVariants.{Whole, Double, Text}
use Rattle.fgb_where.specs.declared.words.Op.{Op}
use Rattle.fgb_where.specs.declared.words.Op.TheVariants.{Eq, Ne, Lt, Le, Gt, Ge}
use Rattle.fgb_where.specs.Values.{Sought, whole_value, double_value, text_value, class_of}
use Rattle.fgb_where.specs.Columns.{first_named}
use Rattle.fgb_where.specs.Binding.{Bounded}

-- a relation allows an order of the feature's value to the one that is sought
abbrev pub allows : Op → Ordering → Bool
allows Eq = is_eq
allows Ne = is_ne
allows Lt = is_lt
allows Le = is_le
allows Gt = is_gt
allows Ge = is_ge

-- the whole number that a value says: a bool is 0 or 1
abbrev pub number_in : Content → Option ℤ
number_in (whole z) = Some z
number_in (Truth y) = Some (if y then pos 1 else pos 0)
number_in (Pattern p) = None
number_in (Bytes text) = None

-- the key of its pattern, where that is finite
abbrev pub key_in : Content → Option ℤ
key_in (whole z) = None
key_in (Truth y) = None
key_in (Pattern p) = if is_finite p then Some (key_of p) else None
key_in (Bytes text) = None

-- its bytes
abbrev pub text_in : Content → Option (List ℕ)
text_in (whole z) = None
text_in (Truth y) = None
text_in (Pattern p) = None
text_in (Bytes text) = Some text

-- the order of a value to what is sought: whole numbers by number, doubles by key, where both are finite (what is sought
-- always is), texts by bytes from the first on; none where the class of the value's column is another
abbrev pub order_in : Option Class → Content → Sought → Option Ordering
order_in (Some Whole) content (whole_value z) = option_map (λ x. int_cmp x z) (number_in content)
order_in (Some Double) content (double_value c) = option_map (λ k. int_cmp k (key_of c.0)) (key_in content)
order_in (Some Text) content (text_value t) = option_map (λ x. slice_cmp nat_cmp x t) (text_in content)
order_in otherwise content sought = None

-- the first pair of this number
abbrev pub first_pair : ℕ → List Property → Option Property
first_pair j properties = find (λ (p : Property). p.column == j) properties

-- the order of a feature's value to what is sought: that of its first pair with the number of the first column of the
-- name, where both are there
abbrev pub order_of : Bounded → List Column → List Property → Option Ordering
order_of bounded columns properties =
    option_and_then (λ j. option_and_then (λ kind.
    option_and_then (λ (p : Property). order_in (class_of kind) p.content bounded.sought) (first_pair j properties))
    (slice_get (types columns) j)) (first_named bounded.name columns)

-- under these columns the condition holds for these properties: there is an order, and the relation allows it
unfoldable pub holds_among : Bounded → List Column → List Property → Bool
holds_among bounded columns properties = is_some_and (allows bounded.op) (order_of bounded columns properties)

-- it holds for a feature under a header
abbrev pub holds : Bounded → Header → Feature → Bool
holds bounded h f = holds_among bounded (columns_holding h f) f.properties
