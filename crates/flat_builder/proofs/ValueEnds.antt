-- What each kind of value ends with, and where a table's children begin.
use Rattle.std.proofs.Common.{◌≡◌, ℕ, ◌+◌, ◌*◌, List, [], ◌∷◌, ◌++◌, length, fold, refl, sym, subst, ap, ◌∙◌, arith}
use Rattle.std.specs.Prelude.{string_bytes, Some, None}
use Rattle.std.specs.Int.{next_multiple_of}
use Rattle.std.proofs.lemmas.List.{append-nil}
use Rattle.flat_builder.specs.declared.value.Scalar.{Scalar}
use Rattle.flat_builder.specs.declared.value.Scalar.TheVariants.{U8, U16, I32, U64}
use Rattle.flat_builder.specs.declared.value.FlatVector.{FlatVector}
use Rattle.flat_builder.specs.declared.value.FlatVector.TheVariants.{Bytes, Words, Longs}
use Rattle.flat_builder.specs.declared.table.Field.{Field}
use Rattle.flat_builder.specs.declared.table.Value.{Value}
use Rattle.flat_builder.specs.declared.table.Value.TheVariants.{Number, Text, Vector, Table, TableVector}
use Rattle.flat_builder.specs.Trees.{Fields, Tables, push, empty, table, tables, string, vector, table_count}
use Rattle.flat_builder.specs.Laying.{lay, lay_fields, lay_tables, round_up, slot_of, stands, table_place, table_len, text_bytes, children_place, width_of}
use Rattle.flat_builder.specs.Shown.{scalar_item, vector_item, tables_of}
use Rattle.flat_builder.specs.Fields.{item_of, fields_of}
use Rattle.flat_builder.specs.Blanks.{elements_in, width_in, LeadsTo}
use Rattle.flat_builder.proofs.Lengths.{stands_le, string_end, vector_end, table_end, tables_end}
use Rattle.flat_builder.proofs.Widths.{HasWidths-fields_of}

-- where the children of a table begin, by the call's numbers
pub children_is : (fs : List Field) (t : Fields) (c place len k : ℕ) → fields_of fs ≡ t → place ≡ table_place t c → len ≡ table_len (fields_of fs) → k ≡ next_multiple_of (place + len) 4 → k ≡ children_place t c
unfolding children_place round_up
children_is fs t c place len k shows here long is =
    is ∙ ap (λ n. next_multiple_of (n + len) 4) here ∙ ap (λ n. next_multiple_of (table_place t c + n) 4) (long ∙ ap table_len shows)

-- where a table ends
pub table_ends : (fs : List Field) (t : Fields) (c k : ℕ) → fields_of fs ≡ t → k ≡ children_place t c → c + length (lay (table t) c) ≡ k + length (lay_fields (fields_of fs) k).bytes
table_ends fs t c k shows here =
    let Ends : Fields → Type 0 = λ s. k ≡ children_place s c → c + length (lay (table s) c) ≡ k + length (lay_fields (fields_of fs) k).bytes in
    subst Ends shows (λ at. table_end (fields_of fs) c (HasWidths-fields_of fs) ∙ ap (λ n. n + length (lay_fields (fields_of fs) n).bytes) (sym at)) here

scalar_end : (s : Scalar) (c : ℕ) → c ≡ c + length (lay (scalar_item s) c)
unfolding lay
scalar_end (U8 n) c = omega arith
scalar_end (U16 n) c = omega arith
scalar_end (I32 z) c = omega arith
scalar_end (U64 n) c = omega arith

pub number_ends : (v : Value) (s : Scalar) (c : ℕ) → v ≡ Number s → c ≡ c + length (lay (item_of v) c)
number_ends v s c is = scalar_end s c ∙ ap (λ u. c + length (lay (item_of u) c)) (sym is)

pub text_ends : (v : Value) (s : _) (c n : ℕ) → v ≡ Text s → n ≡ length (string_bytes s) → round_up 4 (c + 5 + 1 * n) ≡ c + length (lay (item_of v) c)
text_ends v s c n is here = ap (λ m. round_up 4 (c + 5 + 1 * m)) here ∙ sym (string_end (string_bytes s) c) ∙ ap (λ u. c + length (lay (item_of u) c)) (sym is)

pub same_vector : (v : FlatVector) → vector_item v ≡ vector (width_in v) (elements_in v)
same_vector (Bytes v) = refl
same_vector (Words v) = refl
same_vector (Longs v) = refl

pub vector_ends : (v : Value) (w : FlatVector) (c : ℕ) → v ≡ Vector w → round_up 4 (stands (vector_item w) c + 4 + width_in w * length (elements_in w)) ≡ c + length (lay (item_of v) c)
vector_ends v w c is =
    ap (λ it. round_up 4 (stands it c + 4 + width_in w * length (elements_in w))) (same_vector w)
    ∙ sym (vector_end (width_in w) (elements_in w) c)
    ∙ ap (λ it. c + length (lay it c)) (sym (same_vector w))
    ∙ ap (λ u. c + length (lay (item_of u) c)) (sym is)

count_from : (ts : List Fields) (before : Tables) → table_count (fold push before ts) ≡ table_count before + length ts
count_from [] before = omega arith
count_from (t ∷ ts) before = omega (arith, count_from ts (push before t))

pub table_count-tables_of : (ts : List Fields) → table_count (tables_of ts) ≡ length ts
table_count-tables_of ts = omega (arith, count_from ts empty)

pub table_vector_ends : (v : Value) (ts : _) (c start : ℕ) → v ≡ TableVector ts → start ≡ c + 4 + 4 * length ts.items → start + length (lay_tables (tables_of ts.items) start).bytes ≡ c + length (lay (item_of v) c)
table_vector_ends v ts c start is here =
    let at : start ≡ c + 4 + 4 * table_count (tables_of ts.items) = here ∙ ap (λ n. c + 4 + 4 * n) (sym (table_count-tables_of ts.items)) in
    ap (λ n. n + length (lay_tables (tables_of ts.items) n).bytes) at
    ∙ sym (tables_end (tables_of ts.items) c)
    ∙ ap (λ u. c + length (lay (item_of u) c)) (sym is)

-- what an offset leads to, by the kind of the value
scalar_leads : (s : Scalar) (c : ℕ) → LeadsTo (scalar_item s) c None
unfolding slot_of width_of
scalar_leads (U8 n) c = refl
scalar_leads (U16 n) c = refl
scalar_leads (I32 z) c = refl
scalar_leads (U64 n) c = refl

-- no number has an offset, and a field of another kind has one to where the item stands
pub number_leads : (v : Value) (s : Scalar) (c : ℕ) → v ≡ Number s → LeadsTo (item_of v) c None
number_leads v s c is =
    let Leads : Value → Type 0 = λ u. LeadsTo (item_of u) c None in
    subst Leads (sym is) (scalar_leads s c)

vector_item_leads : (w : FlatVector) (c : ℕ) → LeadsTo (vector_item w) c (Some (stands (vector_item w) c))
unfolding slot_of width_of
vector_item_leads (Bytes v) c = (refl, refl, stands_le (vector 1 v.items) c)
vector_item_leads (Words v) c = (refl, refl, stands_le (vector 4 v.items) c)
vector_item_leads (Longs v) c = (refl, refl, stands_le (vector 8 v.items) c)

pub vector_leads : (v : Value) (w : FlatVector) (c p : ℕ) → v ≡ Vector w → p ≡ stands (vector_item w) c → LeadsTo (item_of v) c (Some p)
vector_leads v w c p is here =
    let Leads : Value → Type 0 = λ u. LeadsTo (item_of u) c (Some p) in
    let At : ℕ → Type 0 = λ n. LeadsTo (vector_item w) c (Some n) in
    subst Leads (sym is) (subst At (sym here) (vector_item_leads w c))

pub table_leads : (v : Value) (t : Fields) (c p : ℕ) → v ≡ Table t → p ≡ table_place t c → LeadsTo (item_of v) c (Some p)
unfolding slot_of width_of stands
table_leads v t c p is here =
    let Leads : Value → Type 0 = λ u. LeadsTo (item_of u) c (Some p) in
    let At : ℕ → Type 0 = λ n. LeadsTo (table t) c (Some n) in
    subst Leads (sym is) (subst At (sym here) (refl, refl, stands_le (table t) c))

pub text_leads : (v : Value) (s : _) (c : ℕ) → v ≡ Text s → LeadsTo (item_of v) c (Some c)
unfolding slot_of width_of stands
text_leads v s c is =
    let Leads : Value → Type 0 = λ u. LeadsTo (item_of u) c (Some c) in
    subst Leads (sym is) (refl, refl, stands_le (string (string_bytes s)) c)

pub table_vector_leads : (v : Value) (ts : _) (c : ℕ) → v ≡ TableVector ts → LeadsTo (item_of v) c (Some c)
unfolding slot_of width_of stands
table_vector_leads v ts c is =
    let Leads : Value → Type 0 = λ u. LeadsTo (item_of u) c (Some c) in
    subst Leads (sym is) (refl, refl, stands_le (tables (tables_of ts.items)) c)

-- a number is laid nowhere but in its table
scalar_laid : (s : Scalar) (c : ℕ) → lay (scalar_item s) c ≡ []
unfolding lay
scalar_laid (U8 n) c = refl
scalar_laid (U16 n) c = refl
scalar_laid (I32 z) c = refl
scalar_laid (U64 n) c = refl

pub number_laid : (v : Value) (s : Scalar) (out : List ℕ) → v ≡ Number s → out ≡ out ++ lay (item_of v) (length out)
number_laid v s out is = sym (append-nil out) ∙ ap (λ t. out ++ t) (sym (scalar_laid s (length out))) ∙ ap (λ u. out ++ lay (item_of u) (length out)) (sym is)

pub text_item_laid : (v : Value) (s : _) (out bytes : List ℕ) → v ≡ Text s → bytes ≡ string_bytes s → out ++ text_bytes bytes (length out) ≡ out ++ lay (item_of v) (length out)
unfolding lay
text_item_laid v s out bytes is same = ap (λ b. out ++ text_bytes b (length out)) same ∙ ap (λ u. out ++ lay (item_of u) (length out)) (sym is)
