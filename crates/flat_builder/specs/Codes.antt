-- A tree of tables is stored as nested pairs of numbers.
use Rattle.std.specs.Prelude.{◌≡◌, ℕ, zero, suc, List, [], ◌∷◌, refl}
use Rattle.std.proofs.Common.{sym, ap, ◌∙◌}
use base.Stored.{Gv, gnil, gnum, gcons, Coded}
use Rattle.flat_builder.specs.Trees.{Item, number, string, vector, table, tables, Fields, none, put, Tables, empty, push}

abbrev pub code_list : List ℕ → Gv
code_list [] = gnil
code_list (x ∷ xs) = gcons (gnum x) (code_list xs)

abbrev mutual
  pub code_item : Item → Gv
  code_item (number w v) = gcons (gnum 0) (gcons (gnum w) (gnum v))
  code_item (string bytes) = gcons (gnum 1) (code_list bytes)
  code_item (vector w elements) = gcons (gnum 2) (gcons (gnum w) (code_list elements))
  code_item (table fs) = gcons (gnum 3) (code_fields fs)
  code_item (tables ts) = gcons (gnum 4) (code_tables ts)

  pub code_fields : Fields → Gv
  code_fields none = gnil
  code_fields (put before id it) = gcons (code_fields before) (gcons (gnum id) (code_item it))

  pub code_tables : Tables → Gv
  code_tables empty = gnil
  code_tables (push before fs) = gcons (code_tables before) (code_fields fs)

list_of : Gv → List ℕ
list_of (gcons (gnum x) rest) = x ∷ list_of rest
list_of _ = []

mutual
  item_of : Gv → Item
  item_of (gcons (gnum zero) (gcons (gnum w) (gnum v))) = number w v
  item_of (gcons (gnum (suc zero)) bytes) = string (list_of bytes)
  item_of (gcons (gnum (suc (suc zero))) (gcons (gnum w) elements)) = vector w (list_of elements)
  item_of (gcons (gnum (suc (suc (suc zero)))) fs) = table (fields_of fs)
  item_of (gcons (gnum (suc (suc (suc (suc n))))) ts) = tables (tables_of ts)
  item_of _ = number 0 0

  fields_of : Gv → Fields
  fields_of (gcons before (gcons (gnum id) it)) = put (fields_of before) id (item_of it)
  fields_of _ = none

  tables_of : Gv → Tables
  tables_of (gcons before fs) = push (tables_of before) (fields_of fs)
  tables_of _ = empty

list_of-code : (xs : List ℕ) → list_of (code_list xs) ≡ xs
unfolding list_of
list_of-code [] = refl
list_of-code (x ∷ xs) = ap (λ rest. x ∷ rest) (list_of-code xs)

mutual
  unfolding item_of fields_of tables_of

  item_of-code : (it : Item) → item_of (code_item it) ≡ it
  item_of-code (number w v) = refl
  item_of-code (string bytes) = ap string (list_of-code bytes)
  item_of-code (vector w elements) = ap (vector w) (list_of-code elements)
  item_of-code (table fs) = ap table (fields_of-code fs)
  item_of-code (tables ts) = ap tables (tables_of-code ts)

  fields_of-code : (fs : Fields) → fields_of (code_fields fs) ≡ fs
  fields_of-code none = refl
  fields_of-code (put before id it) = ap (λ b. put b id (item_of (code_item it))) (fields_of-code before) ∙ ap (put before id) (item_of-code it)

  tables_of-code : (ts : Tables) → tables_of (code_tables ts) ≡ ts
  tables_of-code empty = refl
  tables_of-code (push before fs) = ap (λ b. push b (fields_of (code_fields fs))) (tables_of-code before) ∙ ap (push before) (fields_of-code fs)

pub same_fields : (x y : Fields) → code_fields x ≡ code_fields y → x ≡ y
same_fields x y e = sym (fields_of-code x) ∙ ap fields_of e ∙ fields_of-code y

abbrev pub fields_code : Coded Fields
fields_code = record { code = code_fields; inj = same_fields }
