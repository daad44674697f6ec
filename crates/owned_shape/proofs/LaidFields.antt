-- The fields of a shape's table, put one by one.
use Rattle.std.proofs.Common.{◌≡◌, ◌∙◌, ℕ, ◌+◌, ◌%◌, ◌<◌, ◌≤◌, List, [], ◌∷◌, ◌++◌, length, map, fold, take, get_or, Option, Some, None, refl, ap, sym, arith}
use Rattle.std.proofs.lemmas.List.{map-append}
use Rattle.fgb_schema.specs.Shapes.{Shape, shape, Ordinates, pairs_of, rings_from, shapes_of, type_in, points_in, rings_in, ordinates_in}
use Rattle.flat_builder.specs.Trees.{Item, number, tables, Fields, none, put, Tables, empty, push}
use Rattle.flat_builder.specs.Shown.{tables_of}
use Rattle.shape_tables.specs.Laying.{numbers_item, part_tables, shape_items, shape_table, tables_item, told_ends, turns, with_fields}
use Rattle.owned_shape.proofs.Fields.{at_place, take_more}

pub turns_back : (xs : List ℕ) → length xs % 2 ≡ 0 → turns (pairs_of xs) ≡ xs
turns_back [] even = refl
turns_back (x ∷ []) even = absurd (omega (arith, even))
turns_back (x ∷ y ∷ rest) even = ap (λ xs. x ∷ y ∷ xs) (turns_back rest (omega (arith, even)))

pub ends_back : (first : ℕ) (ends : List ℕ) → map (λ ring. ring.1) (rings_from first ends) ≡ ends
ends_back first [] = refl
ends_back first (end ∷ rest) = ap (λ ends. end ∷ ends) (ends_back end rest)

-- a field in front of others
later : (fs : Fields) (id : ℕ) (o : Option Item) (rest : List (Option Item)) → with_fields (with_fields fs id (o ∷ [])) (id + 1) rest ≡ with_fields fs id (o ∷ rest)
later fs id None rest = refl
later fs id (Some it) rest = refl

-- a vector put, of numbers that are these
pub longs_put : (before after : Fields) (id : ℕ) (given numbers : List ℕ) → after ≡ with_fields before id (numbers_item 8 given ∷ []) → given ≡ numbers → after ≡ with_fields before id (numbers_item 8 numbers ∷ [])
longs_put before after id given numbers step is = step ∙ ap (λ xs. with_fields before id (numbers_item 8 xs ∷ [])) is

pub shape_put : (kind : ℕ) (own rings : List (ℕ × ℕ)) (ordinates : Ordinates) (parts : Tables) (t1 t2 t3 t4 t5 t6 t7 t8 : Fields)
    → t1 ≡ with_fields none 0 (numbers_item 4 (told_ends rings) ∷ []) → t2 ≡ with_fields t1 1 (numbers_item 8 (turns own) ∷ [])
    → t3 ≡ with_fields t2 2 (numbers_item 8 ordinates.z ∷ []) → t4 ≡ with_fields t3 3 (numbers_item 8 ordinates.m ∷ [])
    → t5 ≡ with_fields t4 4 (numbers_item 8 ordinates.t ∷ []) → t6 ≡ with_fields t5 5 (numbers_item 8 ordinates.tm ∷ [])
    → t7 ≡ put t6 6 (number 1 kind) → t8 ≡ with_fields t7 7 (tables_item parts ∷ []) → t8 ≡ with_fields none 0 (shape_items kind own rings ordinates parts)
shape_put kind own rings ordinates parts t1 t2 t3 t4 t5 t6 t7 t8 e1 e2 e3 e4 e5 e6 e7 e8 =
    let items7 = tables_item parts ∷ [] in
    let items6 = Some (number 1 kind) ∷ items7 in
    let items5 = numbers_item 8 ordinates.tm ∷ items6 in
    let items4 = numbers_item 8 ordinates.t ∷ items5 in
    let items3 = numbers_item 8 ordinates.m ∷ items4 in
    let items2 = numbers_item 8 ordinates.z ∷ items3 in
    let items1 = numbers_item 8 (turns own) ∷ items2 in
    e8
    ∙ ap (λ fs. with_fields fs 7 items7) e7
    ∙ ap (λ fs. with_fields fs 6 items6) e6 ∙ later t5 5 (numbers_item 8 ordinates.tm) items6
    ∙ ap (λ fs. with_fields fs 5 items5) e5 ∙ later t4 4 (numbers_item 8 ordinates.t) items5
    ∙ ap (λ fs. with_fields fs 4 items4) e4 ∙ later t3 3 (numbers_item 8 ordinates.m) items4
    ∙ ap (λ fs. with_fields fs 3 items3) e3 ∙ later t2 2 (numbers_item 8 ordinates.z) items3
    ∙ ap (λ fs. with_fields fs 2 items2) e2 ∙ later t1 1 (numbers_item 8 (turns own)) items2
    ∙ ap (λ fs. with_fields fs 1 items1) e1 ∙ later none 0 (numbers_item 4 (told_ends rings)) items1

-- with the tables of its parts, it is the table of the shape
pub shape_laid : (kind : ℕ) (own rings : List (ℕ × ℕ)) (ordinates : Ordinates) (parts : List Shape) (now : Shape) (all : List Fields) → shape kind own rings ordinates (shapes_of parts) ≡ now
    → all ≡ map shape_table parts → part_tables (shapes_of parts) empty ≡ tables_of (map shape_table parts)
    → with_fields none 0 (shape_items (type_in now) (points_in now) (rings_in now) (ordinates_in now) (tables_of all)) ≡ shape_table now
unfolding shape_table
shape_laid kind own rings ordinates parts now all is made listed =
    ap (λ s. with_fields none 0 (shape_items (type_in s) (points_in s) (rings_in s) (ordinates_in s) (tables_of all))) (sym is)
    ∙ ap (λ ts. with_fields none 0 (shape_items kind own rings ordinates ts)) (ap tables_of made ∙ sym listed) ∙ ap shape_table is

-- one part more
pub tables_next : (parts : List Shape) (i : ℕ) (part : Shape) (before after : List Fields) (t : Fields) → before ≡ map shape_table (take i parts) → i < length parts → part ≡ get_or parts i part
    → t ≡ shape_table part → after ≡ before ++ t ∷ [] → after ≡ map shape_table (take (i + 1) parts)
tables_next parts i part before after t so_far early is made grown =
    grown ∙ ap (λ ts. ts ++ t ∷ []) so_far ∙ ap (λ t. map shape_table (take i parts) ++ t ∷ []) made
    ∙ sym (ap (map shape_table) (take_more parts i part (at_place parts i part early is)) ∙ map-append shape_table (take i parts) (part ∷ []))

-- ends that the points alone do not tell
pub told_back : (ends : List ℕ) → 2 ≤ length ends → told_ends (rings_from 0 ends) ≡ ends
told_back [] several = absurd (omega (arith, several))
told_back (end ∷ []) several = absurd (omega (arith, several))
told_back (end ∷ next ∷ rest) several = ends_back 0 (end ∷ next ∷ rest)

-- there are tables
some_tables : (before : Tables) (t : Fields) (ts : List Fields) → tables_item (fold push before (t ∷ ts)) ≡ Some (tables (fold push before (t ∷ ts)))
some_tables before t [] = refl
some_tables before t (next ∷ rest) = some_tables (push before t) next rest

pub parts_put : (old new : Fields) (ts : List Fields) → 0 < length ts → new ≡ put old 7 (tables (tables_of ts)) → new ≡ with_fields old 7 (tables_item (tables_of ts) ∷ [])
parts_put old new [] some is = absurd (omega (arith, some))
parts_put old new (t ∷ ts) some is = is ∙ sym (ap (λ it. with_fields old 7 (it ∷ [])) (some_tables empty t ts))
