-- The file that is made has room in the format: a feature has 104 bytes, the header fewer than a hundred, and the index at
-- most six levels.
use Rattle.std.proofs.Common.{◌≡◌, ◌∙◌, ℕ, ◌+◌, ◌-◌, ◌*◌, ◌^◌, ◌<◌, ◌≤◌, ◌==◌, zero, suc, Bool, true, false, List, [], ◌∷◌, length, codes, Option, Some, None, if◌then◌else◌, inl, inr, refl, sym, ap, subst, arith, length-append}
use Rattle.std.specs.List.{AllByRecursion, concat, range_with_len, sum_by}
use Rattle.std.specs.Int.{div_ceil}
use Rattle.std.specs.Prelude.{slice_index_or}
use Rattle.std.proofs.lemmas.Bool.{cases_lt}
use Rattle.std.proofs.lemmas.List.{length-map}
use Rattle.std.proofs.lemmas.Nat.{mul-le}
use Rattle.level_bounds.specs.Levels.{Shape, IsShape, node_count, nodes_above, width}
use Rattle.level_bounds.proofs.Ceil.{above_ceil, below_ceil}
use Rattle.level_bounds.proofs.Falling.{falls_le}
use Rattle.level_bounds.proofs.Sums.{sum_next}
use Rattle.level_bounds.proofs.Widths.{ceil_one, widths_fall}
use Rattle.flat_builder.specs.Trees.{Item, number, tables, none}
use Rattle.flat_builder.specs.Laying.{laid, lay, round_up, filling, slot_bytes, slots_bytes, of_width, by_width, place_among, width_of, widths, vtable_len, table_len, table_place, children_place, stands, slot_of, vtable_bytes, table_bytes, text_bytes, vector_bytes, whole_table}
use Rattle.header_tables.specs.Laying.{column_table, column_tables, header_table, scalar, with_fields}
use Rattle.header_tables.specs.Records.{plain_column}
use Rattle.shape_tables.specs.Laying.{shape_table, part_tables}
use Rattle.feature_tables.specs.Laying.{feature_table, value_bytes, pair_bytes}
use Rattle.fgb_values.specs.Values.{has_length, width as value_width}
use Rattle.fgb_schema.specs.Features.{Feature}
use Rattle.fgb_file.specs.File.{nodes_of}
use Rattle.packed_file.specs.Packing.{IsTreeOver, no_index, tree, large_file, large_header, header_bytes}
use Rattle.laid_features.specs.Buffers.{buffer_of, framed, pieces_of, IsTooLarge}
use Rattle.laid_features.proofs.Framing.{framed_long}
use Rattle.feature_pack.specs.Packs.{LacksPacking, large_feature, large_packing}
use Rattle.grid_features.specs.Grid.{AreGridFrom, grid_header, numbered}

-- ## The features

numbered_long : (x y i : ℕ) → length (buffer_of (numbered x y i)) ≡ 100
unfolding laid lay round_up filling slot_bytes slots_bytes of_width by_width place_among width_of widths vtable_len table_len table_place children_place stands slot_of vtable_bytes table_bytes text_bytes vector_bytes whole_table shape_table part_tables feature_table value_bytes pair_bytes value_width has_length
numbered_long x y i = refl

-- the buffer of each has a hundred bytes
abbrev AreLaidShort : List Feature → Type 0
AreLaidShort features = AllByRecursion (λ f. length (buffer_of f) ≡ 100) features

grid_long : (start first : ℕ) (fs : List Feature) → AreGridFrom start first fs → AreLaidShort fs
grid_long start first [] grid = tt
grid_long start first (f ∷ rest) grid =
    (ap (λ g. length (buffer_of g)) grid.0.is ∙ numbered_long grid.0.x grid.0.y first, grid_long start (first + 1) rest grid.1)

pieces_long : (fs : List Feature) → AreLaidShort fs → length (concat (pieces_of fs)) ≡ 104 * length fs
pieces_long [] long = refl
pieces_long (f ∷ rest) long = omega (arith, length-append (framed (buffer_of f)) (concat (pieces_of rest)), framed_long (buffer_of f), long.0, pieces_long rest long.1)

one_long : (fs : List Feature) (f : Feature) → AreLaidShort fs → (k : ℕ) → k < length fs → slice_index_or fs k f ≡ f → length (buffer_of f) ≡ 100
one_long [] f long k few is = absurd (omega (arith, few))
one_long (g ∷ rest) f long zero few is = subst (λ h. length (buffer_of h) ≡ 100) is long.0
one_long (g ∷ rest) f long (suc k) few is = one_long rest f long.1 k (omega (arith, few)) is

none_large : (fs : List Feature) → AreLaidShort fs → IsTooLarge fs → ⊥
none_large fs long large = omega (arith, large.large, one_long fs large.feature long large.among.0 large.among.1 large.among.2)

-- ## The header

-- the header with this field for the number of features
head : Option Item → List ℕ
head count =
    laid (with_fields none 0 (
    None ∷ None ∷ Some (number 1 1) ∷ None ∷ None ∷ None ∷ None ∷ Some (tables (column_tables (plain_column (codes "id") 8 ∷ [])))
    ∷ count ∷ None ∷ None ∷ None ∷ None ∷ None ∷ []
    ))

head_bare : length (head None) ≡ 76
unfolding laid lay round_up filling slot_bytes slots_bytes of_width by_width place_among width_of widths vtable_len table_len table_place children_place stands slot_of vtable_bytes table_bytes text_bytes vector_bytes whole_table column_table column_tables head
head_bare = refl

head_counted : (n : ℕ) → length (head (Some (number 8 n))) ≡ 92
unfolding laid lay round_up filling slot_bytes slots_bytes of_width by_width place_among width_of widths vtable_len table_len table_place children_place stands slot_of vtable_bytes table_bytes text_bytes vector_bytes whole_table column_table column_tables head
head_counted n = refl

head_is : (n : ℕ) → header_bytes grid_header n 16 ≡ head (scalar 8 0 n)
unfolding header_table head
head_is n = refl

head_short : (b : Bool) (n : ℕ) → length (head (if b then None else Some (number 8 n))) ≤ 92
head_short true n = omega (arith, head_bare)
head_short false n = omega (arith, head_counted n)

header_short : (n : ℕ) → length (header_bytes grid_header n 16) ≤ 92
header_short n = subst (λ bytes. length bytes ≤ 92) (sym (head_is n)) (head_short (n == 0) n)

-- ## The index

one_root : (n p : ℕ) → 1 ≤ n → n ≤ p → div_ceil n p ≡ 1
one_root n p some few =
    let there : 0 < div_ceil n p = above_ceil 0 n p (omega (arith, some, few)) (omega (arith, some)) in
    elim (cases_lt 1 (div_ceil n p)) [
      | inl lt ↦ absurd (let over : 1 * p < n = below_ceil 1 n p (omega (arith, some, few)) lt in omega (arith, over, few))
      | inr le ↦ omega (arith, le, there)
    ]

top_few : (t : Shape) → IsShape t → t.node_size ≡ 16 → t.leaves ≤ 1000000 → t.top ≤ 5
top_few t shaped size few =
    shaped.least 5 (omega arith) (ap (λ s. div_ceil t.leaves (s ^ 5)) size ∙ one_root t.leaves (16 ^ 5) shaped.some (omega (arith, few)))

width_few : (n s : ℕ) → 2 ≤ s → (k : ℕ) → div_ceil n (s ^ k) ≤ n
width_few n s wide zero = omega (arith, ceil_one n s)
width_few n s wide (suc k) =
    let e : k + 1 ≡ suc k = omega arith in
    let falls : div_ceil n (s ^ suc k) ≤ div_ceil n (s ^ k) = subst (λ m. div_ceil n (s ^ m) ≤ div_ceil n (s ^ k)) e (falls_le (widths_fall n s wide) k) in
    omega (arith, falls, width_few n s wide k)

sum_few : (w : ℕ → ℕ) (n : ℕ) → ((k : ℕ) → w k ≤ n) → (a m : ℕ) → sum_by w (range_with_len a m) ≤ m * n
sum_few w n each a zero = omega arith
sum_few w n each a (suc m) = omega (arith, sum_next w a m, each a, sum_few w n each (a + 1) m)

nodes_few : (t : Shape) → IsShape t → t.node_size ≡ 16 → t.leaves ≤ 1000000 → node_count t ≤ 6000000
unfolding nodes_above
nodes_few t shaped size few =
    let each : (k : ℕ) → width t k ≤ t.leaves = width_few t.leaves t.node_size shaped.wide in
    let above : sum_by (width t) (range_with_len 1 (t.top - 0)) ≤ (t.top - 0) * t.leaves = sum_few (width t) t.leaves each 1 (t.top - 0) in
    let product : (t.top - 0) * t.leaves ≤ 5 * 1000000 = mul-le (t.top - 0) t.leaves 5 1000000 (omega (arith, top_few t shaped size few)) few in
    omega (arith, above, product, each 0, few)

index_few : {n : ℕ} {index : Option Shape} → IsTreeOver n 16 index → n ≤ 1000000 → nodes_of index ≤ 6000000
index_few (no_index empty) few = omega arith
index_few (tree {t = t} shaped leaves size) few = nodes_few t shaped size (omega (arith, leaves, few))

-- ## The file

pub has_room : (start : ℕ) (fs : List Feature) → AreGridFrom start 0 fs → length fs ≤ 1000000 → LacksPacking grid_header fs 16 → ⊥
has_room start fs grid few (large_feature large) = none_large fs (grid_long start 0 fs grid) large
has_room start fs grid few (large_packing (large_header large)) = omega (arith, header_short (length (pieces_of fs)), large)
has_room start fs grid few (large_packing (large_file over large)) =
    let as_many : length (pieces_of fs) ≡ length fs = length-map fs _ in
    let nodes = index_few over (omega (arith, as_many, few)) in
    omega (arith, header_short (length (pieces_of fs)), pieces_long fs (grid_long start 0 fs grid), nodes, few, large)
