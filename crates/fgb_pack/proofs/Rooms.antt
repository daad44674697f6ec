-- Whether a packing is too large.
use Rattle.std.proofs.Common.{◌≡◌, ℕ, ◌+◌, ◌*◌, ◌^◌, ◌<◌, ◌≤◌, ◌≢◌, List, length, Option, Some, None, refl, sym, ap, subst, ◌∙◌, arith}
use Rattle.std.specs.Prelude.{IfSome, option_map}
use Rattle.std.specs.List.{concat}
use Rattle.level_bounds.specs.Levels.{Shape, HasLevels, LacksLevels, no_feature, too_narrow, too_many}
use Rattle.level_bounds.specs.Shapes.{shape_of}
use Rattle.level_bounds.specs.declared.levels.Levels.{Levels}
use Rattle.fgb_schema.specs.Headers.{Header}
use Rattle.fgb_file.specs.File.{IsFile, IsOpen, first_place, header_end, nodes_of}
use Rattle.fgb_file.proofs.Opening.{open_same, shape_same}
use Rattle.flat_builder.specs.Laying.{laid}
use Rattle.header_tables.specs.Laying.{header_table}
use Rattle.packed_file.specs.Packing.{IsTooLarge, large_header, large_file, IsTreeOver, no_index, tree, header_bytes, packed_header, packed_size}
use Rattle.fgb_pack.specs.Plans.{HasNoRoom, HasNoTree, no_header, no_file, size_of}

-- features have one tree
pub over_same : (features node_size : ℕ) (i j : Option Shape) → IsTreeOver features node_size i → IsTreeOver features node_size j → i ≡ j
over_same features node_size None None (no_index none) (no_index also) = refl
over_same features node_size None (Some u) (no_index none) (tree shaped leaves sized) = absurd (omega (arith, none, shaped.some, leaves))
over_same features node_size (Some t) None (tree shaped leaves sized) (no_index none) = absurd (omega (arith, none, shaped.some, leaves))
over_same features node_size (Some t) (Some u) (tree shaped leaves sized) (tree also others same) =
    ap Some (shape_same t u shaped also (leaves ∙ sym others) (sized ∙ sym same))

-- its leaves are as many as the features
pub over_leaves : (levels : Option Levels) (features node_size count : ℕ) → count ≡ features → IsTreeOver features node_size (option_map shape_of levels)
    → IfSome levels (λ l. count ≡ (shape_of l).leaves)
over_leaves None features node_size count same over = tt
over_leaves (Some l) features node_size count same (tree shaped leaves sized) = same ∙ sym leaves

-- where the header and the file are not too large, the packing is not
pub has_room : (header : Header) (pieces : List (List ℕ)) (node_size : ℕ) (index : Option Shape) → IsTreeOver (length pieces) node_size index
    → length (header_bytes header (length pieces) node_size) ≤ 10485760 → packed_size header pieces node_size index ≤ 2 ^ 48
    → IsTooLarge header pieces node_size → ⊥
has_room header pieces node_size index over head small (large_header large) = omega arith
has_room header pieces node_size index over head small (large_file {index = other} also large) =
    let same : packed_size header pieces node_size index ≡ packed_size header pieces node_size other =
    ap (packed_size header pieces node_size) (over_same (length pieces) node_size index other over also) in
    omega (arith, small, large, same)

-- and where there is no room for them, it is
pub no_room : (header : Header) (pieces : List (List ℕ)) (node_size features bytes : ℕ) → features ≡ length pieces → bytes ≡ length (concat pieces)
    → HasNoRoom header features node_size bytes → IsTooLarge header pieces node_size
no_room header pieces node_size features bytes as_many long (no_header large) =
    large_header (subst (λ n. 10485760 < length (header_bytes header n node_size)) as_many large)
no_room header pieces node_size features bytes as_many long (no_file {index = index} over large) =
    large_file (subst (λ n. IsTreeOver n node_size index) as_many over)
    (subst (λ n. 2 ^ 48 < size_of (length (header_bytes header n node_size)) index (length (concat pieces))) as_many
    (subst (λ n. 2 ^ 48 < size_of (length (header_bytes header features node_size)) index n) long large))

-- levels are those of a tree over the features
pub over_levels : {features node_size : ℕ} {t : Shape} → HasLevels features node_size t → IsTreeOver features node_size (Some t)
over_levels has = tree has.shaped has.leaves has.sized

-- and where features have none, their tree is too large
pub lacks_tree : {features node_size : ℕ} → 2 ≤ node_size → features ≢ 0 → LacksLevels features node_size → HasNoTree features node_size
lacks_tree wide some (no_feature none) = absurd (some none)
lacks_tree wide some (too_narrow narrow) = absurd (omega arith)
lacks_tree wide some (too_many {t = t} shaped leaves sized large) = record { tree = t; over = tree shaped leaves sized; large = large }

-- so is the file with it
pub no_tree : (header : Header) (features counted node_size bytes : ℕ) → counted ≡ features → HasNoTree counted node_size → HasNoRoom header features node_size bytes
no_tree header features counted node_size bytes same none =
    subst (λ n. HasNoRoom header n node_size bytes) same (no_file none.over (omega (arith, none.large)))

pub past_limit : (header : Header) (features counted node_size bytes len : ℕ) (head : List ℕ) (index : Option Shape) → counted ≡ features
    → head ≡ header_bytes header counted node_size → len ≡ length head → IsTreeOver counted node_size index → 2 ^ 48 < size_of len index bytes
    → HasNoRoom header features node_size bytes
past_limit header features counted node_size bytes len head index same is_head long over large =
    subst (λ n. HasNoRoom header n node_size bytes) same
    (no_file over (subst (λ n. 2 ^ 48 < size_of n index bytes) (long ∙ ap length is_head) large))

-- the place of the first feature behind an index, if there is one
first_at : (image : List ℕ) (index : Option Shape) → first_place image index ≡ header_end image + 40 * nodes_of index
first_at image None = omega arith
first_at image (Some t) = refl

pub first_behind : (image : List ℕ) (index : Option Shape) (pieces : List (List ℕ)) (place nodes : ℕ) (levels : Option Levels) → IsFile image index pieces
    → place ≡ header_end image → nodes ≡ nodes_of (option_map shape_of levels) → IsOpen image (option_map shape_of levels)
    → place + 40 * nodes ≡ first_place image index
first_behind image index pieces place nodes levels file behind counted opened =
    let same : option_map shape_of levels ≡ index = open_same image opened file.opened in
    let all : nodes ≡ nodes_of index = counted ∙ ap nodes_of same in
    omega (arith, behind, all, first_at image index)

-- a header with another number of features and another node size is as large as the buffer of that
pub header_large : (shown copied counted sized : Header) (features node_size : ℕ) → copied ≡ shown → counted ≡ record copied { features_count = features }
    → sized ≡ record counted { node_size = node_size } → 10485760 < length (laid (header_table sized)) → 10485760 < length (header_bytes shown features node_size)
header_large shown copied counted sized features node_size is_copied is_counted is_sized large =
    let all : sized ≡ packed_header shown features node_size =
    is_sized ∙ ap (λ (h : Header). record h { node_size = node_size }) is_counted ∙ ap (λ (h : Header). packed_header h features node_size) is_copied in
    subst (λ h. 10485760 < length (laid (header_table h))) all large
