-- The bytes of nodes, one after another.
use Rattle.std.proofs.Common.{◌≡◌, ℕ, suc, ◌+◌, ◌*◌, List, [], ◌∷◌, ◌++◌, length, refl, sym, ap, ◌∙◌, append_assoc, arith, length-append}
use Rattle.std.specs.Prelude.{slice_range}
use Rattle.std.specs.List.{flat_map}
use Rattle.std.proofs.lemmas.Grind.{flat_map-append}
use Rattle.node_items.specs.declared.item.NodeItem.{NodeItem}
use Rattle.node_items.specs.Nodes.{bytes_of, node_of, node_place, stored}
use Rattle.node_items.proofs.Bytes.{node_of-bytes_of}
use Rattle.tree_writer.specs.Packed.{IsStorable}
use Rattle.tree_writer.proofs.Slices.{slice_middle}

length_node : (v : NodeItem) → length (bytes_of v) ≡ 40
length_node v = refl

pub length_nodes : (nodes : List NodeItem) → length (flat_map bytes_of nodes) ≡ 40 * length nodes
length_nodes [] = refl
length_nodes (v ∷ nodes) =
    length-append (bytes_of v) (flat_map bytes_of nodes) ∙ ap (λ n. length (bytes_of v) + n) (length_nodes nodes) ∙ next (length (bytes_of v)) (length nodes) (length_node v)
  where
    next : (m n : ℕ) → m ≡ 40 → m + 40 * n ≡ 40 * suc n
    next m n e = omega arith

-- a node that stands between others is stored under its number
pub stored_between : (front back : List ℕ) (before behind : List NodeItem) (v : NodeItem) → IsStorable v
    → stored ((front ++ flat_map bytes_of (before ++ (v ∷ behind))) ++ back) (length front) (length before) ≡ v
unfolding stored
stored_between front back before behind v fits =
    ap (λ image. node_of (slice_range image at (at + 40))) whole
    ∙ ap node_of (slice_middle (front ++ flat_map bytes_of before) (bytes_of v) (flat_map bytes_of behind ++ back) at (at + 40) here next)
    ∙ node_of-bytes_of v (record { min_x = fits.min_x; min_y = fits.min_y; max_x = fits.max_x; max_y = fits.max_y; offset = fits.offset })
  where
    at : ℕ
    at = node_place (length front) (length before)

    here : node_place (length front) (length before) ≡ length (front ++ flat_map bytes_of before)
    here = omega (arith, length-append front (flat_map bytes_of before), length_nodes before)

    next : node_place (length front) (length before) + 40 ≡ node_place (length front) (length before) + length (bytes_of v)
    next = ap (λ n. node_place (length front) (length before) + n) (sym (length_node v))

    regroup : (a b c d e : List ℕ) → (a ++ (b ++ (c ++ d))) ++ e ≡ ((a ++ b) ++ c) ++ (d ++ e)
    regroup a b c d e = simp append_assoc

    whole : (front ++ flat_map bytes_of (before ++ (v ∷ behind))) ++ back ≡ ((front ++ flat_map bytes_of before) ++ bytes_of v) ++ (flat_map bytes_of behind ++ back)
    whole =
        ap (λ l. (front ++ l) ++ back) (flat_map-append bytes_of before (v ∷ behind))
        ∙ regroup front (flat_map bytes_of before) (bytes_of v) (flat_map bytes_of behind) back
