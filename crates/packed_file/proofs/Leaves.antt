-- The leaves over features that stand one behind the other.
use Rattle.std.proofs.Common.{◌≡◌, ◌∙◌, ℕ, suc, ◌+◌, ◌≤◌, List, [], ◌∷◌, ◌++◌, length, get_or, refl, ap, arith, length-append}
use Rattle.std.specs.List.{AllByRecursion, concat}
use Rattle.node_items.specs.declared.item.NodeItem.{NodeItem}
use Rattle.fgb_schema.specs.Headers.{Header}
use Rattle.fgb_file.specs.File.{box_of}
use Rattle.packed_file.specs.Packing.{leaves_from}

-- the leaf of a feature at an offset
abbrev pub leaf_of : Header → List ℕ → ℕ → NodeItem
leaf_of header piece offset = record { bounds = box_of header piece; offset = offset }

module _ (header : Header) where
  pub leaves_count : (pieces : List (List ℕ)) (offset : ℕ) → length (leaves_from header offset pieces) ≡ length pieces
  unfolding leaves_from
  leaves_count [] offset = refl
  leaves_count (piece ∷ rest) offset = ap suc (leaves_count rest (offset + length piece))

  -- behind some features stands the leaf of the next
  pub leaf_behind : (front : List (List ℕ)) (piece : List ℕ) (rest : List (List ℕ)) (offset : ℕ) (d : NodeItem)
      → get_or (leaves_from header offset (front ++ piece ∷ rest)) (length front) d ≡ leaf_of header piece (offset + length (concat front))
  unfolding leaves_from
  leaf_behind [] piece rest offset d = ap (leaf_of header piece) (omega arith)
  leaf_behind (first ∷ front) piece rest offset d =
      leaf_behind front piece rest (offset + length first) d ∙ ap (leaf_of header piece) (omega (arith, length-append first (concat front)))

  -- what holds of a feature's leaf at each offset up to the end
  pub leaves_each : (P : NodeItem → Type 0) (end : ℕ) (pieces : List (List ℕ)) (offset : ℕ) → offset + length (concat pieces) ≤ end
      → AllByRecursion (λ piece. (at : ℕ) → at ≤ end → P (leaf_of header piece at)) pieces → AllByRecursion P (leaves_from header offset pieces)
  unfolding leaves_from
  leaves_each P end [] offset within all = tt
  leaves_each P end (piece ∷ rest) offset within all = (
    all.0 offset (omega arith),
    leaves_each P end rest (offset + length piece) (omega (arith, within, length-append piece (concat rest))) all.1,
  )
