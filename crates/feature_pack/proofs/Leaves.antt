-- The leaves of a plan, one more at a time.
use Rattle.std.proofs.Common.{◌≡◌, ◌∙◌, ℕ, ◌+◌, ◌<◌, ◌≤◌, List, [], ◌∷◌, ◌++◌, length, drop, get_or, refl, sym, ap, append_assoc, arith, length-drop}
use Rattle.std.specs.Prelude.{Vec}
use Rattle.std.specs.declared.alloc.Global.{Global}
use Rattle.std.proofs.lemmas.List.{append-nil, get_or-map}
use Rattle.order_keys.specs.declared.bounds.Bounds.{Bounds}
use Rattle.node_items.specs.declared.item.NodeItem.{NodeItem}
use Rattle.fgb_schema.specs.Headers.{Header}
use Rattle.fgb_file.specs.File.{box_of}
use Rattle.packed_file.specs.Packing.{boxes_of, in_order, leaves_from}
use Rattle.packed_file.proofs.Leaves.{leaf_of}
use Rattle.laid_features.specs.Buffers.{framed}
use Rattle.feature_pack.specs.Pieces.{pieces_in}
use Rattle.feature_pack.proofs.Frames.{as_many}
use Rattle.feature_pack.proofs.Runs.{next_piece, piece_of}

-- the leaf of the first
leaves_first : (header : Header) (offset : ℕ) (piece : List ℕ) (rest : List (List ℕ)) → leaves_from header offset (piece ∷ rest) ≡ leaf_of header piece offset ∷ leaves_from header (offset + length piece) rest
unfolding leaves_from
leaves_first header offset piece rest = refl

leaves_none : (header : Header) (offset : ℕ) → leaves_from header offset [] ≡ []
unfolding leaves_from
leaves_none header offset = refl

none_left : (numbers : List ℕ) (i : ℕ) → length numbers ≤ i → drop i numbers ≡ []
none_left numbers i late = empty_is (drop i numbers) (omega (arith, length-drop i numbers))
  where
    empty_is : (xs : List ℕ) → length xs ≡ 0 → xs ≡ []
    empty_is [] none = refl
    empty_is (x ∷ xs) none = absurd (omega (arith, none))

module _ (header : Header) (boxes : List Bounds) (buffers : List (Vec ℕ Global)) (numbers : List ℕ) (is_boxed : boxes ≡ boxes_of header (pieces_in buffers)) where
  abbrev pieces : List (List ℕ)
  pieces = pieces_in buffers

  -- none are left
  pub leaves_all : (i offset : ℕ) (done all : List NodeItem) → length numbers ≤ i → done ++ leaves_from header offset (in_order pieces (drop i numbers)) ≡ all → done ≡ all
  leaves_all i offset done all late so_far =
      sym (append-nil done) ∙ ap (λ l. done ++ l) (sym (leaves_none header offset)) ∙ ap (λ ks. done ++ leaves_from header offset (in_order pieces ks)) (sym (none_left numbers i late)) ∙ so_far

  module _ (i : ℕ) (x : Vec ℕ Global) (early : i < length numbers) (there : get_or numbers i 0 < length buffers) (is : x ≡ get_or buffers (get_or numbers i 0) x) where
    box_there : (box d : Bounds) → box ≡ get_or boxes (get_or numbers i 0) d → box ≡ box_of header (framed x.items)
    box_there box d is_box =
        let k = get_or numbers i 0 in
        is_box ∙ ap (λ bs. get_or bs k d) is_boxed ∙ get_or-map (box_of header) pieces k [] d (omega (arith, there, as_many buffers)) ∙ ap (box_of header) (piece_of buffers k x there is)

    -- one more leaf
    pub leaves_next : (offset next : ℕ) (done more all : List NodeItem) (box d : Bounds) → box ≡ get_or boxes (get_or numbers i 0) d
        → more ≡ done ++ record { bounds = box; offset = offset } ∷ [] → next ≡ offset + length (framed x.items)
        → done ++ leaves_from header offset (in_order pieces (drop i numbers)) ≡ all
        → more ++ leaves_from header next (in_order pieces (drop (i + 1) numbers)) ≡ all
    leaves_next offset next done more all box d is_box is_more is_next so_far =
        let rest = in_order pieces (drop (i + 1) numbers) in
        let leaf : NodeItem = record { bounds = box; offset = offset } in
        let left : leaf ∷ leaves_from header next rest ≡ leaves_from header offset (in_order pieces (drop i numbers)) =
        ap (λ n. leaf ∷ leaves_from header n rest) is_next
        ∙ ap (λ (b : Bounds). record { bounds = b; offset = offset } ∷ leaves_from header (offset + length (framed x.items)) rest) (box_there box d is_box)
        ∙ sym (leaves_first header offset (framed x.items) rest)
        ∙ ap (leaves_from header offset) (sym (next_piece buffers numbers i x early there is)) in
        ap (λ l. l ++ leaves_from header next rest) is_more ∙ append_assoc done (leaf ∷ []) (leaves_from header next rest) ∙ ap (λ l. done ++ l) left ∙ so_far
