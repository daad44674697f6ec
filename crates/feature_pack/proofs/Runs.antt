-- Parts one behind the other, one more at a time.
use Rattle.std.proofs.Common.{◌≡◌, ◌∙◌, ℕ, ◌+◌, ◌-◌, ◌^◌, ◌<◌, List, [], ◌∷◌, ◌++◌, length, map, take, drop, get_or, refl, sym, ap, add-one, append_assoc, drop-cons, arith, length-append}
use Rattle.std.specs.Prelude.{Vec, min}
use Rattle.std.specs.declared.alloc.Global.{Global}
use Rattle.std.specs.List.{concat}
use Rattle.std.proofs.lemmas.List.{append-nil, get_or-map, map_push, take-append-drop, take_more}
use Rattle.fgb_schema.specs.Headers.{Header}
use Rattle.fgb_file.specs.File.{box_of}
use Rattle.packed_file.specs.Packing.{boxes_of, in_order}
use Rattle.laid_features.specs.Buffers.{framed}
use Rattle.feature_pack.specs.Pieces.{pieces_in}

module _ {X : Type 0} (f : X → List ℕ) where
  pub concat_over : (xs ys : List X) → concat (map f (xs ++ ys)) ≡ concat (map f xs) ++ concat (map f ys)
  concat_over [] ys = refl
  concat_over (x ∷ xs) ys = ap (λ l. f x ++ l) (concat_over xs ys) ∙ sym (append_assoc (f x) (concat (map f xs)) (concat (map f ys)))

  pub concat_next : (xs : List X) (i : ℕ) (d : X) → i < length xs → concat (map f (take (i + 1) xs)) ≡ concat (map f (take i xs)) ++ f (get_or xs i d)
  concat_next xs i d early =
      ap (λ l. concat (map f l)) (take_more xs i d early) ∙ concat_over (take i xs) (get_or xs i d ∷ [])
      ∙ ap (λ l. concat (map f (take i xs)) ++ l) (append-nil (f (get_or xs i d)))

  pub concat_whole : (xs : List X) (i : ℕ) → concat (map f (take i xs)) ++ concat (map f (drop i xs)) ≡ concat (map f xs)
  concat_whole xs i = sym (concat_over (take i xs) (drop i xs)) ∙ ap (λ l. concat (map f l)) (take-append-drop i xs)

-- the first of those that are left
pub drop_next : (order : List ℕ) (i : ℕ) → i < length order → drop i order ≡ get_or order i 0 ∷ drop (i + 1) order
drop_next order i early = drop-cons order i 0 early ∙ ap (λ n. get_or order i 0 ∷ drop n order) (sym (add-one i))

-- a sum that stays at the highest number of eight bytes
pub sum_next : (so_far with piece sum more : ℕ) → with ≡ so_far + piece → sum ≡ min so_far (2 ^ 64 - 1) → more ≡ min (sum + piece) (2 ^ 64 - 1) → more ≡ min with (2 ^ 64 - 1)
sum_next so_far with piece sum more longer is grown = omega (arith, longer, is, grown)

-- the piece of a buffer by its number
pub piece_of : (buffers : List (Vec ℕ Global)) (k : ℕ) (x : Vec ℕ Global) → k < length buffers → x ≡ get_or buffers k x → get_or (pieces_in buffers) k [] ≡ framed x.items
piece_of buffers k x there is = get_or-map (λ buffer. framed buffer.items) buffers k x [] there ∙ ap (λ (v : Vec ℕ Global). framed v.items) (sym is)

-- the length of one more piece
pub lengths_next : (buffers : List (Vec ℕ Global)) (i : ℕ) (x : Vec ℕ Global) → i < length buffers → x ≡ get_or buffers i x
    → length (concat (pieces_in (take (i + 1) buffers))) ≡ length (concat (pieces_in (take i buffers))) + length (framed x.items)
lengths_next buffers i x early is =
    ap length (concat_next (λ (v : Vec ℕ Global). framed v.items) buffers i x early)
    ∙ ap (λ (v : Vec ℕ Global). length (concat (pieces_in (take i buffers)) ++ framed v.items)) (sym is)
    ∙ length-append (concat (pieces_in (take i buffers))) (framed x.items)

-- one more box
pub boxes_next : (header : Header) (buffers : List (Vec ℕ Global)) (i : ℕ) (x : Vec ℕ Global) → i < length buffers → x ≡ get_or buffers i x
    → boxes_of header (pieces_in (take (i + 1) buffers)) ≡ boxes_of header (pieces_in (take i buffers)) ++ box_of header (framed x.items) ∷ []
boxes_next header buffers i x early is =
    ap (λ vs. boxes_of header (pieces_in vs)) (take_more buffers i x early)
    ∙ ap (boxes_of header) (map_push (λ (v : Vec ℕ Global). framed v.items) (take i buffers) (get_or buffers i x))
    ∙ map_push (box_of header) (pieces_in (take i buffers)) (framed (get_or buffers i x).items)
    ∙ ap (λ (v : Vec ℕ Global). boxes_of header (pieces_in (take i buffers)) ++ box_of header (framed v.items) ∷ []) (sym is)

-- the pieces from a number on
module _ (buffers : List (Vec ℕ Global)) (numbers : List ℕ) (i : ℕ) (x : Vec ℕ Global) (early : i < length numbers) (there : get_or numbers i 0 < length buffers)
    (is : x ≡ get_or buffers (get_or numbers i 0) x) where
  abbrev pieces : List (List ℕ)
  pieces = pieces_in buffers

  pub next_piece : in_order pieces (drop i numbers) ≡ framed x.items ∷ in_order pieces (drop (i + 1) numbers)
  next_piece =
      ap (in_order pieces) (drop_next numbers i early)
      ∙ ap (λ piece. piece ∷ in_order pieces (drop (i + 1) numbers)) (piece_of buffers (get_or numbers i 0) x there is)

  pub so_far_next : concat (in_order pieces (take (i + 1) numbers)) ≡ concat (in_order pieces (take i numbers)) ++ framed x.items
  so_far_next =
      concat_next (λ k. get_or pieces k []) numbers i 0 early
      ∙ ap (λ piece. concat (in_order pieces (take i numbers)) ++ piece) (piece_of buffers (get_or numbers i 0) x there is)

  pub left_next : length (concat (in_order pieces (drop i numbers))) ≡ length (framed x.items) + length (concat (in_order pieces (drop (i + 1) numbers)))
  left_next = ap (λ ps. length (concat ps)) next_piece ∙ length-append (framed x.items) (concat (in_order pieces (drop (i + 1) numbers)))
