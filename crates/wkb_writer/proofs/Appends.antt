-- Pieces at the end of a buffer.
use Rattle.std.proofs.Common.{◌≡◌, ℕ, ◌+◌, ◌-◌, ◌<◌, ◌≤◌, List, [], ◌∷◌, ◌++◌, length, map, take, drop, get_or, Some, refl, ap, sym, ◌∙◌, arith}
use Rattle.std.specs.Prelude.{slice_get}
use Rattle.std.specs.List.{concat}
use Rattle.std.proofs.lemmas.List.{append-nil, append_assoc, get_or-drop, length-drop, length-map, length-take-le, map-append, take_all}
use Rattle.std.proofs.lemmas.List.Concat.{flat_map-append}
use Rattle.std.proofs.lemmas.Option.{get_or_from_slice_get, slice_get_within, slice_get-get_or}
use Rattle.byteorder.specs.Endian.{little_bytes}
use Rattle.owned_shape.proofs.Fields.{take_more}
use Rattle.wkb_writer.specs.Levels.{IsRing}
use Rattle.wkb_writer.specs.Wkb.{counted, line_bytes, ring_of, row_bytes}

concat-append : (xss yss : List (List ℕ)) → concat (xss ++ yss) ≡ concat xss ++ concat yss
concat-append [] yss = refl
concat-append (xs ∷ xss) yss = ap (λ ys. xs ++ ys) (concat-append xss yss) ∙ sym (append_assoc xs (concat xss) (concat yss))

module _ {A : Type 0} (bytes_of : A → List ℕ) where
  -- the bytes of the first things
  abbrev pub first_pieces : List A → ℕ → List ℕ
  first_pieces xs i = concat (map bytes_of (take i xs))

  pub piece_more : (xs : List A) (i : ℕ) (x : A) (start before after : List ℕ) → slice_get xs i ≡ Some x → before ≡ start ++ first_pieces xs i → after ≡ before ++ bytes_of x
      → after ≡ start ++ first_pieces xs (i + 1)
  piece_more xs i x start before after at so_far grown =
      let pieces : first_pieces xs (i + 1) ≡ first_pieces xs i ++ bytes_of x =
      ap (λ ys. concat (map bytes_of ys)) (take_more xs i x at) ∙ ap concat (map-append bytes_of (take i xs) (x ∷ []))
      ∙ concat-append (map bytes_of (take i xs)) (bytes_of x ∷ []) ∙ ap (λ ys. first_pieces xs i ++ ys) (append-nil (bytes_of x)) in
      grown ∙ ap (λ ys. ys ++ bytes_of x) so_far ∙ append_assoc start (first_pieces xs i) (bytes_of x) ∙ ap (λ ys. start ++ ys) (sym pieces)

  -- and of all, behind how many they are
  pub counted_all : (xs : List A) (count i : ℕ) (old room start out : List ℕ) → room ≡ old → count ≡ length xs → length xs ≤ i → start ≡ room ++ little_bytes 4 count
      → out ≡ start ++ first_pieces xs i → out ≡ old ++ counted (map bytes_of xs)
  counted_all xs count i old room start out same is late begun all =
      all ∙ ap (λ ys. start ++ concat (map bytes_of ys)) (take_all i xs late)
      ∙ ap (λ ys. ys ++ concat (map bytes_of xs)) (begun ∙ ap (λ ys. ys ++ little_bytes 4 count) same ∙ ap (λ n. old ++ little_bytes 4 n) (is ∙ sym (length-map xs bytes_of)))
      ∙ append_assoc old (little_bytes 4 (length (map bytes_of xs))) (concat (map bytes_of xs))

-- the points of a ring
module _ (rows : List (List ℕ)) (ring : ℕ × ℕ) where
  in_ring : (i : ℕ) (row : List ℕ) → ring.0 ≤ i → slice_get rows i ≡ Some row → slice_get (drop ring.0 rows) (i - ring.0) ≡ Some row
  in_ring i row from at =
      let inside = slice_get_within rows i row at in
      let early : i - ring.0 < length (drop ring.0 rows) = omega (arith, inside, from, length-drop ring.0 rows) in
      let back : ring.0 + (i - ring.0) ≡ i = omega (arith, from) in
      slice_get-get_or (drop ring.0 rows) (i - ring.0) row early
      ∙ ap (λ r. Some r) (get_or-drop ring.0 rows (i - ring.0) row ∙ ap (λ n. get_or rows n row) back ∙ get_or_from_slice_get rows i row row at)

  -- the bytes of the points in front of this one
  abbrev pub ring_pieces : ℕ → List ℕ
  ring_pieces i = first_pieces row_bytes (drop ring.0 rows) (i - ring.0)

  pub ring_more : (i : ℕ) (row start before after : List ℕ) → ring.0 ≤ i → slice_get rows i ≡ Some row → before ≡ start ++ ring_pieces i → after ≡ before ++ row_bytes row
      → after ≡ start ++ ring_pieces (i + 1)
  ring_more i row start before after from at so_far grown =
      let next : i - ring.0 + 1 ≡ i + 1 - ring.0 = omega (arith, from) in
      piece_more row_bytes (drop ring.0 rows) (i - ring.0) row start before after (in_ring i row from at) so_far grown
      ∙ ap (λ n. start ++ first_pieces row_bytes (drop ring.0 rows) n) next

  pub ring_all : (points i : ℕ) (old room start out : List ℕ) → room ≡ old → length rows ≡ points → IsRing points ring → i ≡ ring.1 → start ≡ room ++ little_bytes 4 (ring.1 - ring.0)
      → out ≡ start ++ ring_pieces i → out ≡ old ++ line_bytes (ring_of rows ring)
  ring_all points i old room start out same size within at begun all =
      let enough : ring.1 - ring.0 ≤ length (drop ring.0 rows) = omega (arith, size, within.0, within.1, length-drop ring.0 rows) in
      let counted : length (map row_bytes (ring_of rows ring)) ≡ ring.1 - ring.0 = length-map (ring_of rows ring) row_bytes ∙ length-take-le (ring.1 - ring.0) (drop ring.0 rows) enough in
      all ∙ ap (λ n. start ++ ring_pieces n) at
      ∙ ap (λ ys. ys ++ ring_pieces ring.1) (begun ∙ ap (λ ys. ys ++ little_bytes 4 (ring.1 - ring.0)) same ∙ ap (λ n. old ++ little_bytes 4 n) (sym counted))
      ∙ append_assoc old (little_bytes 4 (length (map row_bytes (ring_of rows ring)))) (ring_pieces ring.1)

-- all points are a ring
pub whole_ring : (rows : List (List ℕ)) (points : ℕ) → length rows ≡ points → ring_of rows (0, points) ≡ rows
whole_ring rows points size = take_all (points - 0) rows (omega (arith, size))

four : (old p q r s : List ℕ) → old ++ p ++ q ++ r ++ s ≡ old ++ (p ++ (q ++ (r ++ s)))
four old p q r s = simp append_assoc

-- two pieces
pub two_put : (front is rest before between after : List ℕ) → is ≡ front → between ≡ before ++ is → after ≡ between ++ rest → after ≡ before ++ (front ++ rest)
two_put front is rest before between after same e1 e2 = e2 ∙ ap (λ ys. ys ++ rest) (e1 ∙ ap (λ ys. before ++ ys) same) ∙ append_assoc before front rest

-- the ordinates of a point, one after another
pub row_put : (x y : ℕ) (a b : List ℕ) (old first second third last : List ℕ) → first ≡ old ++ little_bytes 8 x → second ≡ first ++ little_bytes 8 y → third ≡ second ++ row_bytes a
    → last ≡ third ++ row_bytes b → last ≡ old ++ row_bytes (x ∷ y ∷ a ++ b)
row_put x y a b old first second third last e1 e2 e3 e4 =
    e4 ∙ ap (λ ys. ys ++ row_bytes b) (e3 ∙ ap (λ ys. ys ++ row_bytes a) (e2 ∙ ap (λ ys. ys ++ little_bytes 8 y) e1))
    ∙ four old (little_bytes 8 x) (little_bytes 8 y) (row_bytes a) (row_bytes b)
    ∙ ap (λ ys. old ++ (little_bytes 8 x ++ (little_bytes 8 y ++ ys))) (sym (flat_map-append (little_bytes 8) a b))
