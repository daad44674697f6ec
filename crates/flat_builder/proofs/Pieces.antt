-- What is laid piece by piece.
use Rattle.std.proofs.Common.{◌≡◌, ℕ, suc, ◌+◌, ◌*◌, ◌-◌, ◌%◌, ◌<◌, ◌≤◌, List, [], ◌∷◌, ◌++◌, length, get_or, replicate, refl, ap, ◌∙◌, arith, length-append, append_assoc}
use Rattle.std.proofs.lemmas.List.{length-replicate}
use Rattle.std.specs.List.{flat_map}
use Rattle.byteorder.specs.Endian.{little_bytes}
use Rattle.byteorder.specs.Numbers.{length-bytes_low_first}
use Rattle.flat_builder.specs.Trees.{vector}
use Rattle.flat_builder.specs.Laying.{filling, lay, stands, text_bytes, vector_bytes}
use Rattle.flat_builder.proofs.Lengths.{length-pieces}

-- a string: its count, its bytes, a zero byte and the filling
pub text_laid : (old a b c text : List ℕ) (n : ℕ) → a ≡ old ++ little_bytes 4 n → n ≡ length text → b ≡ a ++ text → c ≡ b ++ 0 ∷ []
    → c ++ filling 4 (length c) ≡ old ++ text_bytes text (length old)
unfolding text_bytes
text_laid old a b c text n counted long shown ended =
    let count = little_bytes 4 (length text) in
    let fill = filling 4 (length old + 4 + length text + 1) in
    let whole : c ≡ old ++ (count ++ text ++ 0 ∷ []) =
    ended ∙ ap (λ xs. xs ++ 0 ∷ []) (shown ∙ ap (λ xs. xs ++ text) (counted ∙ ap (λ m. old ++ little_bytes 4 m) long))
    ∙ ap (λ xs. xs ++ 0 ∷ []) (append_assoc old count text) ∙ append_assoc old (count ++ text) (0 ∷ []) in
    let here : length c ≡ length old + 4 + length text + 1 = omega (arith, ap length whole, length-append old (count ++ text ++ 0 ∷ []), length-append text (0 ∷ [])) in
    ap (λ m. c ++ filling 4 m) here
    ∙ ap (λ xs. xs ++ fill) whole
    ∙ append_assoc old (count ++ text ++ 0 ∷ []) fill
    ∙ ap (λ xs. old ++ xs) (append_assoc (count ++ text) (0 ∷ []) fill)

-- a vector of numbers: the filling in front, the count, the elements and the filling behind
pub vector_laid : (old a b c elements : List ℕ) (w v n : ℕ) → v ≡ stands (vector w elements) (length old) → length old ≤ v → a ≡ old ++ replicate (v - length old) 0
    → b ≡ a ++ little_bytes 4 n → n ≡ length elements → c ≡ b ++ flat_map (little_bytes w) elements
    → c ++ filling 4 (length c) ≡ old ++ lay (vector w elements) (length old)
unfolding lay vector_bytes
vector_laid old a b c elements w v n here behind front counted long laid =
    let count = little_bytes 4 (length elements) in
    let pieces = flat_map (little_bytes w) elements in
    let zeros : List ℕ = replicate (v - length old) 0 in
    let fill = filling 4 (v + 4 + w * length elements) in
    let whole : c ≡ old ++ (zeros ++ (count ++ pieces)) =
    laid ∙ ap (λ xs. xs ++ pieces) (counted ∙ ap (λ xs. xs ++ little_bytes 4 n) front ∙ ap (λ m. old ++ zeros ++ little_bytes 4 m) long)
    ∙ append_assoc (old ++ zeros) count pieces ∙ append_assoc old zeros (count ++ pieces) in
    let ends : length c ≡ v + 4 + w * length elements =
    omega (arith, behind, ap length whole, length-append old (zeros ++ (count ++ pieces)), length-append zeros (count ++ pieces), length-replicate {A = ℕ} (v - length old) 0, length-pieces (little_bytes w) w (length-bytes_low_first 0 w) elements) in
    ap (λ m. c ++ filling 4 m) ends
    ∙ ap (λ xs. xs ++ fill) whole
    ∙ append_assoc old (zeros ++ (count ++ pieces)) fill
    ∙ ap (λ xs. old ++ xs) (append_assoc zeros (count ++ pieces) fill)
    ∙ ap (λ m. old ++ (replicate (m - length old) 0 ++ (little_bytes 4 (length elements) ++ pieces ++ filling 4 (m + 4 + w * length elements)))) here

-- bytes are their own elements
pub bytes_laid : (xs : List ℕ) → ((i : ℕ) → get_or xs i 0 < 256) → flat_map (little_bytes 1) xs ≡ xs
bytes_laid [] small = refl
bytes_laid (x ∷ xs) small =
    let first : x % 256 ≡ x = omega (arith, small 0) in
    ap (λ y. y ∷ flat_map (little_bytes 1) xs) first ∙ ap (λ ys. x ∷ ys) (bytes_laid xs (λ i. small (suc i)))
