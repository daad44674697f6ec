-- Pieces with size prefixes can be read in one way only.
use Rattle.std.proofs.Common.{◌≡◌, ℕ, ◌+◌, List, [], ◌∷◌, ◌++◌, length, take, drop, refl, sym, ap, ◌∙◌, arith, length-append}
use Rattle.std.specs.List.{AllByRecursion, concat}
use Rattle.std.proofs.lemmas.List.{append_assoc, take_at, drop_at}
use Rattle.flat_layout.specs.Layout.{number_at}
use Rattle.fgb_file.specs.File.{IsPiece}
use Rattle.fgb_file.proofs.Bytes.{number_at-append}

-- two pieces that begin equal bytes are one
same_piece : (p r xs ys : List ℕ) → IsPiece p → IsPiece r → p ++ xs ≡ r ++ ys → (p ≡ r) × (xs ≡ ys)
same_piece p r xs ys is ir same = (first, rest)
  where
    sizes : number_at 4 p 0 ≡ number_at 4 r 0
    sizes = sym (number_at-append 4 p xs (omega (arith, is.sized))) ∙ ap (λ s. number_at 4 s 0) same ∙ number_at-append 4 r ys (omega (arith, ir.sized))

    lengths : length p ≡ length r
    lengths = is.sized ∙ ap (λ n. 4 + n) sizes ∙ sym ir.sized

    first : p ≡ r
    first = sym (take_at p xs (length p) refl) ∙ ap (take (length p)) same ∙ take_at r ys (length p) (sym lengths)

    rest : xs ≡ ys
    rest = sym (drop_at p xs (length p) refl) ∙ ap (drop (length p)) same ∙ drop_at r ys (length p) (sym lengths)

-- where a list of pieces begins with others, these are a front of it
pub pieces_front : (ps rs : List (List ℕ)) (more : List ℕ) → AllByRecursion IsPiece ps → AllByRecursion IsPiece rs → concat ps ≡ concat rs ++ more
    → (rest : List (List ℕ)) × (ps ≡ rs ++ rest) × (concat rest ≡ more)
pieces_front ps [] more all_p all_r same = (ps, refl, same)
pieces_front [] (r ∷ rs) more all_p all_r same = absurd (omega (arith, ap length same, length-append (r ++ concat rs) more, length-append r (concat rs), all_r.0.sized))
pieces_front (p ∷ ps) (r ∷ rs) more all_p all_r same =
    let both = same_piece p r (concat ps) (concat rs ++ more) all_p.0 all_r.0 (same ∙ append_assoc r (concat rs) more) in
    let deep = pieces_front ps rs more all_p.1 all_r.1 both.1 in
    (deep.0, ap (λ x. x ∷ ps) both.0 ∙ ap (λ xs. r ∷ xs) deep.1, deep.2)
