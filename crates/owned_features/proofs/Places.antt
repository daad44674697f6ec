-- Where pieces stand.
use Rattle.std.proofs.Common.{◌≡◌, ℕ, ◌+◌, List, [], ◌∷◌, ◌++◌, length, refl, ap, ◌∙◌, arith, length-append}
use Rattle.std.specs.List.{concat}
use Rattle.owned_features.specs.Owned.{places_from}

-- one more behind the others
pub places_more : (first : ℕ) (pieces : List (List ℕ)) (piece : List ℕ) → places_from first (pieces ++ piece ∷ []) ≡ places_from first pieces ++ (first + length (concat pieces)) ∷ []
places_more first [] piece = let e : first ≡ first + 0 = omega arith in ap (λ n. n ∷ []) e
places_more first (p ∷ ps) piece =
    let e : first + length p + length (concat ps) ≡ first + length (concat (p ∷ ps)) = omega (arith, length-append p (concat ps)) in
    ap (λ l. first ∷ l) (places_more (first + length p) ps piece ∙ ap (λ n. places_from (first + length p) ps ++ n ∷ []) e)
