-- The list of the properties, from one pair to the next.
use Rattle.std.proofs.Common.{◌≡◌, ℕ, zero, suc, ◌+◌, ◌≤◌, true, false, List, [], ◌∷◌, length, drop, refl, sym, ap, ◌∙◌, inl, inr, arith}
use Rattle.std.proofs.lemmas.Bool.{cases_Bool, false_from_ne_true}
use Rattle.std.proofs.lemmas.List.{length-drop}
use Rattle.fgb_schema.specs.Properties.{is_pair, pair_size, property_in, properties_within, properties_in}
use Rattle.fgb_feature.proofs.Pairs.{whole, size_least, size_most}

-- no pair stands where there are no bytes
no_bytes : (kinds b : List ℕ) → length b ≡ 0 → is_pair kinds b ≡ false
no_bytes kinds b none = false_from_ne_true (is_pair kinds b) (λ is. let pair = whole kinds b is in omega (arith, pair.keyed, none))

module _ (kinds : List ℕ) where
  within_none : (n : ℕ) (b : List ℕ) → is_pair kinds b ≡ false → properties_within n kinds b ≡ []
  within_none zero b not = refl
  within_none (suc n) b not = rw not refl

  within_more : (n : ℕ) (b : List ℕ) → is_pair kinds b ≡ true → properties_within (suc n) kinds b ≡ property_in kinds b ∷ properties_within n kinds (drop (pair_size kinds b) b)
  within_more n b is = rw is refl

  -- more than a pair for each byte changes nothing
  within_enough : (n m : ℕ) (b : List ℕ) → length b ≤ n → length b ≤ m → properties_within n kinds b ≡ properties_within m kinds b
  within_enough zero m b none room = sym (within_none m b (no_bytes kinds b (omega (arith, none))))
  within_enough (suc n) zero b room none = within_none (suc n) b (no_bytes kinds b (omega (arith, none)))
  within_enough (suc n) (suc m) b room most = elim (cases_Bool (is_pair kinds b)) [
    | inl is ↦
        let rest = drop (pair_size kinds b) b in
        let less : length rest + 2 ≤ length b = omega (arith, length-drop (pair_size kinds b) b, size_least kinds b, size_most kinds b is) in
        within_more n b is
        ∙ ap (λ ps. property_in kinds b ∷ ps) (within_enough n m rest (omega (arith, less, room)) (omega (arith, less, most)))
        ∙ sym (within_more m b is)
    | inr not ↦ within_none (suc n) b not ∙ sym (within_none (suc m) b not)
  ]

  pub properties_none : (b : List ℕ) → length b ≡ 0 → properties_in kinds b ≡ []
  unfolding properties_in
  properties_none b none = within_none (length b) b (no_bytes kinds b none)

  pub properties_more : (b : List ℕ) → is_pair kinds b ≡ true → properties_in kinds b ≡ property_in kinds b ∷ properties_in kinds (drop (pair_size kinds b) b)
  unfolding properties_in
  properties_more b is =
      let rest = drop (pair_size kinds b) b in
      let less : length rest + 2 ≤ length b = omega (arith, length-drop (pair_size kinds b) b, size_least kinds b, size_most kinds b is) in
      within_enough (length b) (suc (length b)) b (omega arith) (omega arith)
      ∙ within_more (length b) b is
      ∙ ap (λ ps. property_in kinds b ∷ ps) (within_enough (length b) (length rest) rest (omega (arith, less)) (omega arith))
