-- A text that is split at its first two colons.
use Rattle.std.proofs.Common.{◌≡◌, ◌≢◌, ℕ, zero, suc, ◌<◌, List, [], ◌∷◌, ◌++◌, length, get_or, Option, MatchOption, Bor, ap, ◌∙◌, arith, lit<}
use Rattle.std.specs.List.{AllByRecursion}
use Rattle.std.proofs.lemmas.Str.Pattern.{IsSplitOnceResult, split_after, split_parts}
use Rattle.fgb_where.specs.declared.words.Op.{Op}
use Rattle.fgb_where.specs.declared.words.Op.TheVariants.{Eq, Ne, Lt, Le, Gt, Ge}
use Rattle.fgb_where.specs.Words.{Spells, word_of}

-- no byte is a colon, by place and by recursion
abbrev pub Plain : List ℕ → Type 0
Plain xs = (i : ℕ) → i < length xs → get_or xs i 0 ≢ 58

plain_each : (xs : List ℕ) → AllByRecursion (λ c. c ≢ 58) xs → Plain xs
plain_each [] all i early = absurd (omega arith)
plain_each (x ∷ xs) all zero early = all.0
plain_each (x ∷ xs) all (suc i) early = plain_each xs all.1 i (omega arith)

each_plain : (xs : List ℕ) → Plain xs → AllByRecursion (λ c. c ≢ 58) xs
each_plain [] plain = tt
each_plain (x ∷ xs) plain = (plain 0 (omega arith), each_plain xs (λ i early. plain (suc i) (omega arith)))

word_plain : (op : Op) → Plain (word_of op)
word_plain Eq = plain_each (word_of Eq) (search arith)
word_plain Ne = plain_each (word_of Ne) (search arith)
word_plain Lt = plain_each (word_of Lt) (search arith)
word_plain Le = plain_each (word_of Le) (search arith)
word_plain Gt = plain_each (word_of Gt) (search arith)
word_plain Ge = plain_each (word_of Ge) (search arith)

-- the two results of `split_once` of a text that spells a condition
module _ (text name : List ℕ) (op : Op) (value : List ℕ) (spells : Spells text name op value) where
  -- the first
  pub first_split : (r : Option (Bor (List ℕ) × Bor (List ℕ))) → IsSplitOnceResult 58 text r → MatchOption r ⊥ (λ x. (x.0.now ≡ name) × (x.1.now ≡ word_of op ++ (58 ∷ value)))
  first_split r split = split_after 58 text name (word_of op ++ (58 ∷ value)) r split (lit< tt) spells.parts (plain_each name spells.plain)

  -- the second, of what is left
  pub second_split : (rest : List ℕ) → rest ≡ word_of op ++ (58 ∷ value) → (r : Option (Bor (List ℕ) × Bor (List ℕ))) → IsSplitOnceResult 58 rest r
      → MatchOption r ⊥ (λ x. (x.0.now ≡ word_of op) × (x.1.now ≡ value))
  second_split rest is r split = split_after 58 rest (word_of op) value r split (lit< tt) is (word_plain op)

-- what was split spells a condition
pub spelled : (text name rest word value : List ℕ) (op : Op) → text ≡ name ++ (58 ∷ rest) → Plain name → rest ≡ word ++ (58 ∷ value) → word ≡ word_of op → name ≢ []
    → Spells text name op value
spelled text name rest word value op first plain second is named = record {
  parts = first ∙ ap (λ r. name ++ (58 ∷ r)) (second ∙ ap (λ w. w ++ (58 ∷ value)) is);
  named = named;
  plain = each_plain name plain;
}
