-- The text of a condition: a name, a relation and a value, with a colon between two of them.
use Rattle.std.specs.Prelude.{◌≡◌, ◌≢◌, ℕ, List, [], ◌∷◌, ◌++◌}
use Rattle.std.specs.List.{AllByRecursion}
use Rattle.fgb_where.specs.declared.words.Op.{Op}
use Rattle.fgb_where.specs.declared.words.Op.TheVariants.{Eq, Ne, Lt, Le, Gt, Ge}

-- the word of a relation: `eq`, `ne`, `lt`, `le`, `gt`, `ge`
abbrev pub word_of : Op → List ℕ
word_of Eq = 101 ∷ 113 ∷ []
word_of Ne = 110 ∷ 101 ∷ []
word_of Lt = 108 ∷ 116 ∷ []
word_of Le = 108 ∷ 101 ∷ []
word_of Gt = 103 ∷ 116 ∷ []
word_of Ge = 103 ∷ 101 ∷ []

-- the text is a name, which is not empty and holds no colon, a colon, the word of a relation, a colon, and a value
pub record Spells (text name : List ℕ) (op : Op) (value : List ℕ) : Type 0 where
  pub parts : text ≡ name ++ (58 ∷ (word_of op ++ (58 ∷ value)))
  pub named : name ≢ []
  pub plain : AllByRecursion (λ c. c ≢ 58) name
