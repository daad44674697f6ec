-- The line of a check.
use Rattle.std.specs.Prelude.{ℕ, List, ◌∷◌, [], ◌++◌, codes, decimal}

-- the line of a file that breaks no rule: how many features it has, and how many nodes its index has
unfoldable pub accepted_text : ℕ → ℕ → List ℕ
accepted_text features nodes = codes "accepted " ++ decimal features ++ codes " features " ++ decimal nodes ++ codes " nodes" ++ 10 ∷ []
