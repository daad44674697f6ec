-- What a checker says of a file.
use Rattle.std.specs.Prelude.{◌≡◌, ⊤, ℕ, List, length, Option, Result, Ok, Err}
use Rattle.level_bounds.specs.Levels.{Shape}
use Rattle.fgb_file.specs.File.{IsFile, BreaksFirst, nodes_of}
use Rattle.fgb_check.specs.declared.verdict.Verdict.{Verdict}
use Rattle.fgb_check.specs.declared.verdict.Verdict.TheVariants.{Accepted, Refused}

-- the file breaks no rule, and has this index, and so many features
pub record IsFileWith (image : List ℕ) (index : Option Shape) (features : ℕ) : Type 0 where
  pub pieces : List (List ℕ)
  pub file : IsFile image index pieces
  pub counted : features ≡ length pieces

-- the file breaks no rule, and has so many features, and so many nodes in its index, none where it has no index
pub record IsFileOf (image : List ℕ) (features nodes : ℕ) : Type 0 where
  pub index : Option Shape
  pub file : IsFileWith image index features
  pub nodes_counted : nodes ≡ nodes_of index

-- accepted: it breaks no rule, and has so many features and nodes; refused: it breaks this rule at this place, in the
-- first unit in which any is broken
abbrev pub IsVerdict : List ℕ → Verdict → Type 0
IsVerdict image (Accepted features nodes) = IsFileOf image features nodes
IsVerdict image (Refused broken) = BreaksFirst image broken

-- P, where the file was accepted
abbrev pub IfAccepted : {E : Type 0} → Result Verdict E → Type 0 → Type 0
IfAccepted (Ok (Accepted features nodes)) P = P
IfAccepted (Ok (Refused broken)) P = ⊤
IfAccepted (Err e) P = ⊤
