use Rattle.std.proofs.Common.{◌≡◌, ℕ, List, [], ◌∷◌, ◌++◌}
use Rattle.std.proofs.lemmas.List.{append_assoc}
use Rattle.make_command.specs.Made.{summary_line}
use Rattle.make_command.proofs.summary.push_summary.Goals as goal

told : (old a b c d e f v m w n x o y p z q : List ℕ) → a ≡ old ++ v ++ m → b ≡ a ++ w ++ n → c ≡ b ++ x ++ o → d ≡ c ++ y ++ p → e ≡ d ++ z ++ q → f ≡ e ++ 10 ∷ []
    → f ≡ old ++ (v ++ m ++ w ++ n ++ x ++ o ++ y ++ p ++ z ++ q ++ 10 ∷ [])
told old a b c d e f v m w n x o y p z q ea eb ec ed ee ef = rw (ef, ee, ed, ec, eb, ea) (simp append_assoc)

pub returns : goal.returns
unfolding summary_line
returns c = told _ _ _ _ _ _ _ _ _ _ _ _ _ _ _ _ _ c.in_ok-push_number.ensures c.in_ok-push_number-2.ensures c.in_ok-push_number-3.ensures c.in_ok-push_number-4.ensures c.in_ok-push_number-5.ensures c.in_ok-push.ensures.items
