use Rattle.std.proofs.Common.{◌≡◌, ℕ, List, [], ◌∷◌, ◌++◌}
use Rattle.std.proofs.lemmas.List.{append_assoc}
use Rattle.text_query.specs.Lines.{line}
use Rattle.text_query.proofs.lines.lay_line.Goals as goal

laid : (a b c d e f n o s box : List ℕ) → a ≡ [] → b ≡ a ++ n ++ 32 ∷ [] → c ≡ b ++ o ++ 32 ∷ [] → d ≡ c ++ s ++ 32 ∷ [] → e ≡ d ++ box → f ≡ e ++ 10 ∷ []
    → f ≡ n ++ 32 ∷ o ++ 32 ∷ s ++ 32 ∷ box ++ 10 ∷ []
laid a b c d e f n o s box ea eb ec ed ee ef = rw (ef, ee, ed, ec, eb, ea) (simp append_assoc)

pub returns : goal.returns
unfolding line
returns c = laid _ _ _ _ _ _ _ _ _ _ c.clear.ensures.items c.in_ok-push_number.ensures c.in_ok-push_number-2.ensures c.in_ok-push_number-3.ensures c.in_ok-push_box.ensures c.in_ok-push.ensures.items
