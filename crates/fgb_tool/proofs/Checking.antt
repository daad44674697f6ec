-- The line of a check.
use Rattle.std.proofs.Common.{◌≡◌, ℕ, List, length, sym, ap, subst, ◌∙◌}
use Rattle.fgb_outside.specs.Sink.{Sink, AppendsPart}
use Rattle.fgb_file.specs.File.{IsValid, nodes_of}
use Rattle.fgb_file.proofs.Passing.{files_same, file_sound}
use Rattle.fgb_check.specs.Verdicts.{IsFileOf, IsVerdict}
use Rattle.fgb_check.specs.declared.verdict.Verdict.{Verdict}
use Rattle.fgb_check.specs.declared.verdict.Verdict.TheVariants.{Accepted}
use Rattle.fgb_tool.specs.Runs.{AcceptsPart, line_of}
use Rattle.fgb_tool.specs.Texts.{accepted_text}

module _ (image : List ℕ) {features nodes : ℕ} (file : IsFileOf image features nodes) where
  -- a file has one number of features, and one of nodes
  pub numbers_same : {f n : ℕ} → IsFileOf image f n → (features ≡ f) × (nodes ≡ n)
  numbers_same other =
      let same = files_same image file.file.file other.file.file in
      (file.file.counted ∙ ap length same.1 ∙ sym other.file.counted, file.nodes_counted ∙ ap nodes_of same.0 ∙ sym other.nodes_counted)

  pub numbered_valid : IsValid image
  numbered_valid = file_sound image file.file.file

module _ (image : List ℕ) (verdict : Verdict) (features nodes : ℕ) (is : verdict ≡ Accepted features nodes) (judged : IsVerdict image verdict) where
  accepted : IsFileOf image features nodes
  accepted = subst (IsVerdict image) is judged

  -- it is that of the numbers of the file
  pub line_of_file : (o o' : Sink) (f n : ℕ) → IsFileOf image f n → AppendsPart o o' (accepted_text features nodes) → AppendsPart o o' (accepted_text f n)
  line_of_file o o' f n file =
      let same = numbers_same image accepted file in
      subst (AppendsPart o o') (ap (λ m. accepted_text m nodes) same.0 ∙ ap (accepted_text f) same.1)

  pub line_written : (o o' : Sink) → AppendsPart o o' (accepted_text features nodes) → AcceptsPart image o o'
  line_written o o' part = line_of accepted part

  pub accepted_valid : (IsValid image → ⊥) → ⊥
  accepted_valid invalid = invalid (numbered_valid image accepted)
