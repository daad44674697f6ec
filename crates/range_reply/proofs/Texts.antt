-- The texts of statuses and bodies.
use Rattle.std.proofs.Common.{◌≡◌, ◌≤◌, ◌+◌, ◌-◌, ◌∙◌, ℕ, refl, ap, arith, lit≤, List, [], ◌++◌, length, append_assoc, slice_range}
use Rattle.std.specs.Prelude.{unwrap_or}
use Rattle.std.proofs.lemmas.List.{take_all}
use Rattle.http.specs.StatusCode.{reason_phrase}
use Rattle.range_text.specs.declared.answers.RangeAnswer.TheVariants.{Whole, Part, Unsatisfied}
use Rattle.range_reply.specs.declared.rows.Answer.{Answer}
use Rattle.range_reply.specs.declared.rows.Answer.TheVariants.{BadRequest, NotFound, NotAllowed, Size, Image}
use Rattle.range_reply.specs.Replies.{body_text, status_of}
use Rattle.range_reply.specs.Parts.{IsWithin, part_of}

pub phrase_short : (answer : Answer) → length (unwrap_or (reason_phrase (status_of answer)) []) ≤ 21
phrase_short BadRequest = lit≤ tt
phrase_short NotFound = lit≤ tt
phrase_short NotAllowed = lit≤ tt
phrase_short Size = lit≤ tt
phrase_short (Image Whole) = lit≤ tt
phrase_short (Image (Part first last)) = lit≤ tt
phrase_short (Image Unsatisfied) = lit≤ tt

-- the body is the part
pub body_is : (image : List ℕ) (answer : Answer) → IsWithin (length image) answer
    → slice_range image (part_of (length image) answer).0 ((part_of (length image) answer).0 + (part_of (length image) answer).1) ≡ body_text image answer
body_is image BadRequest within = refl
body_is image NotFound within = refl
body_is image NotAllowed within = refl
body_is image Size within = refl
body_is image (Image Whole) within = take_all (0 + length image - 0) image (omega arith)
body_is image (Image (Part first last)) within =
    let same : first + (last - first + 1) ≡ last + 1 = omega arith in
    ap (slice_range image first) same
body_is image (Image Unsatisfied) within = refl

pub part_fits : (size : ℕ) (answer : Answer) → IsWithin size answer → (part_of size answer).0 + (part_of size answer).1 ≤ size
part_fits size BadRequest within = omega arith
part_fits size NotFound within = omega arith
part_fits size NotAllowed within = omega arith
part_fits size Size within = omega arith
part_fits size (Image Whole) within = omega arith
part_fits size (Image (Part first last)) within = omega arith
part_fits size (Image Unsatisfied) within = omega arith

-- five texts appended, one after another
pub appended : (start one two three four five a b c d e : List ℕ) → one ≡ start ++ a → two ≡ one ++ b → three ≡ two ++ c → four ≡ three ++ d
    → five ≡ four ++ e → five ≡ start ++ (a ++ b ++ c ++ d ++ e)
appended start one two three four five a b c d e first second third fourth fifth =
    fifth ∙ ap (λ t. t ++ e) (fourth ∙ ap (λ t. t ++ d) (third ∙ ap (λ t. t ++ c) (second ∙ ap (λ t. t ++ b) first)))
    ∙ regroup
  where
    regroup : start ++ a ++ b ++ c ++ d ++ e ≡ start ++ (a ++ b ++ c ++ d ++ e)
    regroup = simp append_assoc
