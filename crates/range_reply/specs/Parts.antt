-- The parts of an image that answers speak of.
use Rattle.std.specs.Prelude.{◌≤◌, ◌<◌, ◌+◌, ◌-◌, ℕ}
use Rattle.range_text.specs.declared.answers.RangeAnswer.{RangeAnswer}
use Rattle.range_text.specs.declared.answers.RangeAnswer.TheVariants.{Whole, Part, Unsatisfied}
use Rattle.range_reply.specs.declared.rows.Answer.{Answer}
use Rattle.range_reply.specs.declared.rows.Answer.TheVariants.{BadRequest, NotFound, NotAllowed, Size, Image}

-- a part lies in an image of this size
abbrev pub IsPartWithin : ℕ → RangeAnswer → Type 0
IsPartWithin size Whole = Unit {0}
IsPartWithin size (Part first last) = (first ≤ last) × (last < size)
IsPartWithin size Unsatisfied = Unit {0}

abbrev pub IsWithin : ℕ → Answer → Type 0
IsWithin size BadRequest = Unit {0}
IsWithin size NotFound = Unit {0}
IsWithin size NotAllowed = Unit {0}
IsWithin size Size = Unit {0}
IsWithin size (Image range) = IsPartWithin size range

-- the first byte of the body of an answer, and its length
abbrev pub part_of : ℕ → Answer → ℕ × ℕ
part_of size BadRequest = (0, 0)
part_of size NotFound = (0, 0)
part_of size NotAllowed = (0, 0)
part_of size Size = (0, 0)
part_of size (Image Whole) = (0, size)
part_of size (Image (Part first last)) = (first, last - first + 1)
part_of size (Image Unsatisfied) = (0, 0)
