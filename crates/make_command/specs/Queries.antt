-- What is made of a file, and found in it.
use Rattle.std.specs.Prelude.{◌≡◌, ℕ, List, length, Option}
use Rattle.order_keys.specs.declared.bounds.Bounds.{Bounds}
use Rattle.level_bounds.specs.Levels.{Shape}
use Rattle.fgb_file.specs.File.{IsFile, header_in}
use Rattle.box_query.specs.Needed.{asked as asked_positions}
use Rattle.text_query.specs.Texts.{answer}
use Rattle.text_query.specs.declared.output.Output.TheVariants.{Lines as AsLines}
use Rattle.make_command.specs.declared.making.Made.{Made}
use Rattle.make_command.specs.declared.querying.Lines.{Lines}
use Rattle.make_command.specs.Files.{IsPacked}

-- it is the file of so many features of the grid from this start on
pub record IsMade (count start : ℕ) (made : Made) : Type 0 where
  pub packed : IsPacked count start made.bytes.items made.nodes
  pub counted : made.features ≡ count

-- the lines are those of the features that meet one of the boxes, and just the needed positions were asked for
pub record AreLines (image : List ℕ) (boxes : List Bounds) (lines : Lines) : Type 0 where
  pub text : (index : Option Shape) (pieces : List (List ℕ)) → IsFile image index pieces → lines.text.items ≡ answer AsLines (header_in image) boxes pieces
  pub asked : (index : Option Shape) (pieces : List (List ℕ)) → IsFile image index pieces → lines.asked ≡ length (asked_positions image index boxes 0)
