use Rattle.std.proofs.Common.{◌≡◌, take}
use Rattle.fgb_file.specs.File.{magic}
use Rattle.fgb_reader.proofs.start.wrong_magic.Given as goal

abbrev pub invariant-loop-i : goal.invariant-loop-i
invariant-loop-i l = take l.i l.start ≡ take l.i magic
