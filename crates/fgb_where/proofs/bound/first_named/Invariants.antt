use Rattle.std.proofs.Common.{ℕ}
use Rattle.fgb_header.specs.Views.{columns_shown}
use Rattle.fgb_where.specs.Columns.{is_named}
use Rattle.fgb_where.proofs.Firsts.{NoneBefore}
use Rattle.fgb_where.proofs.bound.first_named.Given as goal

-- no column so far has the name
abbrev pub invariant-loop-i : goal.invariant-loop-i
invariant-loop-i l = NoneBefore (is_named l.name) (columns_shown l.columns) l.i
