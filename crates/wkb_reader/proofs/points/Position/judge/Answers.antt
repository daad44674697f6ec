use Rattle.std.proofs.Common.{refl, sym, ◌∙◌, ◌+◌}
use Rattle.flat_layout.specs.declared.Rule.TheVariants.{NotFinite}
use Rattle.wkb_reader.specs.Broken.{BreaksFinite, bad_x, bad_y}
use Rattle.wkb_reader.specs.Gathered.{position_of}
use Rattle.wkb_reader.proofs.Passing.{names_ahead, names_here}
use Rattle.wkb_reader.proofs.points.Position.judge.Goals as goal

pub returns-then-not-is_finite-clause-err : goal.returns-then-not-is_finite-clause-err
returns-then-not-is_finite-clause-err c =
    names_here c.refused.result c.args.at NotFinite (BreaksFinite (position_of c.args.self.now)) c.refused.ensures (bad_x (sym c.is_finite.ensures ∙ c.if-not-is_finite.true))

pub returns-then-not-is_finite-2-clause-err : goal.returns-then-not-is_finite-2-clause-err
returns-then-not-is_finite-2-clause-err c =
    names_ahead c.refused-then-not-is_finite-2.result c.args.at (c.args.at + 8) 8 NotFinite (BreaksFinite (position_of c.args.self.now)) c.refused-then-not-is_finite-2.ensures refl
    (bad_y (sym c.is_finite.ensures ∙ c.if-not-is_finite.false) (sym c.is_finite-2.ensures ∙ c.if-not-is_finite-2.true))
