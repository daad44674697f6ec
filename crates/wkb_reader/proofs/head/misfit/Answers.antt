use Rattle.std.proofs.Common.{ap, sym, ◌∙◌}
use Rattle.geometry_view.specs.Kinds.{number_of}
use Rattle.wkb_reader.specs.Broken.{other_dimension, other_kind}
use Rattle.wkb_reader.specs.Heads.{standing_of}
use Rattle.wkb_reader.proofs.Types.{differ}
use Rattle.wkb_reader.proofs.head.misfit.Goals as goal

pub returns-then-not-takes : goal.returns-then-not-takes
returns-then-not-takes c =
    other_kind (number_of c.in-MemberOf.outer) c.in-MemberOf.outer_dimension (ap standing_of c.in-MemberOf.is) (sym c.takes.ensures ∙ c.if-not-takes.true)

pub returns-then-ne : goal.returns-then-ne
returns-then-ne c =
    other_dimension (number_of c.in-MemberOf.outer) c.in-MemberOf.outer_dimension (ap standing_of c.in-MemberOf.is) (sym c.takes.ensures ∙ c.if-not-takes.false) (differ c.args.dimension c.in-MemberOf.outer_dimension (sym c.ne.ensures ∙ c.if-ne.true))
