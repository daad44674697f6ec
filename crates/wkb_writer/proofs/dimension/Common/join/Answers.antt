use Rattle.std.proofs.Common.{subst}
use Rattle.wkb_writer.specs.Commons.{IsCommon}
use Rattle.wkb_writer.proofs.Joins.{join_apart, join_none, join_to_none, other_m, other_z, refused_left, refused_right}
use Rattle.wkb_writer.proofs.dimension.Common.join.Goals as goal

pub returns-in-Pointless-default : goal.returns-in-Pointless-default
returns-in-Pointless-default c xs ys these others = join_none xs ys (subst (IsCommon xs) c.in-Pointless-default.is-0 these) c.args.other others

pub returns-in-Pointless-default-3 : goal.returns-in-Pointless-default-3
returns-in-Pointless-default-3 c xs ys these others = join_to_none xs ys (subst (IsCommon ys) c.in-Pointless-default.is-1 others) c.args.self these

pub returns-in_default : goal.returns-in_default
returns-in_default c xs ys these others =
    let one = c.in-Of-Of.one in let two = c.in-Of-Of.two in
    join_apart one two xs ys (subst (IsCommon xs) c.in-Of-Of.is-0 these) (subst (IsCommon ys) c.in-Of-Of.is-1 others) (other_m one two c.if-one-two-2.false)

pub returns-in_default-2 : goal.returns-in_default-2
returns-in_default-2 c xs ys these others =
    let one = c.in-Of-Of.one in let two = c.in-Of-Of.two in
    join_apart one two xs ys (subst (IsCommon xs) c.in-Of-Of.is-0 these) (subst (IsCommon ys) c.in-Of-Of.is-1 others) (other_z one two c.if-one-two.false)

pub returns-in_default-3 : goal.returns-in_default-3
returns-in_default-3 c xs ys these others = refused_right xs ys (subst (IsCommon ys) c.in_default.is-1 others)

pub returns-in_default-4 : goal.returns-in_default-4
returns-in_default-4 c xs ys these others = refused_left xs ys (subst (IsCommon xs) c.in_default.is-0 these)
