use Rattle.std.proofs.Common.{drop, refl, arith}
use Rattle.fgb_schema.specs.Headers.{types}
use Rattle.fgb_header.specs.Views.{columns_shown}
use Rattle.fgb_feature.proofs.Pairs.{size_least}
use Rattle.fgb_feature.proofs.KeyPlaces.{walked_none, walked_more, walked_all, broken_at}
use Rattle.fgb_feature.proofs.ReadPairs.{shown_at, broken_there}
use Rattle.fgb_feature.proofs.props.Props.read.Goals as goal

pub loop-at-init : goal.loop-at-init
loop-at-init c = walked_none (types (columns_shown c.args.columns)) c.args.bytes.now

pub loop-at-smaller : goal.loop-at-smaller
loop-at-smaller c =
    let kinds = types (columns_shown c.args.columns) in let b = c.args.bytes.now in
    let pair = shown_at kinds b c.loop-at.at _ c.in-Ok.ensures in
    omega (arith, pair.size, size_least kinds (drop c.loop-at.at b))

pub loop-at-preserved : goal.loop-at-preserved
loop-at-preserved c =
    let kinds = types (columns_shown c.args.columns) in let b = c.args.bytes.now in
    let pair = shown_at kinds b c.loop-at.at _ c.in-Ok.ensures in
    walked_more kinds b c.loop-at.at c.in-Ok.size c.loop-at.invariant pair.whole pair.size

pub returns-in-Err : goal.returns-in-Err
returns-in-Err c =
    let kinds = types (columns_shown c.args.columns) in let b = c.args.bytes.now in
    (c.loop-at.at, refl, broken_at kinds b c.loop-at.at c.in-Err.rule c.loop-at.invariant.keyed c.loop-at-test.true (broken_there kinds b c.loop-at.at c.in-Err.rule c.in-Err.ensures))

pub invariant_of-result : goal.invariant_of-result
invariant_of-result c = record { clean = walked_all (types (columns_shown c.args.columns)) c.args.bytes.now c.loop-at.at c.loop-at.invariant c.loop-at-test.false }
