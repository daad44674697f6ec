use Rattle.std.proofs.Common.{◌+◌, ap, arith}
use Rattle.fgb_file.specs.File.{size_at}
use Rattle.read_stop.proofs.Stopping.{on_err}
use Rattle.hit_reader.proofs.Refusing.{refused_exit, refused_map, on_err_told}
use Rattle.hit_reader.proofs.Rising.{reaches, rises_none, covers_none, rises_filled, covers_filled, rises_part, covers_part}
use Rattle.hit_reader.proofs.Leaves.{breaks_past, breaks_order, breaks_prefix}
use Rattle.hit_reader.proofs.leaf.reach.Goals as goal

pub returns-in_err-target-clause-refused : goal.returns-in_err-target-clause-refused
returns-in_err-target-clause-refused g c = let past = c.in_err-target.ensures.past in
    refused_exit c.from_residual.result c.in_err-target.field-0.0 _ c.from_residual.ensures.1
    (λ image told t k within is behind. breaks_past image t c.args.section.now c.args.hit k within is c.in_err-target.field-0.0 past.0 past.1)

pub returns-in_err-target-clause-rises_part : goal.returns-in_err-target-clause-rises_part
returns-in_err-target-clause-rises_part g c = on_err _ _ (rises_none c.args.section.now c.args.window.now _ (omega (arith, c.requires.over.end, c.requires.over.shows.within)))

pub returns-in_err-target-clause-front : goal.returns-in_err-target-clause-front
returns-in_err-target-clause-front g c = on_err_told c.from_residual.result (g.S.RangeSource.seen c.args.source.now) _
    (λ image told whole keeps near till until le. covers_none c.args.section.now c.args.window.now _ _ till keeps (omega arith) (omega arith))

pub returns-then-target-at-clause-refused : goal.returns-then-target-at-clause-refused
returns-then-target-at-clause-refused g c = λ image told t k within is behind.
    breaks_order image t c.args.section.now c.args.hit k within is c.broken.result c.args.window.now.at behind (omega (arith, c.in_ok-target.ensures.there)) c.broken.ensures

pub returns-then-target-at-clause-rises_part : goal.returns-then-target-at-clause-rises_part
returns-then-target-at-clause-rises_part g c = rises_none c.args.section.now c.args.window.now _ (omega (arith, c.requires.over.end, c.requires.over.shows.within))

pub returns-then-target-at-clause-front : goal.returns-then-target-at-clause-front
returns-then-target-at-clause-front g c = λ image told whole keeps near till until le. covers_none c.args.section.now c.args.window.now _ _ till keeps (omega arith) (omega arith)

pub fill_feature-requires-clause-shows : goal.fill_feature-requires-clause-shows
fill_feature-requires-clause-shows g c =
    let reach = reaches c.args.window.now c.pass.new.self (g.S.RangeSource.seen c.args.source.now) (c.args.section.now.first + c.args.hit.item.offset) _ _ c.pass.ensures c.in_ok-target.ensures.there c.at-2.ensures.value
    (omega (arith, c.in_ok-target.ensures.there)) (omega (arith, c.in_ok-target.ensures.there, c.in_ok-target.ensures.fits, c.requires.over.end)) c.requires.over.shows in
    reach.shows

pub returns-in_err-len-clause-refused : goal.returns-in_err-len-clause-refused
returns-in_err-len-clause-refused g c =
    let reach = reaches c.args.window.now c.pass.new.self (g.S.RangeSource.seen c.args.source.now) (c.args.section.now.first + c.args.hit.item.offset) _ _ c.pass.ensures c.in_ok-target.ensures.there c.at-2.ensures.value
    (omega (arith, c.in_ok-target.ensures.there)) (omega (arith, c.in_ok-target.ensures.there, c.in_ok-target.ensures.fits, c.requires.over.end)) c.requires.over.shows in
    refused_map c.from_residual-in_err-len.result c.in_err-len.field-0.0 _ _ c.from_residual-in_err-len.ensures.1
    (λ broken breaks image told t k within is behind. breaks_prefix image t c.args.section.now c.args.hit k within is broken c.pass.new.self.at reach.at (breaks image told (omega (arith, within.end, reach.end, c.requires.over.end))))
    c.in_err-len.ensures.refused

pub returns-in_err-len-clause-rises_part : goal.returns-in_err-len-clause-rises_part
returns-in_err-len-clause-rises_part g c =
    let reach = reaches c.args.window.now c.pass.new.self (g.S.RangeSource.seen c.args.source.now) (c.args.section.now.first + c.args.hit.item.offset) _ _ c.pass.ensures c.in_ok-target.ensures.there c.at-2.ensures.value
    (omega (arith, c.in_ok-target.ensures.there)) (omega (arith, c.in_ok-target.ensures.there, c.in_ok-target.ensures.fits, c.requires.over.end)) c.requires.over.shows in
    on_err _ _ (rises_part c.args.section.now c.args.window.now _ c.pass.new.self _ reach c.requires.over (omega (arith, c.in_ok-target.ensures.there)) _ c.in_err-len.ensures.part)

pub returns-in_err-len-clause-front : goal.returns-in_err-len-clause-front
returns-in_err-len-clause-front g c =
    let reach = reaches c.args.window.now c.pass.new.self (g.S.RangeSource.seen c.args.source.now) (c.args.section.now.first + c.args.hit.item.offset) _ _ c.pass.ensures c.in_ok-target.ensures.there c.at-2.ensures.value
    (omega (arith, c.in_ok-target.ensures.there)) (omega (arith, c.in_ok-target.ensures.there, c.in_ok-target.ensures.fits, c.requires.over.end)) c.requires.over.shows in
    on_err_told c.from_residual-in_err-len.result (g.S.RangeSource.seen c.args.source.now) _
    (λ image told whole keeps near till until le. covers_part c.args.section.now c.args.window.now _ c.pass.new.self _ reach c.requires.over (omega (arith, c.in_ok-target.ensures.there)) _ _ till (omega (arith, until, le, ap (λ n. n + 4 + size_at image n) reach.at)) (omega arith) (omega arith) keeps
    (c.in_err-len.ensures.front image told (omega (arith, whole, reach.end, c.requires.over.end))))

pub returns-clause-rises : goal.returns-clause-rises
returns-clause-rises g c =
    let reach = reaches c.args.window.now c.pass.new.self (g.S.RangeSource.seen c.args.source.now) (c.args.section.now.first + c.args.hit.item.offset) _ _ c.pass.ensures c.in_ok-target.ensures.there c.at-2.ensures.value
    (omega (arith, c.in_ok-target.ensures.there)) (omega (arith, c.in_ok-target.ensures.there, c.in_ok-target.ensures.fits, c.requires.over.end)) c.requires.over.shows in
    rises_filled c.args.section.now c.args.window.now _ c.pass.new.self _ reach c.requires.over (omega (arith, c.in_ok-target.ensures.there)) _ c.fill_feature.new.window c.in_ok-len.ensures.fills

pub returns-clause-covers : goal.returns-clause-covers
returns-clause-covers g c =
    let reach = reaches c.args.window.now c.pass.new.self (g.S.RangeSource.seen c.args.source.now) (c.args.section.now.first + c.args.hit.item.offset) _ _ c.pass.ensures c.in_ok-target.ensures.there c.at-2.ensures.value
    (omega (arith, c.in_ok-target.ensures.there)) (omega (arith, c.in_ok-target.ensures.there, c.in_ok-target.ensures.fits, c.requires.over.end)) c.requires.over.shows in
    covers_filled c.args.section.now c.args.window.now _ c.pass.new.self _ reach c.requires.over (omega (arith, c.in_ok-target.ensures.there)) _ c.fill_feature.new.window c.in_ok-len.ensures.fills c.in_ok-len.ensures.kept.0
