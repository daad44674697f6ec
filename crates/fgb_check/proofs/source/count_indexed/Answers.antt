use Rattle.std.proofs.Common.{◌+◌, ◌-◌, ◌*◌, Err, Ok, ap, arith}
use Rattle.level_bounds.specs.Shapes.{shape_of}
use Rattle.fgb_header.specs.Views.{header_shown}
use Rattle.read_stop.proofs.Stopping.{refused_exit, stop_exit, refusal_map}
use Rattle.fgb_check.proofs.Indexed.{behind_index, index_refused, beside_none, beside_part, beside_fetched, beside_asked, beside_refused, beside_judged, beside_broken, beside_leaf, beside_next}
use Rattle.fgb_check.proofs.source.count_indexed.Goals as goal

pub returns-in_err-read_index-clause-refused : goal.returns-in_err-read_index-clause-refused
returns-in_err-read_index-clause-refused g c = let a = c.args in
    stop_exit c.from_residual.result c.in_err-read_index.field-0.0 _ c.from_residual.ensures.1
    (refusal_map c.in_err-read_index.field-0.0 _ _ (index_refused a.place a.end (shape_of a.levels.now) (header_shown a.header.now) (g.S.RangeSource.seen a.source.now) c.requires.opened c.requires.whole) c.in_err-read_index.ensures.refused)

pub returns-in_err-read_index-clause-asked : goal.returns-in_err-read_index-clause-asked
returns-in_err-read_index-clause-asked g c = behind_index c.args.place _ c.args.end c.in_err-read_index.ensures.asked

pub loop-pieces-init : goal.loop-pieces-init
loop-pieces-init g c = let a = c.args in let new = c.new-pieces.ensures in let now = g.S.RangeSource.seen c.read_index.new.source in let size = c.in_ok-read_index.ensures.asked.keeps.size in
    beside_none a.place a.end (shape_of a.levels.now) (header_shown a.header.now) (g.S.RangeSource.seen a.source.now) c.requires.opened c.requires.whole c.new-pieces.result c.new-leaves.result c.new-tally.result now
    (a.place + 40 * c.nodes.result) c.features_count.result c.in_ok-read_index.ensures.asked c.in_ok-read_index.ensures.clean (ap (λ n. a.place + 40 * n) c.nodes.ensures.nodes)
    new.first new.next new.end (new.shows now (omega (arith, size))) (c.new-leaves.ensures.shows now (omega (arith, size))) c.new-leaves.ensures.over c.new-leaves.ensures.none c.new-tally.ensures.none c.features_count.ensures c.new-tally.ensures.counts

pub returns-in_err-advance-clause-refused : goal.returns-in_err-advance-clause-refused
returns-in_err-advance-clause-refused g c = stop_exit c.from_residual-in_err-advance.result c.in_err-advance.field-0.0 _ c.from_residual-in_err-advance.ensures.1
    (refusal_map c.in_err-advance.field-0.0 _ _ (beside_refused _ _ _ (header_shown c.args.header.now) _ c.requires.opened c.requires.whole _ _ _ _ c.loop-pieces.invariant) c.in_err-advance.ensures.refused)

pub returns-in_err-advance-clause-asked : goal.returns-in_err-advance-clause-asked
returns-in_err-advance-clause-asked g c = beside_part _ _ _ (header_shown c.args.header.now) _ c.requires.opened c.requires.whole _ _ _ _ c.loop-pieces.invariant c.in_err-advance.ensures.part

pub returns-in_err-own-clause-refused : goal.returns-in_err-own-clause-refused
returns-in_err-own-clause-refused g c = refused_exit c.from_residual-in_err-own.result c.in_err-own.field-0.0 _ c.from_residual-in_err-own.ensures.1
    (beside_broken _ _ _ (header_shown c.args.header.now) _ c.requires.opened c.requires.whole _ _ _ _ c.loop-pieces.invariant c.advance.new.self (rw c.if-branch.true at c.in_ok-advance.ensures.goes) c.in_err-own.field-0.0 c.in_err-own.ensures)

pub returns-in_err-own-clause-asked : goal.returns-in_err-own-clause-asked
returns-in_err-own-clause-asked g c = beside_fetched _ _ _ (header_shown c.args.header.now) _ c.requires.opened c.requires.whole _ _ _ _ c.loop-pieces.invariant c.in_ok-advance.ensures.fetches

pub returns-in_err-judge_next-clause-refused : goal.returns-in_err-judge_next-clause-refused
returns-in_err-judge_next-clause-refused g c = let own = c.in_ok-own.ensures in
    stop_exit c.from_residual-in_err-judge_next.result c.in_err-judge_next.field-0.0 _ c.from_residual-in_err-judge_next.ensures.1
    (refusal_map c.in_err-judge_next.field-0.0 _ _ (beside_leaf _ _ _ (header_shown c.args.header.now) _ c.requires.opened c.requires.whole _ _ _ _ c.loop-pieces.invariant c.advance.new.self (rw c.if-branch.true at c.in_ok-advance.ensures.goes) own.1 c.in_ok-own.own own.0
    (g.S.RangeSource.seen c.advance.new.source) c.in_ok-advance.ensures.fetches (c.place.result - (c.args.place + 40 * c.nodes.result)) (c.args.place + 40 * c.nodes.result) (ap (λ n. n - (c.args.place + 40 * c.nodes.result)) c.place.ensures.place) (ap (λ n. c.args.place + 40 * n) c.nodes.ensures.nodes))
    (c.in_err-judge_next.ensures.refused _ _ c.loop-pieces.invariant.over))

pub returns-in_err-judge_next-clause-asked : goal.returns-in_err-judge_next-clause-asked
returns-in_err-judge_next-clause-asked g c = beside_asked _ _ _ (header_shown c.args.header.now) _ c.requires.opened c.requires.whole _ _ _ _ c.loop-pieces.invariant c.in_ok-advance.ensures.fetches (c.in_err-judge_next.ensures.asked _ _ c.loop-pieces.invariant.over)

pub loop-pieces-preserved : goal.loop-pieces-preserved
loop-pieces-preserved g c = let own = c.in_ok-own.ensures in let leaf = c.in_ok-judge_next.ensures in let over = c.loop-pieces.invariant.over in let counts = c.add.ensures.counts in
    beside_next _ _ _ (header_shown c.args.header.now) _ c.requires.opened c.requires.whole _ _ _ _ c.loop-pieces.invariant c.advance.new.self (rw c.if-branch.true at c.in_ok-advance.ensures.goes) own.1 c.in_ok-own.own own.0
    (g.S.RangeSource.seen c.advance.new.source) c.in_ok-advance.ensures.fetches (c.place.result - (c.args.place + 40 * c.nodes.result)) (c.args.place + 40 * c.nodes.result) (ap (λ n. n - (c.args.place + 40 * c.nodes.result)) c.place.ensures.place) (ap (λ n. c.args.place + 40 * n) c.nodes.ensures.nodes)
    c.judge_next.new.leaves c.add.new.self (g.S.RangeSource.seen c.judge_next.new.source) (leaf.agrees _ _ over) (leaf.given _ _ over) (leaf.over _ _ over) leaf.shows (leaf.asked _ _ over) c.add.ensures.more (rw c.place-in-loop-pieces.ensures.place at counts)

pub returns-in_err-features-clause-refused : goal.returns-in_err-features-clause-refused
returns-in_err-features-clause-refused g c = refused_exit c.from_residual-in_err-features.result c.in_err-features.field-0.0 _ c.from_residual-in_err-features.ensures.1
    (beside_judged _ _ _ (header_shown c.args.header.now) _ c.requires.opened c.requires.whole _ _ _ _ c.loop-pieces.invariant c.advance.new.self (Err c.in_err-features.field-0.0) (rw c.if-branch.false at c.in_ok-advance.ensures.goes) c.in_err-features.ensures)

pub returns-in_err-features-clause-asked : goal.returns-in_err-features-clause-asked
returns-in_err-features-clause-asked g c = beside_fetched _ _ _ (header_shown c.args.header.now) _ c.requires.opened c.requires.whole _ _ _ _ c.loop-pieces.invariant c.in_ok-advance.ensures.fetches

pub returns-clause-file : goal.returns-clause-file
returns-clause-file g c =
    beside_judged _ _ _ (header_shown c.args.header.now) _ c.requires.opened c.requires.whole _ _ _ _ c.loop-pieces.invariant c.advance.new.self (Ok c.in_ok-features.features) (rw c.if-branch.false at c.in_ok-advance.ensures.goes) c.in_ok-features.ensures

pub returns-clause-asked : goal.returns-clause-asked
returns-clause-asked g c = beside_fetched _ _ _ (header_shown c.args.header.now) _ c.requires.opened c.requires.whole _ _ _ _ c.loop-pieces.invariant c.in_ok-advance.ensures.fetches
