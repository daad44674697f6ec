use Rattle.std.proofs.Common.{◌≡◌, ◌+◌, ◌*◌, ◌∙◌, refl, ap, subst, arith}
use Rattle.section_window.specs.Window.{Held}
use Rattle.section_window.proofs.Showing.{shows_nothing, shows_later}
use Rattle.level_bounds.specs.Levels.{place, node_count}
use Rattle.level_bounds.specs.Shapes.{shape_of}
use Rattle.node_items.specs.Faults.{BreaksTree}
use Rattle.node_items.specs.Nodes.{stored}
use Rattle.read_stop.proofs.Asking.{asks_then}
use Rattle.read_stop.proofs.Stopping.{stop_exit, refusal_map}
use Rattle.index_reader.specs.Parts.{IsSound}
use Rattle.index_reader.proofs.Order.{inner_there}
use Rattle.index_reader.proofs.Sound.{sound_root, sound_next, sound_tree, breaks_root, breaks_group}
use Rattle.index_reader.proofs.Standing.{stand_first, asks_wider}
use Rattle.index_reader.proofs.Stops.{refusal_told}
use Rattle.index_reader.proofs.nodes.read_index.Goals as goal

pub returns-in_err-read_group-clause-refused : goal.returns-in_err-read_group-clause-refused
returns-in_err-read_group-clause-refused g c = let t = shape_of c.args.levels.now in let stop = c.in_err-read_group.field-0.0 in
    stop_exit c.from_residual.result stop _ c.from_residual.ensures.1
    (refusal_told stop (g.S.RangeSource.seen c.args.source.now) (λ image e. BreaksTree t (stored image c.args.place) c.args.place e.place e.rule) (λ image told.
    refusal_map stop _ _ (breaks_root t (stored image c.args.place) c.args.place c.args.levels.now.shaped.shaped) (c.in_err-read_group.ensures.root refl refl refl image told)))

pub loop-number-init : goal.loop-number-init
loop-number-init g c = let t = shape_of c.args.levels.now in let s = g.S.RangeSource.seen c.args.source.now in
    let read = c.in_ok-read_group.ensures in
    let parents = c.new-parents.ensures in
    let nodes = c.new-nodes.ensures in
    let nodes_at : c.new-nodes.result.at ≡ c.args.place = ap (λ (w : Held). w.at) nodes in
    let nodes_end : c.new-nodes.result.end ≡ c.args.place + 40 * node_count t = ap (λ (w : Held). w.end) nodes ∙ ap (λ n. c.args.place + 40 * n) c.nodes.ensures.nodes in
    let parents_end : c.new-parents.result.end ≡ c.args.place + 40 * place t 0 0 = ap (λ (w : Held). w.end) parents ∙ ap (λ n. c.args.place + 40 * n) c.level-inner.ensures.first in
    record {
      shows = (
        shows_later c.new-parents.result s (g.S.RangeSource.seen c.read_group.new.source) read.asked.keeps
            (rw parents (shows_nothing s c.args.place (c.args.place + 40 * c.level-inner.result.0) (omega arith) (omega (arith, c.level-inner.ensures, c.requires.inside)))),
        read.shows,
      );
      stand = stand_first t c.args.levels.now.shaped.shaped c.args.place c.new-parents.result c.read_group.new.window (ap (λ (w : Held). w.at) parents) parents_end read.passes (read.end ∙ nodes_end);
      sound = λ image told. sound_root t (stored image c.args.place) c.args.place c.args.levels.now.shaped.shaped (read.root refl refl refl image told);
      asked = asks_wider c.new-nodes.result.at c.new-nodes.result.end c.args.place (c.args.place + 40 * node_count t) (omega (arith, nodes_at)) (omega (arith, nodes_end)) read.asked;
    }

pub returns-in_err-read_children-clause-refused : goal.returns-in_err-read_children-clause-refused
returns-in_err-read_children-clause-refused g c = let t = shape_of c.args.levels.now in let stop = c.in_err-read_children.field-0.0 in
    stop_exit c.from_residual-in_err-read_children.result stop _ c.from_residual-in_err-read_children.ensures.1
    (refusal_told stop (g.S.RangeSource.seen c.args.source.now) (λ image e. BreaksTree t (stored image c.args.place) c.args.place e.place e.rule) (λ image told.
    let inner = inner_there t c.args.levels.now.shaped.shaped c.loop-number.number (omega (arith, c.loop-number-test.true, c.level-inner.ensures.first)) in
    refusal_map stop _ _ (breaks_group t (stored image c.args.place) c.args.place c.args.levels.now.shaped.shaped c.loop-number.number inner)
    (c.in_err-read_children.ensures.judged inner.k inner.i inner.is inner.stands image (c.loop-number.invariant.asked.keeps.image ∙ told))))

pub returns-in_err-read_children-clause-asked : goal.returns-in_err-read_children-clause-asked
returns-in_err-read_children-clause-asked g c = asks_then c.loop-number.invariant.asked c.in_err-read_children.ensures.asked

pub loop-number-preserved : goal.loop-number-preserved
loop-number-preserved g c = let t = shape_of c.args.levels.now in let inv = c.loop-number.invariant in let read = c.in_ok-read_children.ensures in
    record {
      shows = read.shows;
      stand = read.stand;
      sound = λ image told. sound_next t (stored image c.args.place) c.args.place c.args.levels.now.shaped.shaped c.loop-number.number (inv.sound image told)
          (λ k i is number. read.judged k i is number image (inv.asked.keeps.image ∙ told));
      asked = asks_then inv.asked read.asked;
    }

pub returns-clause-clean : goal.returns-clause-clean
returns-clause-clean g c = λ image told. let t = shape_of c.args.levels.now in
    let ends : c.loop-number.number ≡ place t 0 0 = omega (arith, c.loop-number-test.false, c.level-inner.ensures.first) in
    sound_tree t (stored image c.args.place) c.args.place c.args.levels.now.shaped.shaped (subst (λ n. IsSound t (stored image c.args.place) c.args.place n) ends (c.loop-number.invariant.sound image told))
