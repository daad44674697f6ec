use Rattle.std.proofs.Common.{◌≡◌, ◌+◌, ◌-◌, ◌*◌, ◌/◌, ◌<◌, true, false, Some, None, [], ◌++◌, length, ap, ◌∙◌, subst, arith}
use Rattle.fgb_outside.specs.Asked.{Ascends}
use Rattle.section_window.specs.Window.{ahead}
use Rattle.gap_window.specs.Bridging.{Bridging}
use Rattle.level_bounds.specs.Levels.{node_count}
use Rattle.level_bounds.specs.Shapes.{shape_of}
use Rattle.node_items.specs.Faults.{group_faults, root_faults}
use Rattle.node_items.specs.Groups.{Holds, bytes_in}
use Rattle.node_items.specs.Nodes.{node_place, stored}
use Rattle.node_items.proofs.Runs.{BeginsWith}
use Rattle.index_reader.proofs.Stored.{holds_children}
use Rattle.index_reader.proofs.Stops.{first_exit}
use Rattle.read_stop.proofs.Stopping.{on_err}
use Rattle.box_list.specs.Lists.{meets_any}
use Rattle.tree_search.specs.Descent.{group_hits, numbers}
use Rattle.tree_search.proofs.Groups.{group_count, group_held, hits_stored, hits_behind}
use Rattle.box_search.specs.Hits.{plains}
use Rattle.box_search.proofs.Behind.{peek_none, peek_stored, stored_next}
use Rattle.box_search.proofs.Windows.{front_part, front_reached, goes_on, over_passed, reads_to}
use Rattle.box_search.proofs.level.Descent.siblings.Goals as goal

pub returns-in_err-check_group-clause-group : goal.returns-in_err-check_group-clause-group
returns-in_err-check_group-clause-group g c = λ k i children image told parent. let t = shape_of c.args.self.now.levels.now in let f = c.in_ok-reach.ensures in let nodes = stored image c.args.self.now.place in
    let holds = group_held c.new-group.result c.reach.new.self.held c.bytes.result.now (40 * (c.args.nodes.end - c.args.nodes.first)) c.new-group.ensures.bytes c.bytes.ensures.value (omega (arith, f.reaches.enough, c.with_next-want.ensures.more)) (g.S.RangeSource.seen c.reach.new.source) image c.args.self.now.place c.args.nodes.first c.args.nodes.end c.new-group.ensures.first f.reaches.at (omega arith) (omega arith) f.shows (f.keeps.image ∙ told) in
    first_exit c.from_residual-in_err-check_group.result c.in_err-check_group.field-0.0 _ c.from_residual-in_err-check_group.ensures.1
    (subst (λ at. BeginsWith (group_faults t nodes at k i) c.in_err-check_group.field-0.0) c.new-group.ensures.place
    (c.in_err-check_group.ensures.group k i nodes children.parent (holds_children c.new-group.result nodes t k i c.args.nodes.first c.args.nodes.end children holds) parent))

pub returns-in_err-check_group-clause-root : goal.returns-in_err-check_group-clause-root
returns-in_err-check_group-clause-root g c = λ first end none image told. let t = shape_of c.args.self.now.levels.now in let f = c.in_ok-reach.ensures in let nodes = stored image c.args.self.now.place in
    let holds = group_held c.new-group.result c.reach.new.self.held c.bytes.result.now (40 * (c.args.nodes.end - c.args.nodes.first)) c.new-group.ensures.bytes c.bytes.ensures.value (omega (arith, f.reaches.enough, c.with_next-want.ensures.more)) (g.S.RangeSource.seen c.reach.new.source) image c.args.self.now.place c.args.nodes.first c.args.nodes.end c.new-group.ensures.first f.reaches.at (omega arith) (omega arith) f.shows (f.keeps.image ∙ told) in
    first_exit c.from_residual-in_err-check_group.result c.in_err-check_group.field-0.0 _ c.from_residual-in_err-check_group.ensures.1
    (subst (λ at. BeginsWith (root_faults t nodes at) c.in_err-check_group.field-0.0) c.new-group.ensures.place
    (c.in_err-check_group.ensures.root nodes (subst (λ n. Holds c.new-group.result nodes n 1) first (subst (λ n. Holds c.new-group.result nodes c.args.nodes.first n) end holds)) none))

pub returns-in_err-reach-clause-front : goal.returns-in_err-reach-clause-front
returns-in_err-reach-clause-front g c =
    on_err c.from_residual.result _
    (front_part c.args.window.now (g.S.RangeSource.seen c.args.source.now) _ (node_place c.args.self.now.place c.args.nodes.first) c.args.until c.args.self.now.place (c.args.self.now.place + 40 * node_count (shape_of c.args.self.now.levels.now)) c.in_err-reach.ensures.part c.requires.over.from (omega (arith, c.requires.inside, c.requires.over.end)))

pub returns-in_err-check_group-clause-front : goal.returns-in_err-check_group-clause-front
returns-in_err-check_group-clause-front g c = let f = c.in_ok-reach.ensures in
    on_err c.from_residual-in_err-check_group.result _
    (front_reached c.args.window.now c.reach.new.self (g.S.RangeSource.seen c.args.source.now) (g.S.RangeSource.seen c.reach.new.source) (node_place c.args.self.now.place c.args.nodes.first) c.with_next-want.result c.args.until c.args.self.now.place (c.args.self.now.place + 40 * node_count (shape_of c.args.self.now.levels.now)) f.reaches c.requires.ahead c.requires.over.from (omega (arith, c.requires.inside, c.requires.over.end)))

pub returns-in_err-add_hits-clause-front : goal.returns-in_err-add_hits-clause-front
returns-in_err-add_hits-clause-front g c = let f = c.in_ok-reach.ensures in
    on_err c.from_residual-in_err-add_hits.result _
    (front_reached c.args.window.now c.reach.new.self (g.S.RangeSource.seen c.args.source.now) (g.S.RangeSource.seen c.reach.new.source) (node_place c.args.self.now.place c.args.nodes.first) c.with_next-want.result c.args.until c.args.self.now.place (c.args.self.now.place + 40 * node_count (shape_of c.args.self.now.levels.now)) f.reaches c.requires.ahead c.requires.over.from (omega (arith, c.requires.inside, c.requires.over.end)))

pub returns-clause-found : goal.returns-clause-found
returns-clause-found g c = λ image told k level. let t = shape_of c.args.self.now.levels.now in let f = c.in_ok-reach.ensures in let nodes = stored image c.args.self.now.place in
    let holds = group_held c.new-group.result c.reach.new.self.held c.bytes.result.now (40 * (c.args.nodes.end - c.args.nodes.first)) c.new-group.ensures.bytes c.bytes.ensures.value (omega (arith, f.reaches.enough, c.with_next-want.ensures.more)) (g.S.RangeSource.seen c.reach.new.source) image c.args.self.now.place c.args.nodes.first c.args.nodes.end c.new-group.ensures.first f.reaches.at (omega arith) (omega arith) f.shows (f.keeps.image ∙ told) in
    c.in_ok-add_hits.ensures.found ∙ ap (λ l. plains c.args.found.now.items ++ l) (hits_stored c.new-group.result t nodes (meets_any c.args.self.now.boxes.now) k c.args.nodes.level c.args.nodes.first c.args.nodes.end holds level (omega arith) (omega arith))

pub returns-clause-rise : goal.returns-clause-rise
returns-clause-rise g c = λ low rise. let t = shape_of c.args.self.now.levels.now in let f = c.in_ok-reach.ensures in
    let count = group_count c.new-group.result c.reach.new.self.held c.bytes.result.now (40 * (c.args.nodes.end - c.args.nodes.first)) c.new-group.ensures.bytes c.bytes.ensures.value (omega (arith, f.reaches.enough, c.with_next-want.ensures.more)) in
    let many : (c.args.nodes.first - c.args.nodes.level) + length (bytes_in c.new-group.result) / 40 ≡ c.args.nodes.end - c.args.nodes.level = omega (arith, count) in
    rw c.in_ok-add_hits.ensures.found (subst (λ n. Ascends low n (numbers (plains c.args.found.now.items ++ group_hits c.new-group.result (c.args.nodes.first - c.args.nodes.level) (meets_any c.args.self.now.boxes.now) (length (bytes_in c.new-group.result) / 40)))) many
    (hits_behind c.new-group.result (meets_any c.args.self.now.boxes.now) (c.args.nodes.first - c.args.nodes.level) (length (bytes_in c.new-group.result) / 40) low (plains c.args.found.now.items) rise))

pub returns-clause-group : goal.returns-clause-group
returns-clause-group g c = λ k i children image told parent. let t = shape_of c.args.self.now.levels.now in let f = c.in_ok-reach.ensures in let nodes = stored image c.args.self.now.place in
    let holds = group_held c.new-group.result c.reach.new.self.held c.bytes.result.now (40 * (c.args.nodes.end - c.args.nodes.first)) c.new-group.ensures.bytes c.bytes.ensures.value (omega (arith, f.reaches.enough, c.with_next-want.ensures.more)) (g.S.RangeSource.seen c.reach.new.source) image c.args.self.now.place c.args.nodes.first c.args.nodes.end c.new-group.ensures.first f.reaches.at (omega arith) (omega arith) f.shows (f.keeps.image ∙ told) in
    subst (λ at. group_faults t nodes at k i ≡ []) c.new-group.ensures.place
    (c.in_ok-check_group.ensures.group k i nodes children.parent (holds_children c.new-group.result nodes t k i c.args.nodes.first c.args.nodes.end children holds) parent)

pub returns-clause-root : goal.returns-clause-root
returns-clause-root g c = λ first end none image told. let t = shape_of c.args.self.now.levels.now in let f = c.in_ok-reach.ensures in let nodes = stored image c.args.self.now.place in
    let holds = group_held c.new-group.result c.reach.new.self.held c.bytes.result.now (40 * (c.args.nodes.end - c.args.nodes.first)) c.new-group.ensures.bytes c.bytes.ensures.value (omega (arith, f.reaches.enough, c.with_next-want.ensures.more)) (g.S.RangeSource.seen c.reach.new.source) image c.args.self.now.place c.args.nodes.first c.args.nodes.end c.new-group.ensures.first f.reaches.at (omega arith) (omega arith) f.shows (f.keeps.image ∙ told) in
    subst (λ at. root_faults t nodes at ≡ []) c.new-group.ensures.place
    (c.in_ok-check_group.ensures.root nodes (subst (λ n. Holds c.new-group.result nodes n 1) first (subst (λ n. Holds c.new-group.result nodes c.args.nodes.first n) end holds)) none)

pub returns-clause-over : goal.returns-clause-over
returns-clause-over g c = let f = c.in_ok-reach.ensures in
    over_passed c.args.window.now c.reach.new.self c.pass.new.self (g.S.RangeSource.seen c.args.source.now) (g.S.RangeSource.seen c.reach.new.source) (node_place c.args.self.now.place c.args.nodes.first) c.with_next-want.result c.args.until (40 * (c.args.nodes.end - c.args.nodes.first)) f.reaches c.with_next-want.ensures.more c.pass.ensures (shape_of c.args.self.now.levels.now) c.args.self.now.place c.args.self.now.gap c.requires.over c.requires.onward f.shows

pub returns-clause-passes : goal.returns-clause-passes
returns-clause-passes g c = let f = c.in_ok-reach.ensures in
    goes_on c.args.window.now c.reach.new.self c.pass.new.self (g.S.RangeSource.seen c.args.source.now) (g.S.RangeSource.seen c.reach.new.source) (node_place c.args.self.now.place c.args.nodes.first) c.with_next-want.result c.args.until (40 * (c.args.nodes.end - c.args.nodes.first)) f.reaches c.with_next-want.ensures.more c.pass.ensures (node_place c.args.self.now.place c.args.nodes.end) (omega (arith, c.requires.order)) c.requires.ahead

pub returns-clause-reads : goal.returns-clause-reads
returns-clause-reads g c = let f = c.in_ok-reach.ensures in
    reads_to c.args.window.now c.reach.new.self c.pass.new.self (g.S.RangeSource.seen c.args.source.now) (g.S.RangeSource.seen c.reach.new.source) (node_place c.args.self.now.place c.args.nodes.first) c.with_next-want.result c.args.until (40 * (c.args.nodes.end - c.args.nodes.first)) f.reaches c.with_next-want.ensures.more c.pass.ensures c.args.self.now.place (c.args.self.now.place + 40 * node_count (shape_of c.args.self.now.levels.now)) c.requires.over.from (omega (arith, c.requires.inside, c.requires.over.end))

pub returns-clause-next : goal.returns-clause-next
returns-clause-next g c = λ image told k level next is. let t = shape_of c.args.self.now.levels.now in let f = c.in_ok-reach.ensures in let nodes = stored image c.args.self.now.place in
    let holds = group_held c.new-group.result c.reach.new.self.held c.bytes.result.now (40 * (c.args.nodes.end - c.args.nodes.first)) c.new-group.ensures.bytes c.bytes.ensures.value (omega (arith, f.reaches.enough, c.with_next-want.ensures.more)) (g.S.RangeSource.seen c.reach.new.source) image c.args.self.now.place c.args.nodes.first c.args.nodes.end c.new-group.ensures.first f.reaches.at (omega arith) (omega arith) f.shows (f.keeps.image ∙ told) in
    let followed = c.args.nodes.is_followed in
    let behind : (followed ≡ true → c.peek-behind.result ≡ Some (nodes c.args.nodes.end).offset) × (followed ≡ false → c.peek-behind.result ≡ None) = (
      λ yes. c.peek-behind.ensures
          ∙ peek_stored c.reach.new.self.held (g.S.RangeSource.seen c.reach.new.source) image c.args.self.now.place c.args.nodes.first c.args.nodes.end (40 * (c.args.nodes.end - c.args.nodes.first)) followed yes f.reaches.at (omega (arith, c.requires.order)) (omega arith) (omega (arith, f.reaches.enough, c.with_next-want.ensures.room)) f.shows (f.keeps.image ∙ told),
      λ no. c.peek-behind.ensures ∙ peek_none c.reach.new.self.held.bytes (40 * (c.args.nodes.end - c.args.nodes.first)) followed no,
    ) in
    c.in_ok-add_hits.ensures.next next (λ i under.
    let inside : i < c.args.nodes.end - c.args.nodes.first = omega (arith, under, holds.count) in
    is (c.args.nodes.first - c.args.nodes.level + i) (omega arith) (omega (arith, inside, c.requires.level))
    ∙ stored_next c.new-group.result t nodes k c.args.nodes.level c.args.nodes.first c.args.nodes.end followed c.peek-behind.result i holds level c.requires.level inside behind.0 behind.1)
