use Rattle.std.proofs.Common.{◌≡◌, ◌+◌, ◌-◌, ◌*◌, ◌/◌, [], ◌++◌, length, ap, ◌∙◌, subst, arith}
use Rattle.fgb_outside.specs.Asked.{Ascends}
use Rattle.section_window.specs.Window.{Held, ahead}
use Rattle.section_window.proofs.Showing.{ahead_passed, grows_ahead, shows_passed}
use Rattle.level_bounds.specs.Levels.{node_count}
use Rattle.level_bounds.specs.Shapes.{shape_of}
use Rattle.node_items.specs.Faults.{group_faults, root_faults}
use Rattle.node_items.specs.Groups.{Holds, bytes_in}
use Rattle.node_items.specs.Nodes.{stored}
use Rattle.node_items.proofs.Runs.{BeginsWith}
use Rattle.index_reader.proofs.Stored.{holds_children}
use Rattle.index_reader.proofs.Stops.{first_exit}
use Rattle.read_stop.proofs.Stopping.{on_err}
use Rattle.tree_search.specs.Wanted.{meets_box}
use Rattle.tree_search.specs.Descent.{group_hits, numbers}
use Rattle.tree_search.proofs.Groups.{group_count, group_held, hits_stored, hits_behind}
use Rattle.tree_search.proofs.Requests.{asked_until, reads_wider, front_some}
use Rattle.tree_search.proofs.level.Descent.siblings.Goals as goal

pub returns-in_err-check_group-clause-group : goal.returns-in_err-check_group-clause-group
returns-in_err-check_group-clause-group g c = λ k i children image told parent. let t = shape_of c.args.self.now.levels.now in let f = c.in_ok-fill_until.ensures in let nodes = stored image c.args.self.now.place in
    let holds = group_held c.new-group.result c.fill_until.new.self c.bytes.result.now (40 * (c.args.nodes.end - c.args.nodes.first)) c.new-group.ensures.bytes c.bytes.ensures.value f.enough (g.S.RangeSource.seen c.fill_until.new.source) image c.args.self.now.place c.args.nodes.first c.args.nodes.end c.new-group.ensures.first (f.kept.0 ∙ c.requires.stands) (omega arith) (omega arith) f.shows (f.keeps.image ∙ told) in
    first_exit c.from_residual-in_err-check_group.result c.in_err-check_group.field-0.0 _ c.from_residual-in_err-check_group.ensures.1
    (subst (λ at. BeginsWith (group_faults t nodes at k i) c.in_err-check_group.field-0.0) c.new-group.ensures.place
    (c.in_err-check_group.ensures.group k i nodes children.parent (holds_children c.new-group.result nodes t k i c.args.nodes.first c.args.nodes.end children holds) parent))

pub returns-in_err-check_group-clause-root : goal.returns-in_err-check_group-clause-root
returns-in_err-check_group-clause-root g c = λ first end none image told. let t = shape_of c.args.self.now.levels.now in let f = c.in_ok-fill_until.ensures in let nodes = stored image c.args.self.now.place in
    let holds = group_held c.new-group.result c.fill_until.new.self c.bytes.result.now (40 * (c.args.nodes.end - c.args.nodes.first)) c.new-group.ensures.bytes c.bytes.ensures.value f.enough (g.S.RangeSource.seen c.fill_until.new.source) image c.args.self.now.place c.args.nodes.first c.args.nodes.end c.new-group.ensures.first (f.kept.0 ∙ c.requires.stands) (omega arith) (omega arith) f.shows (f.keeps.image ∙ told) in
    first_exit c.from_residual-in_err-check_group.result c.in_err-check_group.field-0.0 _ c.from_residual-in_err-check_group.ensures.1
    (subst (λ at. BeginsWith (root_faults t nodes at) c.in_err-check_group.field-0.0) c.new-group.ensures.place
    (c.in_err-check_group.ensures.root nodes (subst (λ n. Holds c.new-group.result nodes n 1) first (subst (λ n. Holds c.new-group.result nodes c.args.nodes.first n) end holds)) none))

pub returns-in_err-check_group-clause-front : goal.returns-in_err-check_group-clause-front
returns-in_err-check_group-clause-front g c = let f = c.in_ok-fill_until.ensures in
    on_err c.from_residual-in_err-check_group.result _
    (front_some (ahead c.args.window.now) (ahead c.fill_until.new.self) c.args.until (grows_ahead c.args.window.now c.fill_until.new.self f.kept.0 f.grows) (asked_until c.args.window.now c.fill_until.new.self (40 * (c.args.nodes.end - c.args.nodes.first)) c.args.until f.held f.not_past c.requires.ahead)
    (reads_wider c.args.window.now.at c.args.until c.args.self.now.place (c.args.self.now.place + 40 * node_count (shape_of c.args.self.now.levels.now)) (omega arith) (omega (arith, c.requires.over.end)) f.reads))

pub returns-in_err-add_hits-clause-front : goal.returns-in_err-add_hits-clause-front
returns-in_err-add_hits-clause-front g c = let f = c.in_ok-fill_until.ensures in
    on_err c.from_residual-in_err-add_hits.result _
    (front_some (ahead c.args.window.now) (ahead c.fill_until.new.self) c.args.until (grows_ahead c.args.window.now c.fill_until.new.self f.kept.0 f.grows) (asked_until c.args.window.now c.fill_until.new.self (40 * (c.args.nodes.end - c.args.nodes.first)) c.args.until f.held f.not_past c.requires.ahead)
    (reads_wider c.args.window.now.at c.args.until c.args.self.now.place (c.args.self.now.place + 40 * node_count (shape_of c.args.self.now.levels.now)) (omega arith) (omega (arith, c.requires.over.end)) f.reads))

pub returns-clause-found : goal.returns-clause-found
returns-clause-found g c = λ image told k level. let t = shape_of c.args.self.now.levels.now in let f = c.in_ok-fill_until.ensures in let nodes = stored image c.args.self.now.place in
    let holds = group_held c.new-group.result c.fill_until.new.self c.bytes.result.now (40 * (c.args.nodes.end - c.args.nodes.first)) c.new-group.ensures.bytes c.bytes.ensures.value f.enough (g.S.RangeSource.seen c.fill_until.new.source) image c.args.self.now.place c.args.nodes.first c.args.nodes.end c.new-group.ensures.first (f.kept.0 ∙ c.requires.stands) (omega arith) (omega arith) f.shows (f.keeps.image ∙ told) in
    c.in_ok-add_hits.ensures ∙ ap (λ l. c.args.found.now.items ++ l) (hits_stored c.new-group.result t nodes (meets_box c.args.self.now.bounds) k c.args.nodes.level c.args.nodes.first c.args.nodes.end holds level (omega arith) (omega arith))

pub returns-clause-rise : goal.returns-clause-rise
returns-clause-rise g c = λ low rise. let t = shape_of c.args.self.now.levels.now in let f = c.in_ok-fill_until.ensures in
    let count = group_count c.new-group.result c.fill_until.new.self c.bytes.result.now (40 * (c.args.nodes.end - c.args.nodes.first)) c.new-group.ensures.bytes c.bytes.ensures.value f.enough in
    let many : (c.args.nodes.first - c.args.nodes.level) + length (bytes_in c.new-group.result) / 40 ≡ c.args.nodes.end - c.args.nodes.level = omega (arith, count) in
    rw c.in_ok-add_hits.ensures (subst (λ n. Ascends low n (numbers (c.args.found.now.items ++ group_hits c.new-group.result (c.args.nodes.first - c.args.nodes.level) (meets_box c.args.self.now.bounds) (length (bytes_in c.new-group.result) / 40)))) many
    (hits_behind c.new-group.result (meets_box c.args.self.now.bounds) (c.args.nodes.first - c.args.nodes.level) (length (bytes_in c.new-group.result) / 40) low c.args.found.now.items rise))

pub returns-clause-group : goal.returns-clause-group
returns-clause-group g c = λ k i children image told parent. let t = shape_of c.args.self.now.levels.now in let f = c.in_ok-fill_until.ensures in let nodes = stored image c.args.self.now.place in
    let holds = group_held c.new-group.result c.fill_until.new.self c.bytes.result.now (40 * (c.args.nodes.end - c.args.nodes.first)) c.new-group.ensures.bytes c.bytes.ensures.value f.enough (g.S.RangeSource.seen c.fill_until.new.source) image c.args.self.now.place c.args.nodes.first c.args.nodes.end c.new-group.ensures.first (f.kept.0 ∙ c.requires.stands) (omega arith) (omega arith) f.shows (f.keeps.image ∙ told) in
    subst (λ at. group_faults t nodes at k i ≡ []) c.new-group.ensures.place
    (c.in_ok-check_group.ensures.group k i nodes children.parent (holds_children c.new-group.result nodes t k i c.args.nodes.first c.args.nodes.end children holds) parent)

pub returns-clause-root : goal.returns-clause-root
returns-clause-root g c = λ first end none image told. let t = shape_of c.args.self.now.levels.now in let f = c.in_ok-fill_until.ensures in let nodes = stored image c.args.self.now.place in
    let holds = group_held c.new-group.result c.fill_until.new.self c.bytes.result.now (40 * (c.args.nodes.end - c.args.nodes.first)) c.new-group.ensures.bytes c.bytes.ensures.value f.enough (g.S.RangeSource.seen c.fill_until.new.source) image c.args.self.now.place c.args.nodes.first c.args.nodes.end c.new-group.ensures.first (f.kept.0 ∙ c.requires.stands) (omega arith) (omega arith) f.shows (f.keeps.image ∙ told) in
    subst (λ at. root_faults t nodes at ≡ []) c.new-group.ensures.place
    (c.in_ok-check_group.ensures.root nodes (subst (λ n. Holds c.new-group.result nodes n 1) first (subst (λ n. Holds c.new-group.result nodes c.args.nodes.first n) end holds)) none)

pub returns-clause-over : goal.returns-clause-over
returns-clause-over g c = let f = c.in_ok-fill_until.ensures in record {
  end = ap (λ (w : Held). w.end) c.pass.ensures ∙ f.kept.1 ∙ c.requires.over.end;
  shows = rw c.pass.ensures (shows_passed c.fill_until.new.self (g.S.RangeSource.seen c.fill_until.new.source) (40 * (c.args.nodes.end - c.args.nodes.first)) f.enough f.shows);
}

pub returns-clause-reads : goal.returns-clause-reads
returns-clause-reads g c = let f = c.in_ok-fill_until.ensures in
    rw c.pass.ensures (rw (ahead_passed c.fill_until.new.self (40 * (c.args.nodes.end - c.args.nodes.first)) f.enough)
    (reads_wider c.args.window.now.at c.args.until c.args.self.now.place (c.args.self.now.place + 40 * node_count (shape_of c.args.self.now.levels.now)) (omega arith) (omega (arith, c.requires.over.end)) f.reads))
