-- The query is of a visitor that feeds the caller's reporters.
use Rattle.std.proofs.Common.{◌≡◌, map, ap, sym, rules}
use Rattle.box_query.specs.declared.source.QueryDone.{QueryDone}
use Rattle.report_command.specs.Feeds.{Feeds}
use Rattle.report_command.specs.declared.feeder.Feeder.{Feeder}
use Rattle.report_command.proofs.Feeding.{AreScans, Visiting, Ending, feeds, feeds_at, visits_same}
use Rattle.report_command.proofs.feeder.feed_found.Given.{Over}
use Rattle.report_command.proofs.feeder.feed_found.Goals as goal

-- the feeder still holds the caller's reference
kept : (g : Over) (c : goal.After-ended g) → c.query-asked.new.visitor.reports.ghost_name ≡ c.new-feeder.result.reports.ghost_name
kept g c =
    let name = λ (x : Feeder _ _). x.reports.ghost_name in
    let states = λ (x : Feeder _ _). map (λ r. (goal.Reporter-dyn g (r.vtable, r.value)).shown r.value) x.reports.now.items in
    visits_same name states c.new-feeder.result c.query-asked.new.visitor c.query-asked.ensures.visits

promised : (g : Over) (c : goal.After-ended g) (items : _) → items ≡ c.query-asked.new.visitor.reports.now.items
    → Feeds c.args.boxes.now c.args.gap (g.S.RangeSource.seen c.args.file.now) (g.S.RangeSource.seen c.query-asked.new.source)
    (map (λ r. (goal.Reporter-dyn g (r.vtable, r.value)).shown r.value) c.args.reports.now.items)
    (map (λ r. (goal.Reporter-dyn g (r.vtable, r.value)).shown r.value) items) c.ended.result
promised g c items is =
    let asked = c.query-asked.ensures in let told = c.ended.ensures in let law = c.searches_are_scans.ensures in
    let v = c.new-feeder.result in let w = c.query-asked.new.visitor in
    let s = g.S.RangeSource.seen c.args.file.now in let s' = g.S.RangeSource.seen c.query-asked.new.source in
    let name = λ (x : Feeder _ _). x.reports.ghost_name in
    let states = λ (x : Feeder _ _). map (λ r. (goal.Reporter-dyn g (r.vtable, r.value)).shown r.value) x.reports.now.items in
    let count = λ (d : QueryDone). d.found in
    let scans : AreScans = record { whole = law.whole; part = law.part; never = law.never; first = law.first } in
    let visiting : Visiting name states count c.args.boxes.now c.args.gap v w s s' c.query-asked.result c.ended.result = record {
      done = asked.done;
      needed = asked.needed;
      all = asked.all;
      part = asked.part;
      needed_part = asked.needed_part;
      failed = asked.failed;
      declared = asked.declared;
      search = asked.search;
      front = asked.front;
      refused = asked.refused;
    } in
    let ending : Ending name states count c.args.boxes.now c.args.gap v w s s' c.query-asked.result c.ended.result = record {
      done = told.done;
      stopped = told.stopped;
      refused = told.refused;
      failed = told.failed;
      no_sink = told.no_sink;
      no_limit = told.no_limit;
    } in
    feeds_at c.args.boxes.now c.args.gap s s' (states v) (states w) _ _ c.ended.result (ap (λ x. map (λ r. (goal.Reporter-dyn g (r.vtable, r.value)).shown r.value) x.items) c.new-feeder.ensures.unfed) (ap (map (λ r. (goal.Reporter-dyn g (r.vtable, r.value)).shown r.value)) (sym is))
    (feeds name states count c.args.boxes.now c.args.gap v w s s' c.query-asked.result c.ended.result scans visiting ending)

pub returns : goal.returns
returns g c = promised g c _ (search (rules, kept g c))
