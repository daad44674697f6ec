use Rattle.std.proofs.Common.{◌≡◌, sym, ap, ◌∙◌}
use Rattle.range_client.specs.Demands.{is_size, is_status, range_wanted}
use Rattle.range_client.proofs.Judging.{one_range}
use Rattle.range_client.proofs.judge.judge_response.Goals as goal

pub returns-in_default-clause-lacks : goal.returns-in_default-clause-lacks
returns-in_default-clause-lacks c = (
  ap (is_status c.args.demand) (sym c.status-status.ensures) ∙ sym c.if-not-is_status.ensures,
  λ size has. c.in_default.not-Some (range_wanted c.args.demand c.args.response.now.status size) (c.range_told.ensures.only (range_wanted c.args.demand c.args.response.now.status size) has.0),
)

pub returns-in_default-size_told-clause-lacks : goal.returns-in_default-size_told-clause-lacks
returns-in_default-size_told-clause-lacks c = (
  ap (is_status c.args.demand) (sym c.status-status.ensures) ∙ sym c.if-not-is_status.ensures,
  λ size has.
      let same : c.in-Some.told ≡ range_wanted c.args.demand c.args.response.now.status size =
      one_range c.args.response.now c.in-Some.told (range_wanted c.args.demand c.args.response.now.status size) c.in-Some.ensures.some has.0 in
      c.in_default-size_told.ensures.none size (same ∙ ap (λ s. range_wanted c.args.demand s size) (sym c.status-status.ensures))
      (ap (λ s. is_size c.args.demand s size) c.status-status.ensures ∙ has.1),
)
