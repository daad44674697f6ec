use Rattle.std.proofs.Common.{ap, option_map, ◌∙◌}
use Rattle.flat_layout.proofs.Judging.{exit}
use Rattle.level_bounds.specs.Shapes.{shape_of}
use Rattle.fgb_check.proofs.Nodes.{nodes_inside, nodes_refused, nodes_clean, nodes_counted}
use Rattle.fgb_check.proofs.slice.judge_nodes.Goals as goal

pub judge_index-requires-clause-inside : goal.judge_index-requires-clause-inside
judge_index-requires-clause-inside c = nodes_inside c.args.bytes.now _ _ c.args.place (ap (option_map shape_of) c.in-Some.is) c.requires.place c.requires.opened

pub returns-in_err-judge_index-in-Some : goal.returns-in_err-judge_index-in-Some
returns-in_err-judge_index-in-Some c = exit _ _ c.from_residual.result c.in_err-judge_index-in-Some.field-0.0 c.from_residual.ensures.1
    (nodes_refused c.args.bytes.now _ _ c.args.place (ap (option_map shape_of) c.in-Some.is) c.requires.place c.requires.opened c.in_err-judge_index-in-Some.ensures)

pub returns-in_ok-judge_index-in-Some : goal.returns-in_ok-judge_index-in-Some
returns-in_ok-judge_index-in-Some c = let is = ap (option_map shape_of) c.in-Some.is in (
  nodes_clean c.args.bytes.now _ _ c.args.place is c.requires.place c.in_ok-judge_index-in-Some.ensures,
  c.nodes.ensures.nodes ∙ nodes_counted c.args.bytes.now _ _ c.args.place is c.requires.place,
)
