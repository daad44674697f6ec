use Rattle.std.proofs.Common.{sym, ◌∙◌, arith}
use Rattle.fgb_header.specs.Views.{header_shown}
use Rattle.fgb_reader.proofs.Starting.{open_without, open_levels, refuse_lacking, refuse_past}
use Rattle.fgb_reader.proofs.start.judge_levels.Goals as goal

pub returns-then-not-has_index-clause-judged : goal.returns-then-not-has_index-clause-judged
returns-then-not-has_index-clause-judged c = λ image header same behind whole.
    open_without image (header_shown c.args.header.now) c.args.place c.args.size header same behind whole (sym c.has_index.ensures ∙ c.if-not-has_index.true)

pub returns-in_default-clause-judged : goal.returns-in_default-clause-judged
returns-in_default-clause-judged c = λ image header same behind whole.
    refuse_lacking image (header_shown c.args.header.now) c.args.place c.args.size header same behind whole
    c.features_count.result c.index_node_size.result c.features_count.ensures c.index_node_size.ensures (sym c.has_index.ensures ∙ c.if-not-has_index.false) c.in_default.ensures

pub returns-then-nodes-size-clause-judged : goal.returns-then-nodes-size-clause-judged
returns-then-nodes-size-clause-judged c = λ image header same behind whole.
    refuse_past image (header_shown c.args.header.now) c.args.place c.args.size header same behind whole
    c.features_count.result c.index_node_size.result c.features_count.ensures c.index_node_size.ensures (sym c.has_index.ensures ∙ c.if-not-has_index.false)
    c.in-Some.ensures (omega (arith, c.if-nodes-size.true, c.nodes.ensures.nodes))

pub returns-clause-judged : goal.returns-clause-judged
returns-clause-judged c = λ image header same behind whole.
    open_levels image (header_shown c.args.header.now) c.args.place c.args.size header same behind whole
    c.features_count.result c.index_node_size.result c.features_count.ensures c.index_node_size.ensures (sym c.has_index.ensures ∙ c.if-not-has_index.false)
    c.in-Some.ensures c.requires.order (omega (arith, c.if-nodes-size.false, c.nodes.ensures.nodes))
