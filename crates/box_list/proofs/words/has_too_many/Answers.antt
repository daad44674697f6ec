use Rattle.std.proofs.Common.{rules, tests, eqb}
use Rattle.std.proofs.lemmas.Iterator.Adapters.{YieldsList-from_bytes}
use Rattle.std.proofs.lemmas.Iterator.Consumers.{YieldsList-at, YieldsList-from_filter, count_from_yields_List}
use Rattle.box_list.proofs.Parts.{many}
use Rattle.box_list.proofs.words.has_too_many.Goals as goal

pub returns : goal.returns
returns c =
    many c.args.text.now c.count.result (count_from_yields_List c.filter.result c.count.result c.count.ensures.ran (YieldsList-from_filter _ (λ x. eqb x 43) (YieldsList-at c.filter.ensures.source (YieldsList-from_bytes c.args.text.now c.bytes.ensures.rest)) c.filter.ensures.closure (λ x r q k. search (rules, tests))))
