use Rattle.range_client.proofs.Honest.{wanted_not_bad}
use Rattle.range_client.proofs.OneKind.{one_kind}
use Rattle.range_client.proofs.laws.replies_are_judged_in_one_way.Goals as goal

pub returns-clause-wanted : goal.returns-clause-wanted
returns-clause-wanted c = wanted_not_bad

pub returns-clause-one_kind : goal.returns-clause-one_kind
returns-clause-one_kind c = one_kind
