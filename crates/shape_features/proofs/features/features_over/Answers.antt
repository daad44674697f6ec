use Rattle.std.proofs.Common.{sym, subst, ◌∙◌}
use Rattle.std.specs.List.{AllByRecursion}
use Rattle.feature_tables.specs.Records.{Fits}
use Rattle.shape_features.specs.Features.{header_over}
use Rattle.shape_features.proofs.Lists.{all_fit}
use Rattle.shape_features.proofs.features.features_over.Goals as goal

pub returns-clause-fits : goal.returns-clause-fits
returns-clause-fits c = λ all. subst (AllByRecursion (Fits (header_over all))) (sym (c.reverse.ensures.items ∙ c.in_ok-features.ensures)) (all_fit all c.args.shapes.items)
