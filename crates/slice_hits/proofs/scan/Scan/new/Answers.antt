use Rattle.std.proofs.Common.{refl, ◌∙◌}
use Rattle.slice_hits.proofs.AtFeatures.{stands_none}
use Rattle.slice_hits.proofs.scan.Scan.new.Goals as goal

pub returns : goal.returns
returns c = λ image over. stands_none image _ over refl (λ begun told. c.new.ensures.counts image begun (c.features_count.ensures ∙ told))
