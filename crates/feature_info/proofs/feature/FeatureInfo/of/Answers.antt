use Rattle.std.proofs.Common.{◌≤◌, length, sym, subst}
use Rattle.fgb_header.proofs.Known.{few_columns}
use Rattle.feature_info.proofs.feature.FeatureInfo.of.Goals as goal

pub invariant_of-result : goal.invariant_of-result
invariant_of-result c = record {
  shape = c.in_ok-geometry.ensures.sound;
  properties = c.in_ok-properties.ensures.sound;
  columns = c.in_ok-columns.ensures.sound;
  few = subst (λ columns. length columns ≤ 65536) (sym c.in_ok-columns.ensures.ok) (few_columns c.own_columns.result);
}
