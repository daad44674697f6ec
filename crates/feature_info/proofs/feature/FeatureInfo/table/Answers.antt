use Rattle.std.proofs.Common.{◌∙◌, ap}
use Rattle.header_info.specs.Puts.{put_some}
use Rattle.header_tables.specs.Laying.{columns_item}
use Rattle.shape_tables.specs.Laying.{numbers_item}
use Rattle.feature_tables.specs.Laying.{feature_table, properties_bytes}
use Rattle.feature_info.specs.OwnedFeature.{owned_feature}
use Rattle.feature_info.proofs.LaidFields.{feature_laid}
use Rattle.feature_info.proofs.feature.FeatureInfo.table.Goals as goal

pub returns-clause-ok : goal.returns-clause-ok
returns-clause-ok c =
    feature_laid (owned_feature c.self.inside) _ _ _ _ c.new-table.ensures c.in_ok-put_shape.ensures.ok
    (c.in_ok-put_bytes.ensures.ok ∙ ap (λ bytes. put_some c.put_shape.new.table 1 (numbers_item 1 bytes)) (c.in_ok-bytes_of.ensures ∙ ap properties_bytes c.deref.ensures.value))
    (c.in_ok-put_columns.ensures.ok ∙ ap (λ columns. put_some c.put_bytes.new.table 2 (columns_item columns)) c.deref-2.ensures.value)
    ∙ ap feature_table c.self.view_is
