-- The feature that an owned one shows, and what holds of it.
use Rattle.fgb_schema.specs.Features.{Feature}
use Rattle.feature_tables.specs.Records.{IsRecord}
use Rattle.feature_info.specs.declared.feature.FeatureInfo.TheInside.{Inside}

abbrev pub owned_feature : Inside → Feature
owned_feature f = record { shape = f.geometry; properties = f.properties.items; columns = f.columns.items }

-- it can be written
abbrev pub IsWritable : Inside → Type 0
IsWritable f = IsRecord (owned_feature f)
