-- The property that an owned one shows.
use Rattle.fgb_schema.specs.Properties.{Property}
use Rattle.feature_info.specs.declared.prop.PropInfo.TheInside.{Inside}
use Rattle.feature_info.specs.OwnedValue.{owned_content, owned_type}

abbrev pub owned_prop : Inside → Property
owned_prop p = record { column = p.column; kind = owned_type p.value; content = owned_content p.value }
