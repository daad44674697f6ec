-- A feature that is new.
use Rattle.std.specs.Prelude.{[], Option}
use Rattle.fgb_schema.specs.Shapes.{Shape}
use Rattle.fgb_schema.specs.Features.{Feature}

-- one of this geometry, without properties and own columns
abbrev pub bare : Option Shape → Feature
bare geometry = record { shape = geometry; properties = []; columns = [] }
