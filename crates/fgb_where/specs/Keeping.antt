-- What is kept is seen as.
use Rattle.fgb_schema.specs.Headers.{header_of}
use Rattle.fgb_where.specs.declared.kept.Kept.{Kept}
use Rattle.fgb_where.specs.Filtering.{Under}

abbrev pub under_in : Kept → Under
under_in kept = record { header = header_of kept.bytes.items; bounded = kept.bound }
