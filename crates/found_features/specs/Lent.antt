-- A feature that is lent, and one that is kept; and the header that is lent.
use Rattle.fgb_header.specs.Views.{base_shown, source_of}
use Rattle.fgb_header.specs.declared.header.HeaderView.{HeaderView}
use Rattle.found_features.specs.Entries.{Entry}
use Rattle.found_features.specs.Visits.{HeaderBytes}
use Rattle.found_features.specs.declared.visitor.Found.{Found}

abbrev pub entry_of : Found → Entry
entry_of f = record { number = f.number; offset = f.offset; buffer = f.bytes.now; own = f.bounds }

abbrev pub header_bytes : HeaderView → HeaderBytes
header_bytes h = record { place = base_shown h; bytes = source_of h }
