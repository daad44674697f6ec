-- The coordinate reference system that an owned one shows.
use Rattle.std.specs.Prelude.{option_map, string_bytes}
use Rattle.fgb_schema.specs.Headers.{Crs}
use Rattle.header_info.specs.declared.crs.CrsInfo.TheInside.{Inside}

abbrev pub owned_crs : Inside → Crs
owned_crs c = record {
  org = option_map string_bytes c.org;
  code = c.code;
  name = option_map string_bytes c.name;
  description = option_map string_bytes c.description;
  wkt = option_map string_bytes c.wkt;
  code_string = option_map string_bytes c.code_string;
}
