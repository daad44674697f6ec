-- The header that an owned one shows, and what holds of it.
use Rattle.std.specs.Prelude.{option_map, string_bytes}
use Rattle.fgb_schema.specs.Headers.{Header}
use Rattle.header_tables.specs.Records.{IsRecord}
use Rattle.header_info.specs.declared.info.HeaderInfo.TheInside.{Inside}

abbrev pub owned_header : Inside → Header
owned_header h = record {
  name = option_map string_bytes h.name;
  envelope = h.envelope.items;
  geometry_type = h.geometry_type;
  has_z = h.dimensions.z;
  has_m = h.dimensions.m;
  has_t = h.dimensions.t;
  has_tm = h.dimensions.tm;
  columns = h.columns.items;
  features_count = h.features_count;
  node_size = h.node_size;
  crs = h.crs;
  title = option_map string_bytes h.title;
  description = option_map string_bytes h.description;
  metadata = option_map string_bytes h.metadata;
}

-- it can be written
abbrev pub IsWritable : Inside → Type 0
IsWritable h = IsRecord (owned_header h)
