-- What the views of a header's groups show, and what they weigh.
use Rattle.std.specs.Prelude.{◌≡◌, ℕ, ◌+◌, ◌*◌, List, length, Option, Some, None}
use Rattle.std.specs.Option.{option_map}
use Rattle.flat_layout.specs.Layout.{number_in, text_in, place_in}
use Rattle.flat_views.specs.Vectors.{longs_shown}
use Rattle.fgb_schema.specs.Headers.{Crs, Header, crs_at, flag_in, header_at}
use Rattle.fgb_schema.specs.Weights.{text_weight}
use Rattle.fgb_header.specs.declared.columns.Columns.{Columns}
use Rattle.fgb_header.specs.declared.groups.Texts.{Texts}
use Rattle.fgb_header.specs.declared.groups.Flags.{Flags}
use Rattle.fgb_header.specs.declared.groups.Own.{Own}
use Rattle.fgb_header.specs.Parts.{crs_shown, crs_weight, columns_shown}
use Rattle.fgb_header.specs.Groups.{envelope_in}

pub record ShowsTexts (b : List ℕ) (t : ℕ) (texts : Texts) : Type 0 where
  pub name : option_map (λ s. s.now) texts.name ≡ text_in b t 0
  pub title : option_map (λ s. s.now) texts.title ≡ text_in b t 11
  pub description : option_map (λ s. s.now) texts.description ≡ text_in b t 12
  pub metadata : option_map (λ s. s.now) texts.metadata ≡ text_in b t 13

pub record ShowsFlags (b : List ℕ) (t : ℕ) (flags : Flags) : Type 0 where
  pub has_z : flags.z ≡ flag_in b t 3 0
  pub has_m : flags.m ≡ flag_in b t 4 0
  pub has_t : flags.t ≡ flag_in b t 5 0
  pub has_tm : flags.tm ≡ flag_in b t 6 0

-- all but the columns
pub record ShowsOwn (b : List ℕ) (t : ℕ) (own : Own) : Type 0 where
  pub texts : ShowsTexts b t own.texts
  pub envelope : longs_shown own.envelope ≡ envelope_in b t
  pub kind : own.geometry_type ≡ number_in 1 b t 2 0
  pub flags : ShowsFlags b t own.flags
  pub counted : own.features_count ≡ number_in 8 b t 8 0
  pub node_size : own.node_size ≡ number_in 2 b t 9 16
  pub crs : option_map crs_shown own.crs ≡ option_map (crs_at b) (place_in b t 10)

-- the bytes of the texts
abbrev pub texts_weight : Texts → ℕ
texts_weight texts =
    text_weight (option_map (λ s. s.now) texts.name) + text_weight (option_map (λ s. s.now) texts.title)
    + text_weight (option_map (λ s. s.now) texts.description) + text_weight (option_map (λ s. s.now) texts.metadata)

-- of a coordinate reference system, if there is one
abbrev pub crs_part_weight : Option Crs → ℕ
crs_part_weight None = 0
crs_part_weight (Some c) = crs_weight c

-- the table, and all below it but the columns
abbrev pub own_weight : Own → ℕ
own_weight own = 4 + texts_weight own.texts + 8 * length (longs_shown own.envelope) + crs_part_weight (option_map crs_shown own.crs)

-- the header of these fields
abbrev pub fields_shown : Own → Columns → Header
fields_shown own columns = record {
  name = option_map (λ s. s.now) own.texts.name;
  envelope = longs_shown own.envelope;
  geometry_type = own.geometry_type;
  has_z = own.flags.z;
  has_m = own.flags.m;
  has_t = own.flags.t;
  has_tm = own.flags.tm;
  columns = columns_shown columns;
  features_count = own.features_count;
  node_size = own.node_size;
  crs = option_map crs_shown own.crs;
  title = option_map (λ s. s.now) own.texts.title;
  description = option_map (λ s. s.now) own.texts.description;
  metadata = option_map (λ s. s.now) own.texts.metadata;
}

-- of the table at t
abbrev pub ShowsFields : List ℕ → ℕ → Own × Columns → Type 0
ShowsFields b t fields = fields_shown fields.0 fields.1 ≡ header_at b t
