-- The fields of a header in groups, as they are read: what each group breaks.
use Rattle.std.specs.Prelude.{◌==◌, ◌&&◌, not, ℕ, nat_le, List, [], if◌then◌else◌, Option, Some, None}
use Rattle.flat_layout.specs.declared.Rule.{Rule}
use Rattle.flat_layout.specs.declared.Rule.TheVariants.{Kind, NodeSize}
use Rattle.flat_layout.specs.Layout.{is_table, is_absent, led_to, number_in, longs}
use Rattle.flat_layout.specs.Promises.{BreaksField, BreaksText, BreaksTo, BreaksVector}
use Rattle.flat_views.specs.declared.vectors.VecView.{VecView}
use Rattle.flat_views.specs.Vectors.{vector_width}
use Rattle.fgb_schema.specs.Tables.{crs, table, link, is_readable}
use Rattle.fgb_schema.specs.Paths.{Part, field, Forbids, Breaks}

-- the texts: name, title, description, metadata
pub data BreaksTexts (b : List ℕ) (t q : ℕ) (r : Rule) : Type 0 where
  in_name : BreaksTo BreaksText b t 0 q r → BreaksTexts b t q r
  in_title : BreaksTo BreaksText b t 11 q r → BreaksTexts b t q r
  in_description : BreaksTo BreaksText b t 12 q r → BreaksTexts b t q r
  in_metadata : BreaksTo BreaksText b t 13 q r → BreaksTexts b t q r

-- the flags: has_z, has_m, has_t, has_tm
pub data BreaksFlags (b : List ℕ) (t q : ℕ) (r : Rule) : Type 0 where
  in_z : BreaksField 1 b t 3 q r → BreaksFlags b t q r
  in_m : BreaksField 1 b t 4 q r → BreaksFlags b t q r
  in_t : BreaksField 1 b t 5 q r → BreaksFlags b t q r
  in_tm : BreaksField 1 b t 6 q r → BreaksFlags b t q r

-- the geometry type: its field, or the type is above 7
pub data BreaksKind (b : List ℕ) (t q : ℕ) (r : Rule) : Type 0 where
  in_kind : BreaksField 1 b t 2 q r → BreaksKind b t q r
  other_kind : Forbids Kind (is_table b t && is_readable 1 b t 2) (nat_le (number_in 1 b t 2 0) 7) t q r → BreaksKind b t q r

-- the node size: its field, or the size is 1
pub data BreaksNodeSize (b : List ℕ) (t q : ℕ) (r : Rule) : Type 0 where
  in_node_size : BreaksField 2 b t 9 q r → BreaksNodeSize b t q r
  other_node_size : Forbids NodeSize (is_table b t && is_readable 2 b t 9) (not (number_in 2 b t 9 16 == 1)) t q r → BreaksNodeSize b t q r

-- the field of the coordinate reference system
abbrev pub crs_field : ℕ → Part
crs_field t = field (link (table crs)) t 10

-- all but the columns
pub data BreaksOwn (b : List ℕ) (t q : ℕ) (r : Rule) : Type 0 where
  by_texts : BreaksTexts b t q r → BreaksOwn b t q r
  by_envelope : BreaksTo (BreaksVector 8) b t 1 q r → BreaksOwn b t q r
  by_kind : BreaksKind b t q r → BreaksOwn b t q r
  by_flags : BreaksFlags b t q r → BreaksOwn b t q r
  by_count : BreaksField 8 b t 8 q r → BreaksOwn b t q r
  by_node_size : BreaksNodeSize b t q r → BreaksOwn b t q r
  by_crs : Breaks b (crs_field t) q r → BreaksOwn b t q r

-- the numbers of the envelope
abbrev pub envelope_in : List ℕ → ℕ → List ℕ
envelope_in b t = if is_absent b t 1 then [] else longs b (led_to b t 1)

-- the bytes of each number of an envelope, 8 where there is none
abbrev pub number_width : Option VecView → ℕ
number_width None = 8
number_width (Some vector) = vector_width vector
