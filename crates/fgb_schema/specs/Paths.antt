-- Paths through a buffer, from its root along the fields that are read, and what is broken along them (FlatBuffers
-- internals, "Format components"). A step through a broken offset, table, field or vector leads nowhere.
use Rattle.std.specs.Prelude.{◌≡◌, ◌⊎◌, ◌==◌, ◌&&◌, not, ◌≢◌, ◌||◌, ℕ, ◌+◌, ◌-◌, ◌*◌, ◌/◌, ◌%◌, ◌<◌, ◌≤◌, nat_le, length, List, [], ◌∷◌, map, slice_index, Bool, true, false, IsTrue, if◌then◌else◌}
use Rattle.std.specs.List.{range_with_len, list_all}
use Rattle.flat_layout.specs.Layout.{target, words, longs, is_offset, is_table, is_absent, is_field, field_place, is_vector, count, number_in, led_to, entry_place, elements}
use Rattle.flat_layout.specs.Promises.{BreaksOffset, BreaksTable, BreaksField, BreaksVector, BreaksText}
use Rattle.flat_layout.specs.declared.Rule.{Rule}
use Rattle.flat_layout.specs.declared.Rule.TheVariants.{Required, Kind, NodeSize, ColumnType, ColumnCount, Depth, PairCount, PointCount, Ends, Ordinates, NotFinite}
use Rattle.order_keys.specs.Keys.{is_finite}
use Rattle.fgb_schema.specs.Headers.{Header, types, holding, columns_in}
use Rattle.fgb_schema.specs.Properties.{BreaksProperties}
use Rattle.fgb_schema.specs.Tables.{Name, header, column, crs, feature, geometry, Thing, table, tables, string, numbers, pairs, Content, scalar, link, fields, is_readable, type_of, is_typed, kind_of, is_kind, has_points, has_rings}

-- a part of a buffer that can be broken: an offset at a place and what it is to lead to, a thing at a place, or a
-- field of the table at a place
pub data Part : Type 0 where
  offset : Thing → ℕ → Part
  thing : Thing → ℕ → Part
  field : Content → ℕ → ℕ → Part

-- one step: the parts right below a part
unfoldable pub below : List ℕ → Part → List Part
below b (offset x p) = if is_offset b p then thing x (target b p) ∷ [] else []
below b (thing (table name) t) = if is_table b t then map (λ f. field f.1 t f.0) (fields name b t) else []
below b (thing (tables name) v) = if is_vector 4 b v then map (λ i. offset (table name) (entry_place b v i)) (range_with_len 0 (count b v)) else []
below b (thing string p) = []
below b (thing (numbers width) v) = []
below b (thing (pairs kind) v) = []
below b (field (scalar width) t id) = []
below b (field (link x) t id) = if is_absent b t id then [] else if is_field 4 b t id then offset x (field_place b t id) ∷ [] else []

-- membership
abbrev pub IsAmong : {A : Type 0} → A → List A → Type 0
IsAmong x [] = ⊥
IsAmong x (y ∷ ys) = (x ≡ y) ⊎ IsAmong x ys

-- a path from a part to a part
pub data Leads (b : List ℕ) : Part → Part → Type 0 where
  here : {x : Part} → Leads b x x
  step : {x y z : Part} → IsAmong y (below b x) → Leads b y z → Leads b x z

-- a rule of the layout is broken at place q by a part itself
unfoldable pub BreaksLayout : List ℕ → Part → ℕ → Rule → Type 0
BreaksLayout b (offset x p) q r = BreaksOffset b p q r
BreaksLayout b (thing (table name) t) q r = BreaksTable b t q r
BreaksLayout b (thing (tables name) v) q r = BreaksVector 4 b v q r
BreaksLayout b (thing string p) q r = BreaksText b p q r
BreaksLayout b (thing (numbers width) v) q r = BreaksVector width b v q r
BreaksLayout b (thing (pairs kind) v) q r = BreaksVector 8 b v q r
BreaksLayout b (field (scalar width) t id) q r = BreaksField width b t id q r
BreaksLayout b (field (link x) t id) q r = BreaksField 4 b t id q r

-- the i-th number of the vector at v is not finite
pub record BreaksCoordinate (b : List ℕ) (v i q : ℕ) (r : Rule) : Type 0 where
  pub infinite : is_finite (slice_index (longs b v) i) ≡ false
  pub place : q ≡ v + 4 + 8 * i
  pub rule : r ≡ NotFinite

-- what is broken in a vector of x and y by turns at v of a geometry of this type, beyond the layout: an odd count, two
-- points or more in a Point, a pattern that is not finite
pub data BreaksPairs (kind : ℕ) (b : List ℕ) (v : ℕ) : ℕ → Rule → Type 0 where
  odd : count b v % 2 ≡ 1 → BreaksPairs kind b v v PairCount
  several : kind ≡ 1 → 1 < count b v / 2 → BreaksPairs kind b v v PointCount
  infinite : {q : ℕ} {r : Rule} (i : ℕ) → i < count b v → BreaksCoordinate b v i q r → BreaksPairs kind b v q r

-- the own type field of the geometry at g, where it decides
abbrev pub BreaksType : ℕ → List ℕ → ℕ → ℕ → Rule → Type 0
BreaksType outer b g q r = (outer ≡ 0) × BreaksField 1 b g 6 q r

-- what this rule speaks of at place p is known, and is not allowed
pub record Forbids (named : Rule) (is_known is_allowed : Bool) (p q : ℕ) (r : Rule) : Type 0 where
  pub known : is_known ≡ true
  pub other : is_allowed ≡ false
  pub place : q ≡ p
  pub rule : r ≡ named

-- the vector of field f, whose elements have so many bytes, is absent or sound
abbrev pub is_listed : ℕ → List ℕ → ℕ → ℕ → Bool
is_listed width b t f = is_absent b t f || (is_field 4 b t f && is_offset b (field_place b t f) && is_vector width b (led_to b t f))

-- how many numbers it has
abbrev pub count_in : List ℕ → ℕ → ℕ → ℕ
count_in b t f = if is_absent b t f then 0 else count b (led_to b t f)

-- how many points a geometry has of its own
abbrev pub point_count : List ℕ → ℕ → ℕ
point_count b t = count_in b t 1 / 2

-- a number of a list is below the one before
pub record Descends (numbers : List ℕ) : Type 0 where
  pub index : ℕ
  pub early : index + 1 < length numbers
  pub below : slice_index numbers (index + 1) < slice_index numbers index

-- the ends of the rings at t are sound and not empty, and descend or stop short of the points or behind them
pub data BreaksEnds (b : List ℕ) (t : ℕ) : ℕ → Rule → Type 0 where
  descending : is_listed 4 b t 0 ≡ true → Descends (words b (led_to b t 0)) → BreaksEnds b t (led_to b t 0) Ends
  wrong_end : is_listed 4 b t 0 ≡ true → is_listed 8 b t 1 ≡ true → 0 < count b (led_to b t 0)
      → slice_index (words b (led_to b t 0)) (count b (led_to b t 0) - 1) ≢ point_count b t → BreaksEnds b t (led_to b t 0) Ends

-- the ordinates in field f are sound and not empty, and not as many as the points
pub record BreaksOrdinates (b : List ℕ) (t f q : ℕ) (r : Rule) : Type 0 where
  pub listed : is_listed 8 b t f ≡ true
  pub beside : is_listed 8 b t 1 ≡ true
  pub some : 0 < count_in b t f
  pub other : count_in b t f ≢ point_count b t
  pub place : q ≡ led_to b t f
  pub rule : r ≡ Ordinates

-- what the geometry at t breaks by itself, beyond the layout: it stands too deep, its type is not 1 to 7, the ends of
-- its rings or its ordinates do not fit its points
pub data BreaksGeometry (outer depth : ℕ) (b : List ℕ) (t : ℕ) : ℕ → Rule → Type 0 where
  deep : is_table b t ≡ true → 16 < depth → BreaksGeometry outer depth b t t Depth
  unknown : is_table b t ≡ true → is_typed outer b t ≡ true → is_kind (type_of outer b t) ≡ false → BreaksGeometry outer depth b t t Kind
  ends : {q : ℕ} {r : Rule} → is_table b t ≡ true → has_rings (kind_of outer b t) ≡ true → is_absent b t 0 ≡ false → BreaksEnds b t q r → BreaksGeometry outer depth b t q r
  ordinates : {q : ℕ} {r : Rule} (f : ℕ) → is_table b t ≡ true → has_points (kind_of outer b t) ≡ true → 2 ≤ f → f ≤ 5 → BreaksOrdinates b t f q r → BreaksGeometry outer depth b t q r

-- the offset at p leads to a column whose type can be read, and is one
abbrev pub has_type : List ℕ → ℕ → Bool
has_type b p = is_offset b p && is_table b (target b p) && is_readable 1 b (target b p) 1 && nat_le (number_in 1 b (target b p) 1 0) 14

-- the types of the columns in field f are known: there is no list, or it is sound and each of its columns has a type
abbrev pub are_typed : List ℕ → ℕ → ℕ → Bool
are_typed b t f = is_absent b t f || (is_listed 4 b t f && list_all (λ i. has_type b (entry_place b (led_to b t f) i)) (range_with_len 0 (count b (led_to b t f))))

-- a rule is broken by the properties of the feature at t, under a header whose columns have these types, where it is
-- known which columns hold
pub record BreaksFeatureProperties (kinds : List ℕ) (b : List ℕ) (t q : ℕ) (r : Rule) : Type 0 where
  pub sound : is_table b t ≡ true
  pub present : is_absent b t 1 ≡ false
  pub listed : is_listed 1 b t 1 ≡ true
  pub typed : are_typed b t 2 ≡ true
  pub at : ℕ
  pub broken : BreaksProperties (holding (types (columns_in b t 2)) kinds) (elements 1 b (led_to b t 1)) at r
  pub place : q ≡ led_to b t 1 + 4 + at

-- a rule beyond the layout that a table at t breaks by itself: a header's type is above 7 or its node size is 1, a
-- column has no name or a type above 14, or what the properties of a feature or what a geometry breaks
unfoldable pub BreaksByTable : Name → List ℕ → ℕ → ℕ → Rule → Type 0
BreaksByTable header b t q r =
    Forbids Kind (is_table b t && is_readable 1 b t 2) (nat_le (number_in 1 b t 2 0) 7) t q r
    ⊎ Forbids NodeSize (is_table b t && is_readable 2 b t 9) (not (number_in 2 b t 9 16 == 1)) t q r
BreaksByTable column b t q r =
    Forbids Required (is_table b t) (not (is_absent b t 0)) t q r
    ⊎ Forbids ColumnType (is_table b t && is_readable 1 b t 1) (nat_le (number_in 1 b t 1 0) 14) t q r
BreaksByTable crs b t q r = ⊥
BreaksByTable (feature outer kinds) b t q r = BreaksFeatureProperties kinds b t q r
BreaksByTable (geometry outer depth) b t q r = BreaksGeometry outer depth b t q r

-- whether so many tables of one name may stand in a vector: there are at most 65,536 columns
abbrev pub are_few : Name → ℕ → Bool
are_few column n = nat_le n 65536
are_few name n = true

-- a rule beyond the layout is broken at place q by a part itself; besides those of the tables, there are too many
-- columns, or the points of a geometry are wrong
unfoldable pub BreaksMore : List ℕ → Part → ℕ → Rule → Type 0
BreaksMore b (offset x p) q r = ⊥
BreaksMore b (thing (table name) t) q r = BreaksByTable name b t q r
BreaksMore b (thing (tables name) v) q r = Forbids ColumnCount (is_vector 4 b v) (are_few name (count b v)) v q r
BreaksMore b (thing string p) q r = ⊥
BreaksMore b (thing (numbers width) v) q r = ⊥
BreaksMore b (thing (pairs kind) v) q r = IsTrue (is_vector 8 b v) × BreaksPairs kind b v q r
BreaksMore b (field x t id) q r = ⊥

-- rule r is broken at place q of the buffer, along some path from a part
pub record Breaks (b : List ℕ) (from : Part) (q : ℕ) (r : Rule) : Type 0 where
  pub part : Part
  pub path : Leads b from part
  pub broken : BreaksLayout b part q r ⊎ BreaksMore b part q r

-- the root of a header's buffer, and of a feature's under a header
abbrev pub header_root : Part
header_root = offset (table header) 0

abbrev pub feature_root : Header → Part
feature_root h = offset (table (feature h.geometry_type (types h.columns))) 0

-- the table at t by its name: a header, a column, a coordinate reference system
abbrev pub header_part : ℕ → Part
header_part t = thing (table header) t

abbrev pub column_part : ℕ → Part
column_part t = thing (table column) t

abbrev pub crs_part : ℕ → Part
crs_part t = thing (table crs) t

-- the list of columns at v
abbrev pub columns_part : ℕ → Part
columns_part v = thing (tables column) v

-- a feature's table under a header
abbrev pub feature_part : Header → ℕ → Part
feature_part h t = thing (table (feature h.geometry_type (types h.columns))) t

-- the table of a geometry to which this type is given from outside, at this depth
abbrev pub geometry_part : ℕ → ℕ → ℕ → Part
geometry_part outer depth g = thing (table (geometry outer depth)) g

-- the fields of a table at t that lead on: the geometry of a feature under a header of this geometry type, the
-- properties of a feature, and a field of columns
abbrev pub geometry_field : ℕ → ℕ → Part
geometry_field outer t = field (link (table (geometry outer 1))) t 0

abbrev pub properties_field : ℕ → Part
properties_field t = field (link (numbers 1)) t 1

abbrev pub columns_field : ℕ → ℕ → Part
columns_field t f = field (link (tables column)) t f
