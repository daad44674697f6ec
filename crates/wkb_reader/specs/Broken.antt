-- What is broken in bytes that are no value of WKB (OGC 06-103r4, section 8.2) or of EWKB (PostGIS, "Extended WKB"): the items
-- are taken from the front, and the first that breaks a rule is named. Places count from the first of the bytes.
use Rattle.std.specs.Prelude.{◌≡◌, ◌≢◌, ℕ, ◌+◌, ◌*◌, ◌^◌, ◌==◌, ◌&&◌, ◌||◌, ◌<◌, ◌≤◌, Bool, true, false, IsTrue, List, [], ◌∷◌, ◌++◌, take, length, if◌then◌else◌, nat_lt, ⊤}
use Rattle.std.specs.List.{All, flat_map}
use Rattle.flat_layout.specs.declared.Rule.{Rule}
use Rattle.flat_layout.specs.declared.Rule.TheVariants.{WkbSize, WkbEnd, WkbOrder, WkbType, WkbMember, WkbDimension, WkbDepth, WkbRest, NotFinite}
use Rattle.order_keys.specs.Keys.{is_finite}
use Rattle.fgb_schema.specs.Tables.{is_kind}
use Rattle.owned_shape.specs.Records.{depth}
use Rattle.wkb_writer.specs.declared.dialect.Dialect.{Dialect}
use Rattle.wkb_writer.specs.declared.dialect.Dialect.TheVariants.{Iso, Extended}
use Rattle.wkb_writer.specs.declared.dimension.Dimension.{Dimension}
use Rattle.wkb_grammar.specs.Grammar.{Order, Spelling, Position, Value, body_in, number_bytes, order_byte, has_srid, type_in, head_in, srid_in, IsHead, IsHeadIn, IsIn, position_bytes, line_bytes_in, bytes_of, beside_of, is_nowhere, IsSpelled, IsPosition, IsLine, IsValue, is_multi, is_member}
use Rattle.wkb_grammar.specs.ShapesShown.{shape_of}
use Rattle.wkb_grammar.specs.Wkb.{most_bytes}

-- the x of a point, or the y where the x is finite
pub data BreaksFinite (p : Position) : ℕ → Rule → Type 0 where
  bad_x : is_finite p.x ≡ false → BreaksFinite p 0 NotFinite
  bad_y : is_finite p.x ≡ true → is_finite p.y ≡ false → BreaksFinite p 8 NotFinite

-- the bytes end inside an ordinate, or a whole point stands in front, which is judged after all its ordinates were taken
pub data BreaksPosition (order : Order) (d : Dimension) (may_be_empty : Bool) (b : List ℕ) : ℕ → Rule → Type 0 where
  cut : (i : ℕ) → i < 2 + beside_of d → 8 * i ≤ length b → length b < 8 * i + 8 → BreaksPosition order d may_be_empty b (8 * i) WkbEnd
  not_finite : {q : ℕ} {r : Rule} (p : Position) (rest : List ℕ) → b ≡ position_bytes order p ++ rest → IsSpelled d p
      → (may_be_empty && is_nowhere p) ≡ false → BreaksFinite p q r → BreaksPosition order d may_be_empty b q r

-- a count, or one of so many things, which stands behind some that are whole
pub data BreaksCounted {A : Type 0} (order : Order) (Is : A → Type 0) (bytes : A → List ℕ) (BreaksThing : List ℕ → ℕ → Rule → Type 0) (b : List ℕ) : ℕ → Rule → Type 0 where
  no_count : length b < 4 → BreaksCounted order Is bytes BreaksThing b 0 WkbEnd
  in_thing : {q : ℕ} {r : Rule} (count : ℕ) (front : List A) (rest : List ℕ) → count < 2 ^ 32 → b ≡ number_bytes order 4 count ++ flat_map bytes front ++ rest
      → length front < count → All Is front → BreaksThing rest q r → BreaksCounted order Is bytes BreaksThing b (4 + length (flat_map bytes front) + q) r

-- points
abbrev pub BreaksLine : Order → Dimension → List ℕ → ℕ → Rule → Type 0
BreaksLine order d = BreaksCounted order (IsPosition d) (position_bytes order) (BreaksPosition order d false)

-- rings
abbrev pub BreaksPolygon : Order → Dimension → List ℕ → ℕ → Rule → Type 0
BreaksPolygon order d = BreaksCounted order (IsLine d) (line_bytes_in order) (BreaksLine order d)

-- a value stands alone, or is a member of a value of this kind and dimension
pub data Standing : Type 0 where
  alone : Standing
  member_of : ℕ → Dimension → Standing

-- whether a value of this kind can be such a member: a Point, a LineString, a Polygon, any
abbrev pub takes_kind : ℕ → ℕ → Bool
takes_kind outer kind = (outer == 7) || (kind + 3 == outer)

-- the kind and the dimension fit what it is a member of
abbrev pub Suits : Standing → ℕ → Dimension → Type 0
Suits alone kind d = ⊤
Suits (member_of outer e) kind d = IsTrue (takes_kind outer kind) × (d ≡ e)

-- the kind of a member does not fit, or its dimension where the kind does
pub data Misfits (standing : Standing) (kind : ℕ) (d : Dimension) : Rule → Type 0 where
  other_kind : (outer : ℕ) (e : Dimension) → standing ≡ member_of outer e → takes_kind outer kind ≡ false → Misfits standing kind d WkbMember
  other_dimension : (outer : ℕ) (e : Dimension) → standing ≡ member_of outer e → IsTrue (takes_kind outer kind) → d ≢ e → Misfits standing kind d WkbDimension

-- the deepest level of a geometry, where the outermost stands at 1
abbrev pub deepest_level : ℕ
deepest_level = 16

-- the level of the members of a value of this kind: those of a MultiPoint and of a MultiLineString are no parts
abbrev pub level_below : ℕ → ℕ → ℕ
level_below level kind = if nat_lt kind 6 then level else level + 1

-- a whole member at this level, with no level too deep
pub record IsMember (dialect : Dialect) (level kind : ℕ) (d : Dimension) (v : Value) : Type 0 where
  pub is : IsValue d v
  pub speaks : IsIn dialect v
  pub fits : IsTrue (is_member kind (body_in v))
  pub shallow : level + depth (shape_of v) ≤ deepest_level + 1

-- the head of a value of this kind and dimension in a dialect
pub record IsHeadOf (dialect : Dialect) (s : Spelling) (kind : ℕ) (d : Dimension) : Type 0 where
  pub known : IsTrue (is_kind kind)
  pub is : IsHead s d
  pub speaks : IsHeadIn dialect s

-- the number of no type of a dialect
abbrev pub IsNoType : Dialect → ℕ → Type 0
IsNoType dialect number = (s : Spelling) (kind : ℕ) → IsTrue (is_kind kind) → IsHeadIn dialect s → number ≢ type_in s kind

-- what stands in front of the body of a value at this level: its byte order; its depth; its type; its kind and dimension as a member;
-- the number of a reference system, where its type has the flag of one
pub data BreaksHead (dialect : Dialect) (level : ℕ) (standing : Standing) (b : List ℕ) : ℕ → Rule → Type 0 where
  no_order : b ≡ [] → BreaksHead dialect level standing b 0 WkbEnd
  other_order : (first : ℕ) (rest : List ℕ) → b ≡ first ∷ rest → 1 < first → BreaksHead dialect level standing b 0 WkbOrder
  too_deep : (order : Order) (rest : List ℕ) → b ≡ order_byte order ∷ rest → deepest_level < level → BreaksHead dialect level standing b 0 WkbDepth
  no_type : (order : Order) (rest : List ℕ) → b ≡ order_byte order ∷ rest → level ≤ deepest_level → length rest < 4 → BreaksHead dialect level standing b 1 WkbEnd
  other_type : (order : Order) (number : ℕ) (rest : List ℕ) → b ≡ order_byte order ∷ number_bytes order 4 number ++ rest → level ≤ deepest_level → number < 2 ^ 32
      → IsNoType dialect number → BreaksHead dialect level standing b 1 WkbType
  misfit : {r : Rule} (s : Spelling) (kind : ℕ) (d : Dimension) (rest : List ℕ) → b ≡ head_in s kind ++ rest → level ≤ deepest_level → IsHeadOf dialect s kind d
      → Misfits standing kind d r → BreaksHead dialect level standing b 0 r
  no_srid : (s : Spelling) (kind : ℕ) (d : Dimension) (rest : List ℕ) → b ≡ head_in s kind ++ rest → level ≤ deepest_level → IsHeadOf dialect s kind d
      → Suits standing kind d → has_srid s.srid ≡ true → length rest < 4 → BreaksHead dialect level standing b 5 WkbEnd

-- a value at this level: its head; an empty Point in a MultiPoint; its body
mutual
  pub data BreaksValue (dialect : Dialect) : ℕ → Standing → List ℕ → ℕ → Rule → Type 0 where
    in_head : {level : ℕ} {standing : Standing} {b : List ℕ} {q : ℕ} {r : Rule} → BreaksHead dialect level standing b q r → BreaksValue dialect level standing b q r
    empty_member : {level : ℕ} {b : List ℕ} (s : Spelling) (d : Dimension) (p : Position) (rest : List ℕ)
        → b ≡ head_in s 1 ++ (srid_in s ++ (position_bytes s.order p ++ rest)) → level ≤ deepest_level → IsHeadOf dialect s 1 d → IsSpelled d p → IsTrue (is_nowhere p)
        → BreaksValue dialect level (member_of 4 d) b 0 WkbMember
    in_body : {level : ℕ} {standing : Standing} {b : List ℕ} {q : ℕ} {r : Rule} (s : Spelling) (kind : ℕ) (d : Dimension) (rest : List ℕ)
        → b ≡ head_in s kind ++ (srid_in s ++ rest) → level ≤ deepest_level → IsHeadOf dialect s kind d → Suits standing kind d
        → BreaksBody dialect level s.order kind d rest q r → BreaksValue dialect level standing b (5 + length (srid_in s) + q) r

  pub data BreaksBody (dialect : Dialect) : ℕ → Order → ℕ → Dimension → List ℕ → ℕ → Rule → Type 0 where
    in_point : {level : ℕ} {order : Order} {d : Dimension} {b : List ℕ} {q : ℕ} {r : Rule} → BreaksPosition order d true b q r → BreaksBody dialect level order 1 d b q r
    in_line : {level : ℕ} {order : Order} {d : Dimension} {b : List ℕ} {q : ℕ} {r : Rule} → BreaksLine order d b q r → BreaksBody dialect level order 2 d b q r
    in_polygon : {level : ℕ} {order : Order} {d : Dimension} {b : List ℕ} {q : ℕ} {r : Rule} → BreaksPolygon order d b q r → BreaksBody dialect level order 3 d b q r
    no_members : {level : ℕ} {order : Order} {kind : ℕ} {d : Dimension} {b : List ℕ} → IsTrue (is_multi kind) → length b < 4 → BreaksBody dialect level order kind d b 0 WkbEnd
    in_member : {level : ℕ} {order : Order} {kind : ℕ} {d : Dimension} {b : List ℕ} {q : ℕ} {r : Rule} → IsTrue (is_multi kind)
        → (count : ℕ) (front : List Value) (rest : List ℕ) → count < 2 ^ 32 → b ≡ number_bytes order 4 count ++ flat_map bytes_of front ++ rest
        → length front < count → All (IsMember dialect (level_below level kind) kind d) front → BreaksValue dialect (level_below level kind) (member_of kind d) rest q r
        → BreaksBody dialect level order kind d b (4 + length (flat_map bytes_of front) + q) r

-- no front of the bytes is a value: in the most bytes that a value can have an item breaks a rule, or these end inside one and more follow
pub data BreaksFront (b : List ℕ) : ℕ → Rule → Type 0 where
  too_long : {q : ℕ} → most_bytes < length b → BreaksValue Iso 1 alone (take most_bytes b) q WkbEnd → BreaksFront b 0 WkbSize
  in_value : {q : ℕ} {r : Rule} → (r ≡ WkbEnd → length b ≤ most_bytes) → BreaksValue Iso 1 alone (take most_bytes b) q r → BreaksFront b q r

-- the bytes are not one value of a dialect: they are too many, one of the items breaks a rule, or more follows
pub data BreaksWhole (dialect : Dialect) (b : List ℕ) : ℕ → Rule → Type 0 where
  too_long : most_bytes < length b → BreaksWhole dialect b 0 WkbSize
  in_value : {q : ℕ} {r : Rule} → length b ≤ most_bytes → BreaksValue dialect 1 alone b q r → BreaksWhole dialect b q r
  goes_on : (v : Value) (d : Dimension) (rest : List ℕ) → length b ≤ most_bytes → b ≡ bytes_of v ++ rest → IsValue d v → IsIn dialect v → depth (shape_of v) ≤ deepest_level → rest ≢ []
      → BreaksWhole dialect b (length (bytes_of v)) WkbRest

-- the bytes are not one value of WKB, or of EWKB
abbrev pub BreaksWkb : List ℕ → ℕ → Rule → Type 0
BreaksWkb b = BreaksWhole Iso b

abbrev pub BreaksEwkb : List ℕ → ℕ → Rule → Type 0
BreaksEwkb b = BreaksWhole Extended b
