-- The byte order and the standing of a value, as the definitions have them, and what is taken of a value.
use Rattle.std.specs.Prelude.{◌≡◌, ℕ, ◌+◌, ◌≤◌, ◌<◌, ◌++◌, Bool, false, Option, if◌then◌else◌}
use Rattle.geometry_view.specs.Kinds.{number_of}
use Rattle.fgb_schema.specs.Shapes.{Shape}
use Rattle.owned_shape.specs.Records.{depth}
use Rattle.wkb_writer.specs.declared.dialect.Dialect.{Dialect}
use Rattle.wkb_writer.specs.declared.dialect.Dialect.TheVariants.{Iso, Extended}
use Rattle.wkb_writer.specs.declared.dimension.Dimension.{Dimension}
use Rattle.wkb_writer.specs.Wkb.{z_flag, m_flag, srid_flag}
use Rattle.wkb_grammar.specs.Grammar.{Order, big, little, Spelling, Value, Body, body_in, body_bytes, has_srid, head_in, srid_bytes, srid_in, type_in, kind_in, IsValue, IsBody, IsBodyIn, IsIn, IsSrid}
use Rattle.wkb_grammar.specs.ShapesShown.{shape_of, shape_of_body}
use Rattle.wkb_reader.specs.declared.cursor.Cursor.{Cursor}
use Rattle.wkb_reader.specs.declared.cursor.Order.{Order as ReadOrder}
use Rattle.wkb_reader.specs.declared.cursor.Order.TheVariants.{Big, Little}
use Rattle.wkb_reader.specs.declared.head.Flags.{Flags}
use Rattle.wkb_reader.specs.declared.head.TypeFound.{TypeFound}
use Rattle.wkb_reader.specs.declared.head.Standing.{Standing as ReadStanding}
use Rattle.wkb_reader.specs.declared.head.Standing.TheVariants.{Alone, MemberOf}
use Rattle.wkb_reader.specs.Broken.{Standing, alone, member_of, Suits, deepest_level, IsHeadOf}
use Rattle.wkb_reader.specs.Cursors.{Passes, Takes}

abbrev pub order_of : ReadOrder → Order
order_of Big = big
order_of Little = little

abbrev pub standing_of : ReadStanding → Standing
standing_of Alone = alone
standing_of (MemberOf kind d) = member_of (number_of kind) d

-- the flags of a dialect, above what is below them: WKB has none
abbrev pub AreFlagsIn : Dialect → ℕ → Flags → Type 0
AreFlagsIn Iso low flags = (flags.z ≡ false) × (flags.m ≡ false) × (flags.srid ≡ false)
AreFlagsIn Extended low flags = low < srid_flag

-- the number of a type is what is below the flags with the flags
pub record Splits (dialect : Dialect) (number low : ℕ) (flags : Flags) : Type 0 where
  pub sum : number ≡ low + (if flags.srid then srid_flag else 0) + (if flags.m then m_flag else 0) + (if flags.z then z_flag else 0)
  pub below : AreFlagsIn dialect low flags

-- what the number of a type says
pub record Says (dialect : Dialect) (number : ℕ) (found : TypeFound) : Type 0 where
  pub spelled : Spelling
  pub same : number ≡ type_in spelled (number_of found.kind)
  pub srid : has_srid spelled.srid ≡ found.has_srid
  pub is : IsHeadOf dialect spelled (number_of found.kind) found.dimension

-- the number of a reference system was taken, if there is one
pub record TakesSrid (old new : Cursor) (order : Order) (has : Bool) : Type 0 where
  pub srid : Option ℕ
  pub same : has_srid srid ≡ has
  pub is : IsSrid srid
  pub passed : Passes old new (srid_bytes order srid)

-- a head in this byte order
abbrev pub spelled_in : Order → Dimension → Dimension → Option ℕ → Spelling
spelled_in order thousands flags srid = record { order = order; thousands = thousands; flags = flags; srid = srid }

-- the head of a value of this order, kind and dimension was taken
pub record TakesHead (dialect : Dialect) (old new : Cursor) (order : Order) (kind : ℕ) (d : Dimension) : Type 0 where
  pub thousands : Dimension
  pub flags : Dimension
  pub srid : Option ℕ
  pub is : IsHeadOf dialect (spelled_in order thousands flags srid) kind d
  pub passed : Passes old new (head_in (spelled_in order thousands flags srid) kind ++ srid_in (spelled_in order thousands flags srid))

-- a value at this level that may stand so
pub record Stands (dialect : Dialect) (level : ℕ) (standing : Standing) (v : Value) : Type 0 where
  pub dimension : Dimension
  pub is : IsValue dimension v
  pub speaks : IsIn dialect v
  pub suits : Suits standing (kind_in (body_in v)) dimension
  pub shallow : level + depth (shape_of v) ≤ deepest_level + 1

-- the body of a value of this kind and dimension
pub record IsBodyOf (dialect : Dialect) (kind : ℕ) (d : Dimension) (body : Body) : Type 0 where
  pub is : IsBody d body
  pub speaks : IsBodyIn dialect body
  pub same : kind_in body ≡ kind

-- the body of a value of this order, kind and dimension was taken, and this is the value's shape
abbrev pub TakesBody : Dialect → Cursor → Cursor → Order → ℕ → Dimension → Shape → Type 0
TakesBody dialect old new order kind d s = Takes old new (body_bytes order) (IsBodyOf dialect kind d) (λ body. s ≡ shape_of_body d body)
