-- The value that the writer writes for a shape, and its bytes.
use Rattle.std.proofs.Common.{◌≡◌, ℕ, zero, suc, ◌+◌, ◌==◌, Bool, true, false, IsTrue, List, [], ◌∷◌, ◌++◌, map, Option, Some, None, if◌then◌else◌, refl, sym, ap, ap₂, ◌∙◌, append_assoc, arith}
use Rattle.std.proofs.lemmas.Bool.Decides.{nat_tests}
use Rattle.fgb_schema.specs.Tables.{is_kind}
use Rattle.fgb_schema.specs.Shapes.{Shape, shape, Shapes, none, more}
use Rattle.owned_shape.specs.Records.{IsSound, AreSound}
use Rattle.byteorder.specs.Endian.{little_bytes}
use Rattle.wkb_writer.specs.declared.dialect.Dialect.{Dialect}
use Rattle.wkb_writer.specs.declared.dialect.Dialect.TheVariants.{Iso, Extended}
use Rattle.wkb_writer.specs.declared.dimension.Dimension.{Dimension}
use Rattle.wkb_writer.specs.Dimensions.{flat}
use Rattle.wkb_writer.specs.Wkb.{nowhere, rows, z_flag, m_flag, srid_flag, number_in, head, counted, point_body, line_bytes, ring_of, row_bytes, body as body_written, body_of as body_of_written, value_in as written, values_in as all_written, value_with_srid}
use Rattle.wkb_writer.proofs.Trees.{values_listed}
use Rattle.wkb_grammar.specs.Grammar.{little, Spelling, head_in, srid_in, type_in, dimension_by, IsHead, IsHeadIn, Position, ordinates_of, position_bytes, line_bytes_in, Value, value, Body, point, line, polygon, multi, Values, nothing, also, kind_in, bytes_of, body_bytes, each_bytes}
use Rattle.wkb_grammar.proofs.Positions.{positions, rows_are}
use Rattle.wkb_grammar.proofs.Rings.{ring_in, ring_rows}

-- what holds at each of the seven kinds
pub by_kind : (P : ℕ → Type 0) → P 1 → P 2 → P 3 → P 4 → P 5 → P 6 → P 7 → (kind : ℕ) → IsTrue (is_kind kind) → P kind
by_kind P a b c d e f g zero is = absurd (grind (arith, nat_tests))
by_kind P a b c d e f g (suc zero) is = a
by_kind P a b c d e f g (suc (suc zero)) is = b
by_kind P a b c d e f g (suc (suc (suc zero))) is = c
by_kind P a b c d e f g (suc (suc (suc (suc zero)))) is = d
by_kind P a b c d e f g (suc (suc (suc (suc (suc zero))))) is = e
by_kind P a b c d e f g (suc (suc (suc (suc (suc (suc zero)))))) is = f
by_kind P a b c d e f g (suc (suc (suc (suc (suc (suc (suc zero))))))) is = g
by_kind P a b c d e f g (suc (suc (suc (suc (suc (suc (suc (suc kind)))))))) is = absurd (grind (arith, nat_tests))

-- some values, one after another
abbrev pub values_of : List Value → Values
values_of [] = nothing
values_of (first ∷ rest) = also first (values_of rest)

-- how the writer spells a head: the lowest byte first, and z and m by thousands or by flags
abbrev pub thousands_by : Dialect → Dimension → Dimension
thousands_by Iso d = d
thousands_by Extended d = flat

abbrev pub flags_by : Dialect → Dimension → Dimension
flags_by Iso d = flat
flags_by Extended d = d

abbrev pub spelling_by : Dialect → Dimension → Option ℕ → Spelling
spelling_by dialect d srid = record { order = little; thousands = thousands_by dialect d; flags = flags_by dialect d; srid = srid }

abbrev pub point_value : Dialect → Dimension → Position → Value
point_value dialect d p = value (spelling_by dialect d None) d (point p)

abbrev pub line_value : Dialect → Dimension → List Position → Value
line_value dialect d ps = value (spelling_by dialect d None) d (line ps)

-- the point of an empty Point
abbrev pub empty_point : Dimension → Position
empty_point d = record { x = nowhere; y = nowhere; beside = (if d.z then nowhere ∷ [] else []) ++ (if d.m then nowhere ∷ [] else []) }

-- the point of a Point
abbrev pub only_point : Dimension → List Position → Position
only_point d [] = empty_point d
only_point d (p ∷ rest) = p

-- the body of a shape of this kind with these points, rings and parts
abbrev pub body_by : Dialect → Dimension → ℕ → List Position → List (ℕ × ℕ) → Values → Body
body_by dialect d kind ps rings members =
    if kind == 1 then point (only_point d ps)
    else if kind == 2 then line ps
    else if kind == 3 then polygon (map (ring_in ps) rings)
    else if kind == 4 then multi 4 (values_of (map (point_value dialect d) ps))
    else if kind == 5 then multi 5 (values_of (map (line_value dialect d) (map (ring_in ps) rings)))
    else multi kind members

-- the value of a shape whose points have this dimension, and those of some shapes
abbrev mutual
  pub spelled_by : Dialect → Dimension → Shape → Value
  spelled_by dialect d (shape kind own rings ordinates parts) =
      value (spelling_by dialect d None) d (body_by dialect d kind (positions own ordinates.z ordinates.m) rings (each_by dialect d parts))

  pub each_by : Dialect → Dimension → Shapes → Values
  each_by dialect d none = nothing
  each_by dialect d (more first rest) = also (spelled_by dialect d first) (each_by dialect d rest)

-- the same with the number of a reference system
abbrev pub spelled_with : ℕ → Dimension → Shape → Value
spelled_with srid d (shape kind own rings ordinates parts) =
    value (spelling_by Extended d (Some srid)) d (body_by Extended d kind (positions own ordinates.z ordinates.m) rings (each_by Extended d parts))

-- the kind of the body
pub kind_by : (dialect : Dialect) (d : Dimension) (ps : List Position) (rings : List (ℕ × ℕ)) (members : Values) (kind : ℕ) → IsTrue (is_kind kind)
    → kind_in (body_by dialect d kind ps rings members) ≡ kind
kind_by dialect d ps rings members kind is = by_kind (λ k. kind_in (body_by dialect d k ps rings members) ≡ k) refl refl refl refl refl refl refl kind is

-- the type that the writer writes
flags_written : (kind s : ℕ) (z m : Bool)
    → kind + s + (if m then m_flag else 0) + (if z then z_flag else 0) ≡ kind + (if z then z_flag else 0) + (if m then m_flag else 0) + s
flags_written kind s true true = omega arith
flags_written kind s true false = omega arith
flags_written kind s false true = omega arith
flags_written kind s false false = omega arith

type_written : (dialect : Dialect) (d : Dimension) (kind : ℕ) → type_in (spelling_by dialect d None) kind ≡ number_in dialect kind d
type_written Iso d kind = omega arith
type_written Extended d kind = omega (arith, flags_written kind 0 d.z d.m)

type_with : (srid : ℕ) (d : Dimension) (kind : ℕ) → type_in (spelling_by Extended d (Some srid)) kind ≡ number_in Extended kind d + srid_flag
type_with srid d kind = omega (arith, flags_written kind srid_flag d.z d.m)

pub head_written : (dialect : Dialect) (d : Dimension) (kind : ℕ) → head_in (spelling_by dialect d None) kind ≡ head dialect kind d
head_written dialect d kind = ap (λ n. 1 ∷ little_bytes 4 n) (type_written dialect d kind)

-- the dimension that it says
said_by : (z m : Bool) → dimension_by (record { order = little; thousands = flat; flags = record { z = z; m = m }; srid = None }) ≡ record { z = z; m = m }
said_by true true = refl
said_by true false = refl
said_by false true = refl
said_by false false = refl

pub says_by : (dialect : Dialect) (d : Dimension) → dimension_by (spelling_by dialect d None) ≡ d
says_by Iso d = refl
says_by Extended d = said_by d.z d.m

pub head_by : (dialect : Dialect) (d : Dimension) → IsHead (spelling_by dialect d None) d
head_by dialect d = record { says = says_by dialect d; srid = tt }

pub head_of_dialect : (dialect : Dialect) (d : Dimension) → IsHeadIn dialect (spelling_by dialect d None)
head_of_dialect Iso d = (refl, refl)
head_of_dialect Extended d = tt

-- the bytes of points and of lines
rows_written : (ps : List Position) → map row_bytes (map ordinates_of ps) ≡ map (position_bytes little) ps
rows_written [] = refl
rows_written (p ∷ ps) = ap (λ rest. position_bytes little p ∷ rest) (rows_written ps)

line_written : (ps : List Position) → line_bytes (map ordinates_of ps) ≡ line_bytes_in little ps
line_written ps = ap counted (rows_written ps)

ring_written : (ps : List Position) (ring : ℕ × ℕ) → line_bytes (ring_of (map ordinates_of ps) ring) ≡ line_bytes_in little (ring_in ps ring)
ring_written ps ring = ap line_bytes (ring_rows ps ring) ∙ line_written (ring_in ps ring)

rings_written : (ps : List Position) (rings : List (ℕ × ℕ)) → map (λ ring. line_bytes (ring_of (map ordinates_of ps) ring)) rings ≡ map (line_bytes_in little) (map (ring_in ps) rings)
rings_written ps [] = refl
rings_written ps (ring ∷ rest) = ap₂ (λ a b. a ∷ b) (ring_written ps ring) (rings_written ps rest)

point_written : (d : Dimension) (ps : List Position) → point_body d (map ordinates_of ps) ≡ position_bytes little (only_point d ps)
point_written d [] = refl
point_written d (p ∷ ps) = refl

-- the bytes of members
points_written : (dialect : Dialect) (d : Dimension) (ps : List Position)
    → map (λ row. head dialect 1 d ++ row_bytes row) (map ordinates_of ps) ≡ each_bytes (values_of (map (point_value dialect d) ps))
points_written dialect d [] = refl
points_written dialect d (p ∷ ps) = ap₂ (λ front rest. (front ++ position_bytes little p) ∷ rest) (sym (head_written dialect d 1)) (points_written dialect d ps)

members_written : (dialect : Dialect) (d : Dimension) (ps : List Position) (rings : List (ℕ × ℕ))
    → map (λ ring. head dialect 2 d ++ line_bytes (ring_of (map ordinates_of ps) ring)) rings ≡ each_bytes (values_of (map (line_value dialect d) (map (ring_in ps) rings)))
members_written dialect d ps [] = refl
members_written dialect d ps (ring ∷ rest) =
    ap₂ (λ front rest. (front ++ line_bytes (ring_of (map ordinates_of ps) ring)) ∷ rest) (sym (head_written dialect d 2)) (members_written dialect d ps rest)
    ∙ ap (λ line. (head_in (spelling_by dialect d None) 2 ++ line) ∷ each_bytes (values_of (map (line_value dialect d) (map (ring_in ps) rest)))) (ring_written ps ring)

body_bytes_by : (dialect : Dialect) (d : Dimension) (ps : List Position) (rings : List (ℕ × ℕ)) (members : Values) (kind : ℕ) → IsTrue (is_kind kind)
    → body_bytes little (body_by dialect d kind ps rings members) ≡ body_written dialect d kind (map ordinates_of ps) rings (each_bytes members)
unfolding body_written
body_bytes_by dialect d ps rings members kind is =
    by_kind (λ k. body_bytes little (body_by dialect d k ps rings members) ≡ body_written dialect d k (map ordinates_of ps) rings (each_bytes members))
    (sym (point_written d ps))
    (sym (line_written ps))
    (ap counted (sym (rings_written ps rings)))
    (ap counted (sym (points_written dialect d ps)))
    (ap counted (sym (members_written dialect d ps rings)))
    refl
    refl
    kind is

-- the value's bytes are those that the writer writes, where every level is of a known kind
mutual
  pub bytes_by : (dialect : Dialect) (d : Dimension) (g : Shape) → IsSound g → bytes_of (spelled_by dialect d g) ≡ written dialect d g
  bytes_by dialect d (shape kind own rings ordinates parts) sound =
      let ps = positions own ordinates.z ordinates.m in
      let members = each_by dialect d parts in
      ap₂ (λ k b. head_in (spelling_by dialect d None) k ++ b) (kind_by dialect d ps rings members kind sound.0.known)
      (body_bytes_by dialect d ps rings members kind sound.0.known
      ∙ ap₂ (λ rs bs. body_written dialect d kind rs rings bs) (sym (rows_are own ordinates.z ordinates.m)) (all_bytes_by dialect d parts sound.1))
      ∙ ap (λ front. front ++ body_written dialect d kind (rows own ordinates.z ordinates.m) rings (all_written dialect d parts)) (head_written dialect d kind)

  all_bytes_by : (dialect : Dialect) (d : Dimension) (parts : Shapes) → AreSound parts → each_bytes (each_by dialect d parts) ≡ all_written dialect d parts
  all_bytes_by dialect d none sound = refl
  all_bytes_by dialect d (more first rest) sound = ap₂ (λ a b. a ∷ b) (bytes_by dialect d first sound.0) (all_bytes_by dialect d rest sound.1)

-- the same with the number of a reference system
pub bytes_with : (srid : ℕ) (d : Dimension) (g : Shape) → IsSound g → bytes_of (spelled_with srid d g) ≡ value_with_srid srid d g
bytes_with srid d (shape kind own rings ordinates parts) sound =
    let ps = positions own ordinates.z ordinates.m in
    let members = each_by Extended d parts in
    let s = spelling_by Extended d (Some srid) in
    let behind = body_bytes_by Extended d ps rings members kind sound.0.known
    ∙ ap₂ (λ rs bs. body_written Extended d kind rs rings bs) (sym (rows_are own ordinates.z ordinates.m))
    (all_bytes_by Extended d parts sound.1 ∙ sym (values_listed kind own rings ordinates Extended d parts)) in
    ap₂ (λ k b. head_in s k ++ (srid_in s ++ b)) (kind_by Extended d ps rings members kind sound.0.known) behind
    ∙ ap (λ n. (1 ∷ little_bytes 4 n) ++ (little_bytes 4 srid ++ body_of_written Extended d (shape kind own rings ordinates parts))) (type_with srid d kind)
    ∙ sym (append_assoc (1 ∷ little_bytes 4 (number_in Extended kind d + srid_flag)) (little_bytes 4 srid) (body_of_written Extended d (shape kind own rings ordinates parts)))
