-- What the writer writes is a WKB value of the shape.
use Rattle.std.proofs.Common.{◌≡◌, ℕ, ◌+◌, ◌^◌, ◌<◌, ◌≤◌, IsTrue, List, [], ◌∷◌, ◌++◌, length, map, refl, sym, ap, ap₂, subst, ◌∙◌, arith, length-append, get_or-append-add}
use Rattle.std.specs.List.{All}
use Rattle.std.proofs.lemmas.List.{get_or_append_left, nil_from_length}
use Rattle.std.proofs.lemmas.List.Elements.{All-head, All-tail}
use Rattle.fgb_schema.specs.Tables.{is_kind}
use Rattle.fgb_schema.specs.Shapes.{Shape, shape, Shapes, none, more, Ordinates, parts_in}
use Rattle.owned_shape.specs.Records.{AreChained, IsLevel, IsSound, AreSound, IsRecord}
use Rattle.wkb_writer.specs.declared.dialect.Dialect.{Dialect}
use Rattle.wkb_writer.specs.declared.dialect.Dialect.TheVariants.{Iso, Extended}
use Rattle.wkb_writer.specs.declared.dimension.Dimension.{Dimension}
use Rattle.wkb_writer.specs.Dimensions.{dimension_of, tree, trees, Fits}
use Rattle.wkb_writer.specs.Wkb.{IsEwkb, IsWkb}
use Rattle.wkb_grammar.specs.Grammar.{Position, Value, value, Body, point, line, polygon, multi, Values, nothing, also, body_in, IsLine, IsValue, IsBodyIn, AreMembers, IsIn, AreIn}
use Rattle.wkb_grammar.specs.ShapesShown.{shape_of, shapes_in}
use Rattle.wkb_grammar.specs.Wkb.{Ewkb, Wkb, most_bytes}
use Rattle.wkb_grammar.proofs.Positions.{positions, length-positions, points_back, IsFor, is_for, positions_are, lists_back}
use Rattle.wkb_grammar.proofs.Spelling.{by_kind, values_of, point_value, line_value, body_by, spelled_by, each_by, spelled_with, head_by, says_by, head_of_dialect, bytes_by, bytes_with}
use Rattle.wkb_grammar.proofs.Rings.{ring_in}
use Rattle.wkb_grammar.proofs.SpelledIs.{length-each_by, any_member, polygons_are, body_is}
use Rattle.wkb_grammar.proofs.SpelledShows.{shape_by}

-- what holds of each element of two lists together holds of those of each
All-front : {X : Type 0} (P : X → Type 0) (xs ys : List X) → All P (xs ++ ys) → All P xs
All-front P xs ys all = λ k d early.
    subst P (get_or_append_left xs ys d k early) (all k d (omega (arith, early, length-append xs ys)))

All-behind : {X : Type 0} (P : X → Type 0) (xs ys : List X) → All P (xs ++ ys) → All P ys
All-behind P xs ys all = λ k d early.
    subst P (get_or-append-add xs ys k d) (all (length xs + k) d (omega (arith, early, length-append xs ys)))

-- the lists of a level that fits a dimension
module _ (d : Dimension) (kind : ℕ) (own rings : List (ℕ × ℕ)) (lists : Ordinates) (parts : Shapes) where
  dimension_told : Fits d (shape kind own rings lists parts) → 0 < length own → dimension_of (shape kind own rings lists parts) ≡ d
  dimension_told fits some = fits.same (λ e. absurd (omega (arith, some, ap length e)))

  for_z : IsLevel (shape kind own rings lists parts) → Fits d (shape kind own rings lists parts) → IsFor d.z (length own) lists.z
  for_z level fits = is_for d.z (length own) lists.z level.z (λ some. ap (λ e. e.z) (dimension_told fits some))

  for_m : IsLevel (shape kind own rings lists parts) → Fits d (shape kind own rings lists parts) → IsFor d.m (length own) lists.m
  for_m level fits = is_for d.m (length own) lists.m level.m (λ some. ap (λ e. e.m) (dimension_told fits some))

  level_positions : IsLevel (shape kind own rings lists parts) → Fits d (shape kind own rings lists parts) → IsLine d (positions own lists.z lists.m)
  level_positions level fits = (
    positions_are d own lists.z lists.m level.points (for_z level fits) (for_m level fits) level.z.1 level.m.1,
    omega (arith, level.few_points, length-positions own lists.z lists.m),
  )

-- parts that are not there
no_parts_in : (kind : ℕ) (own rings : List (ℕ × ℕ)) (lists : Ordinates) (parts : Shapes) → parts_in (shape kind own rings lists parts) ≡ [] → parts ≡ none
no_parts_in kind own rings lists none gone = refl
no_parts_in kind own rings lists (more first rest) gone = cc

-- one level: its value, where its parts have theirs
level_is : (dialect : Dialect) (d : Dimension) (kind : ℕ) (own rings : List (ℕ × ℕ)) (lists : Ordinates) (parts : Shapes) → IsLevel (shape kind own rings lists parts) → Fits d (shape kind own rings lists parts)
    → AreMembers 7 d (each_by dialect d parts) → IsValue d (spelled_by dialect d (shape kind own rings lists parts))
level_is dialect d kind own rings lists parts level fits members = (
  refl,
  body_is dialect d (positions own lists.z lists.m) rings (each_by dialect d parts) kind level.known
      (level_positions d kind own rings lists parts level fits)
      (omega (arith, level.few_rings))
      (omega (arith, level.few_parts, length-each_by dialect d kind own rings lists parts))
      members
      (λ six. polygons_are dialect d kind own rings lists parts (level.polygons six) members),
  head_by dialect d,
)

level_shows : (dialect : Dialect) (d : Dimension) (kind : ℕ) (own rings : List (ℕ × ℕ)) (lists : Ordinates) (parts : Shapes) → IsLevel (shape kind own rings lists parts) → Fits d (shape kind own rings lists parts)
    → shapes_in (each_by dialect d parts) ≡ parts → shape_of (spelled_by dialect d (shape kind own rings lists parts)) ≡ shape kind own rings lists parts
level_shows dialect d kind own rings lists parts level fits below =
    let ps = positions own lists.z lists.m in
    let counted : length ps ≡ length own = length-positions own lists.z lists.m in
    shape_by dialect d ps rings (each_by dialect d parts) kind level.known (level_positions d kind own rings lists parts level fits).0
    (record {
      single = λ one. omega (arith, counted, level.single one);
      chained = λ has. subst (λ n. AreChained 0 n rings) (sym counted) (level.chained has);
      no_points = λ has. nil_from_length ps (counted ∙ ap length (level.no_points has).0);
      no_rings = level.no_rings;
      no_parts = λ has. below ∙ no_parts_in kind own rings lists parts (level.no_parts has);
    })
    ∙ λ i. shape kind (points_back own lists.z lists.m i) rings
    (lists_back d own lists (for_z d kind own rings lists parts level fits) (for_m d kind own rings lists parts level fits) fits.no_t fits.no_tm i) (below i)

-- every level
mutual
  value_by : (dialect : Dialect) (d : Dimension) (g : Shape) → IsSound g → All (Fits d) (tree g) → IsValue d (spelled_by dialect d g)
  value_by dialect d (shape kind own rings lists parts) sound fits =
      let s = shape kind own rings lists parts in
      level_is dialect d kind own rings lists parts sound.0 (All-head (Fits d) s (trees parts) fits) (members_by dialect d parts sound.1 (All-tail (Fits d) s (trees parts) fits))

  members_by : (dialect : Dialect) (d : Dimension) (parts : Shapes) → AreSound parts → All (Fits d) (trees parts) → AreMembers 7 d (each_by dialect d parts)
  members_by dialect d none sound fits = tt
  members_by dialect d (more first rest) sound fits = (
    any_member (body_in (spelled_by dialect d first)),
    value_by dialect d first sound.0 (All-front (Fits d) (tree first) (trees rest) fits),
    members_by dialect d rest sound.1 (All-behind (Fits d) (tree first) (trees rest) fits),
  )

mutual
  shown_by : (dialect : Dialect) (d : Dimension) (g : Shape) → IsSound g → All (Fits d) (tree g) → shape_of (spelled_by dialect d g) ≡ g
  shown_by dialect d (shape kind own rings lists parts) sound fits =
      let s = shape kind own rings lists parts in
      level_shows dialect d kind own rings lists parts sound.0 (All-head (Fits d) s (trees parts) fits) (all_shown_by dialect d parts sound.1 (All-tail (Fits d) s (trees parts) fits))

  all_shown_by : (dialect : Dialect) (d : Dimension) (parts : Shapes) → AreSound parts → All (Fits d) (trees parts) → shapes_in (each_by dialect d parts) ≡ parts
  all_shown_by dialect d none sound fits = refl
  all_shown_by dialect d (more first rest) sound fits = ap₂ more
      (shown_by dialect d first sound.0 (All-front (Fits d) (tree first) (trees rest) fits))
      (all_shown_by dialect d rest sound.1 (All-behind (Fits d) (tree first) (trees rest) fits))

-- the heads of every level
points_in_dialect : (dialect : Dialect) (d : Dimension) (ps : List Position) → AreIn dialect (values_of (map (point_value dialect d) ps))
points_in_dialect dialect d [] = tt
points_in_dialect dialect d (p ∷ ps) = ((head_of_dialect dialect d, tt), points_in_dialect dialect d ps)

lines_in_dialect : (dialect : Dialect) (d : Dimension) (lines : List (List Position)) → AreIn dialect (values_of (map (line_value dialect d) lines))
lines_in_dialect dialect d [] = tt
lines_in_dialect dialect d (ps ∷ lines) = ((head_of_dialect dialect d, tt), lines_in_dialect dialect d lines)

body_in_dialect : (dialect : Dialect) (d : Dimension) (ps : List Position) (rings : List (ℕ × ℕ)) (members : Values) (kind : ℕ) → IsTrue (is_kind kind) → AreIn dialect members
    → IsBodyIn dialect (body_by dialect d kind ps rings members)
body_in_dialect dialect d ps rings members kind is all =
    by_kind (λ k. IsBodyIn dialect (body_by dialect d k ps rings members)) tt tt tt (points_in_dialect dialect d ps) (lines_in_dialect dialect d (map (ring_in ps) rings)) all all kind is

mutual
  speaks_by : (dialect : Dialect) (d : Dimension) (g : Shape) → IsSound g → IsIn dialect (spelled_by dialect d g)
  speaks_by dialect d (shape kind own rings lists parts) sound =
      (head_of_dialect dialect d, body_in_dialect dialect d (positions own lists.z lists.m) rings (each_by dialect d parts) kind sound.0.known (all_speak_by dialect d parts sound.1))

  all_speak_by : (dialect : Dialect) (d : Dimension) (parts : Shapes) → AreSound parts → AreIn dialect (each_by dialect d parts)
  all_speak_by dialect d none sound = tt
  all_speak_by dialect d (more first rest) sound = (speaks_by dialect d first sound.0, all_speak_by dialect d rest sound.1)

-- the number of a reference system in the outermost head
with_value : (srid : ℕ) (d : Dimension) (g : Shape) → srid < 2 ^ 32 → IsValue d (spelled_by Extended d g) → IsValue d (spelled_with srid d g)
with_value srid d (shape kind own rings lists parts) small is = (refl, is.1, record { says = says_by Extended d; srid = small })

with_shape : (srid : ℕ) (d : Dimension) (g : Shape) → shape_of (spelled_by Extended d g) ≡ g → shape_of (spelled_with srid d g) ≡ g
with_shape srid d (shape kind own rings lists parts) shown = shown

with_speaks : (srid : ℕ) (d : Dimension) (g : Shape) → IsIn Extended (spelled_by Extended d g) → IsIn Extended (spelled_with srid d g)
with_speaks srid d (shape kind own rings lists parts) speaks = (tt, speaks.1)

-- what the writer writes of a record is a WKB value of it, where it is not too long
pub written_values_are_read : (g : Shape) (bytes : List ℕ) → IsRecord g → IsWkb g bytes → length bytes ≤ most_bytes → Wkb g bytes
written_values_are_read g bytes recorded written small = record {
  spelled = spelled_by Iso written.dimension g;
  dimension = written.dimension;
  is = value_by Iso written.dimension g recorded.sound written.is.fits;
  speaks = speaks_by Iso written.dimension g recorded.sound;
  spells = written.spelled ∙ sym (bytes_by Iso written.dimension g recorded.sound);
  shown = sym (shown_by Iso written.dimension g recorded.sound written.is.fits);
  shallow = recorded.shallow;
  small = small;
}

-- and so it is as EWKB
pub extended_values_are_read : (g : Shape) (srid : ℕ) (bytes : List ℕ) → IsRecord g → srid < 2 ^ 32 → IsEwkb srid g bytes → length bytes ≤ most_bytes → Ewkb g bytes
extended_values_are_read g srid bytes recorded low written small = record {
  spelled = spelled_with srid written.dimension g;
  dimension = written.dimension;
  is = with_value srid written.dimension g low (value_by Extended written.dimension g recorded.sound written.is.fits);
  speaks = with_speaks srid written.dimension g (speaks_by Extended written.dimension g recorded.sound);
  spells = written.spelled ∙ sym (bytes_with srid written.dimension g recorded.sound);
  shown = sym (with_shape srid written.dimension g (shown_by Extended written.dimension g recorded.sound written.is.fits));
  shallow = recorded.shallow;
  small = small;
}

-- a value of WKB is one of EWKB
mutual
  any_extended : (v : Value) → IsIn Extended v
  any_extended (value s d body) = (tt, any_body body)

  any_body : (body : Body) → IsBodyIn Extended body
  any_body (point p) = tt
  any_body (line ps) = tt
  any_body (polygon rings) = tt
  any_body (multi kind members) = any_members members

  any_members : (members : Values) → AreIn Extended members
  any_members nothing = tt
  any_members (also first rest) = (any_extended first, any_members rest)

pub wkb_is_extended : (g : Shape) (bytes : List ℕ) → Wkb g bytes → Ewkb g bytes
wkb_is_extended g bytes w = record {
  spelled = w.spelled;
  dimension = w.dimension;
  is = w.is;
  speaks = any_extended w.spelled;
  spells = w.spells;
  shown = w.shown;
  shallow = w.shallow;
  small = w.small;
}
