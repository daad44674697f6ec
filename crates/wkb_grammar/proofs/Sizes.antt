-- How many bytes a value has at least.
use Rattle.std.proofs.Common.{◌≡◌, ℕ, suc, ◌+◌, ◌*◌, ◌≤◌, List, [], ◌∷◌, ◌++◌, length, map, refl, ap, arith, length-append}
use Rattle.std.specs.List.{concat, flat_map}
use Rattle.byteorder.specs.Numbers.{length-bytes_high_first, length-bytes_low_first}
use Rattle.wkb_writer.specs.declared.dimension.Dimension.{Dimension}
use Rattle.wkb_grammar.specs.Grammar.{Order, big, little, Spelling, Position, Value, value, Body, point, line, polygon, multi, Values, nothing, also, kind_in, number_bytes, position_bytes, line_bytes_in, type_in, head_in, srid_in, bytes_of, body_bytes, each_bytes}
use Rattle.wkb_grammar.specs.ShapesShown.{joined, positions_in, positions_of_each}

pub length-number : (o : Order) (width x : ℕ) → length (number_bytes o width x) ≡ width
length-number big width x = length-bytes_high_first width x
length-number little width x = length-bytes_low_first 0 width x

-- five bytes, and those of the number of a reference system, in front of a body
pub length-head : (s : Spelling) (kind : ℕ) → length (head_in s kind) ≡ 5
length-head s kind = omega (arith, length-number s.order 4 (type_in s kind))

pub length-value : (s : Spelling) (d : Dimension) (body : Body) → length (bytes_of (value s d body)) ≡ 5 + length (srid_in s) + length (body_bytes s.order body)
length-value s d body =
    omega (arith, length-append (head_in s (kind_in body)) (srid_in s ++ body_bytes s.order body), length-append (srid_in s) (body_bytes s.order body), length-head s (kind_in body))

-- sixteen for each point
pub position_long : (o : Order) (p : Position) → 16 ≤ length (position_bytes o p)
position_long o p =
    let others = flat_map (number_bytes o 8) p.beside in
    omega (arith, length-append (number_bytes o 8 p.x) (number_bytes o 8 p.y ++ others), length-append (number_bytes o 8 p.y) others, length-number o 8 p.x, length-number o 8 p.y)

positions_long : (o : Order) (ps : List Position) → 16 * length ps ≤ length (concat (map (position_bytes o) ps))
positions_long o [] = omega arith
positions_long o (p ∷ ps) =
    omega (arith, positions_long o ps, position_long o p, length-append (position_bytes o p) (concat (map (position_bytes o) ps)))

-- four for each count
pub line_long : (o : Order) (ps : List Position) → 4 + 16 * length ps ≤ length (line_bytes_in o ps)
line_long o ps =
    let things = map (position_bytes o) ps in
    omega (arith, positions_long o ps, length-append (number_bytes o 4 (length things)) (concat things), length-number o 4 (length things))

pub lines_long : (o : Order) (lines : List (List Position)) → 4 * length lines + 16 * length (joined lines) ≤ length (concat (map (line_bytes_in o) lines))
lines_long o [] = omega arith
lines_long o (ps ∷ lines) =
    omega (arith, lines_long o lines, line_long o ps, length-append (line_bytes_in o ps) (concat (map (line_bytes_in o) lines)), length-append ps (joined lines))

counted_long : (o : Order) (things : List (List ℕ)) → length (concat things) ≤ length (number_bytes o 4 (length things) ++ concat things)
counted_long o things = omega (arith, length-append (number_bytes o 4 (length things)) (concat things))

pub polygon_long : (o : Order) (rings : List (List Position)) → 4 * length rings + 16 * length (joined rings) ≤ length (body_bytes o (polygon rings))
polygon_long o rings = omega (arith, lines_long o rings, counted_long o (map (line_bytes_in o) rings))

pub members_inside : (o : Order) (kind : ℕ) (members : Values) → length (concat (each_bytes members)) ≤ length (body_bytes o (multi kind members))
members_inside o kind members = counted_long o (each_bytes members)

-- a value with the points that it gives to one it is a member of
pub value_long : (v : Value) → 5 + 16 * length (positions_in v) ≤ length (bytes_of v)
value_long (value s d (point p)) = omega (arith, length-value s d (point p), position_long s.order p)
value_long (value s d (line ps)) = omega (arith, length-value s d (line ps), line_long s.order ps)
value_long (value s d (polygon rings)) = omega (arith, length-value s d (polygon rings))
value_long (value s d (multi kind members)) = omega (arith, length-value s d (multi kind members))

pub members_long : (members : Values) → length (each_bytes members) + 16 * length (joined (positions_of_each members)) ≤ length (concat (each_bytes members))
members_long nothing = omega arith
members_long (also first rest) =
    omega (arith, members_long rest, value_long first, length-append (bytes_of first) (concat (each_bytes rest)), length-append (positions_in first) (joined (positions_of_each rest)))

pub length-positions_of_each : (members : Values) → length (positions_of_each members) ≡ length (each_bytes members)
length-positions_of_each nothing = refl
length-positions_of_each (also first rest) = ap suc (length-positions_of_each rest)
