-- The value that the writer writes is a value of the shape's dimension.
use Rattle.std.proofs.Common.{◌≡◌, inl, inr, ℕ, suc, ◌+◌, ◌^◌, ◌<◌, ◌==◌, not, Bool, true, false, IsTrue, List, [], ◌∷◌, ◌++◌, length, map, if◌then◌else◌, refl, ap, subst, arith}
use Rattle.std.specs.List.{All, AllByRecursion, list_all}
use Rattle.std.proofs.lemmas.Bool.{and_left, ne_eqb}
use Rattle.std.proofs.lemmas.List.{length-map}
use Rattle.std.proofs.lemmas.List.Elements.{All-head, All-tail, All-from_recursion}
use Rattle.order_keys.specs.Keys.{is_finite}
use Rattle.fgb_schema.specs.Tables.{is_kind}
use Rattle.fgb_schema.specs.Shapes.{Shape, shape, Shapes, none, more, Ordinates, type_in, parts_in}
use Rattle.wkb_writer.specs.declared.dialect.Dialect.{Dialect}
use Rattle.wkb_writer.specs.declared.dimension.Dimension.{Dimension}
use Rattle.wkb_writer.specs.Wkb.{nowhere}
use Rattle.wkb_grammar.specs.Grammar.{Position, ordinates_of, Value, Body, point, line, polygon, multi, Values, body_in, each_bytes, is_nowhere, IsSpelled, IsPosition, AreCounted, IsLine, is_member, IsBody, AreMembers}
use Rattle.wkb_grammar.proofs.Rings.{ring_in, rings_are_lines}
use Rattle.wkb_grammar.proofs.Spelling.{by_kind, values_of, point_value, line_value, empty_point, only_point, body_by, spelled_by, each_by, head_by}

-- a point with a finite x is somewhere
pub somewhere : (p : Position) → IsTrue (is_finite p.x) → is_nowhere p ≡ false
somewhere p finite =
    let other : p.x ≡ nowhere → ⊥ = λ e. let never : false ≡ true = subst (λ x. is_finite x ≡ true) e finite in cc in
    and_left (p.x == nowhere) (list_all (λ x. x == nowhere) (p.y ∷ p.beside)) (ne_eqb p.x nowhere other)

-- the point of an empty Point is nowhere, and has its ordinates
nowhere_by : (z m : Bool) → list_all (λ x. x == nowhere) ((if z then nowhere ∷ [] else []) ++ (if m then nowhere ∷ [] else [])) ≡ true
nowhere_by true true = refl
nowhere_by true false = refl
nowhere_by false true = refl
nowhere_by false false = refl

pub empty_is_nowhere : (d : Dimension) → is_nowhere (empty_point d) ≡ true
empty_is_nowhere d = nowhere_by d.z d.m

beside_nowhere : (z m : Bool) → length ((if z then nowhere ∷ [] else []) ++ (if m then nowhere ∷ [] else [])) ≡ (if z then 1 else 0) + (if m then 1 else 0)
beside_nowhere true true = refl
beside_nowhere true false = refl
beside_nowhere false true = refl
beside_nowhere false false = refl

small_nowhere : (z m : Bool) → AllByRecursion (λ x. x < 2 ^ 64) ((if z then nowhere ∷ [] else []) ++ (if m then nowhere ∷ [] else []))
small_nowhere true true = (omega arith, (omega arith, tt))
small_nowhere true false = (omega arith, tt)
small_nowhere false true = (omega arith, tt)
small_nowhere false false = tt

empty_is_spelled : (d : Dimension) → IsSpelled d (empty_point d)
empty_is_spelled d = record {
  patterns = All-from_recursion (λ x. x < 2 ^ 64) (ordinates_of (empty_point d)) (omega arith, (omega arith, small_nowhere d.z d.m));
  enough = beside_nowhere d.z d.m;
}

-- the body of a Point
point_is : (d : Dimension) (ps : List Position) → All (IsPosition d) ps → IsBody d (point (only_point d ps))
point_is d [] is = inr (empty_is_spelled d, empty_is_nowhere d)
point_is d (p ∷ ps) is = inl (All-head (IsPosition d) p ps is)

-- Points as members
pub points_are : (dialect : Dialect) (d : Dimension) (ps : List Position) → All (IsPosition d) ps → AreMembers 4 d (values_of (map (point_value dialect d) ps))
points_are dialect d [] is = tt
points_are dialect d (p ∷ ps) is =
    let first = All-head (IsPosition d) p ps is in
    (ap not (somewhere p first.finite_x), (refl, inl first, head_by dialect d), points_are dialect d ps (All-tail (IsPosition d) p ps is))

-- lines as members
pub lines_are : (dialect : Dialect) (d : Dimension) (lines : List (List Position)) → AllByRecursion (IsLine d) lines → AreMembers 5 d (values_of (map (line_value dialect d) lines))
lines_are dialect d [] is = tt
lines_are dialect d (ps ∷ lines) is = (refl, (refl, is.0, head_by dialect d), lines_are dialect d lines is.1)

pub length-each : (values : List Value) → length (each_bytes (values_of values)) ≡ length values
length-each [] = refl
length-each (v ∷ vs) = ap suc (length-each vs)

pub length-each_by : (dialect : Dialect) (d : Dimension) (kind : ℕ) (own rings : List (ℕ × ℕ)) (lists : Ordinates) (parts : Shapes) → length (each_bytes (each_by dialect d parts)) ≡ length (parts_in (shape kind own rings lists parts))
length-each_by dialect d kind own rings lists none = refl
length-each_by dialect d kind own rings lists (more first rest) = ap suc (length-each_by dialect d kind own rings lists rest)

-- any body is that of a member of a GeometryCollection
pub any_member : (body : Body) → is_member 7 body ≡ true
any_member (point p) = refl
any_member (line ps) = refl
any_member (polygon rings) = refl
any_member (multi kind members) = refl

-- shapes of type 3 are spelled as polygons
polygon_by : (dialect : Dialect) (d : Dimension) (g : Shape) → type_in g ≡ 3 → is_member 6 (body_in (spelled_by dialect d g)) ≡ true
polygon_by dialect d (shape kind own rings ordinates parts) is = rw is refl

pub polygons_are : (dialect : Dialect) (d : Dimension) (kind : ℕ) (own rings : List (ℕ × ℕ)) (lists : Ordinates) (parts : Shapes) → All (λ part. type_in part ≡ 3) (parts_in (shape kind own rings lists parts))
    → AreMembers 7 d (each_by dialect d parts) → AreMembers 6 d (each_by dialect d parts)
polygons_are dialect d kind own rings lists none typed is = tt
polygons_are dialect d kind own rings lists (more first rest) typed is =
    let others = parts_in (shape kind own rings lists rest) in
    let Typed : Shape → Type 0 = λ part. type_in part ≡ 3 in
    (polygon_by dialect d first (All-head Typed first others typed), is.1, polygons_are dialect d kind own rings lists rest (All-tail Typed first others typed) is.2)

-- the body of a shape of this kind, whose parts are spelled by these members
pub body_is : (dialect : Dialect) (d : Dimension) (ps : List Position) (rings : List (ℕ × ℕ)) (members : Values) (kind : ℕ) → IsTrue (is_kind kind)
    → IsLine d ps → AreCounted rings → AreCounted (each_bytes members) → AreMembers 7 d members → (kind ≡ 6 → AreMembers 6 d members) → IsBody d (body_by dialect d kind ps rings members)
body_is dialect d ps rings members kind is points few_rings few_members all polygons =
    let lines = rings_are_lines d ps rings points in
    let count : AreCounted (map (ring_in ps) rings) = omega (arith, length-map rings (ring_in ps)) in
    by_kind (λ k. (k ≡ 6 → AreMembers 6 d members) → IsBody d (body_by dialect d k ps rings members))
    (λ h. point_is d ps points.0)
    (λ h. points)
    (λ h. (All-from_recursion (IsLine d) (map (ring_in ps) rings) lines, count))
    (λ h. (refl, points_are dialect d ps points.0, omega (arith, points.1, length-each (map (point_value dialect d) ps), length-map ps (point_value dialect d))))
    (λ h. (refl, lines_are dialect d (map (ring_in ps) rings) lines, omega (arith, count, length-each (map (line_value dialect d) (map (ring_in ps) rings)), length-map (map (ring_in ps) rings) (line_value dialect d))))
    (λ h. (refl, h refl, few_members))
    (λ h. (refl, all, few_members))
    kind is polygons
