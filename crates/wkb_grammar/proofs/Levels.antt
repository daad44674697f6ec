-- A level with points is one of a record.
use Rattle.std.proofs.Common.{◌≡◌, ℕ, suc, ◌+◌, ◌^◌, ◌<◌, ◌≤◌, Bool, true, false, IsTrue, List, [], ◌∷◌, ◌++◌, length, map, take, drop, if◌then◌else◌, refl, sym, ap, subst, arith, length-append, length-take, length-drop}
use Rattle.std.specs.List.{All, AllByRecursion, flat_map}
use Rattle.std.proofs.lemmas.Bool.{both_ways}
use Rattle.std.proofs.lemmas.List.{length-map}
use Rattle.std.proofs.lemmas.List.Elements.{All-nil, All-head, All-tail, All-append, All-take, All-drop, All-map, All-weaker}
use Rattle.fgb_schema.specs.Tables.{is_kind, has_points, has_rings}
use Rattle.fgb_schema.specs.Shapes.{Shape, type_in}
use Rattle.owned_shape.specs.Records.{IsPoint, IsBeside, AreChained, IsLevel}
use Rattle.wkb_writer.specs.declared.dimension.Dimension.{Dimension}
use Rattle.wkb_grammar.specs.Grammar.{Position, IsPosition}
use Rattle.wkb_grammar.specs.ShapesShown.{lists_of, shape_of_points, rings_along, joined}

point_of : (d : Dimension) (p : Position) → IsPosition d p → IsPoint (p.x, p.y)
point_of d p is =
    let Small : ℕ → Type 0 = λ x. x < 2 ^ 64 in
    let behind = All-tail Small p.x (p.y ∷ p.beside) is.spelled.patterns in
    ((is.finite_x, All-head Small p.x (p.y ∷ p.beside) is.spelled.patterns), (is.finite_y, All-head Small p.y p.beside behind))

-- one pattern of each point
pub record IsOne (f : Position → List ℕ) (p : Position) : Type 0 where
  pub single : length (f p) ≡ 1
  pub pattern : All (λ x. x < 2 ^ 64) (f p)

one_each : (f : Position → List ℕ) (ps : List Position) → AllByRecursion (IsOne f) ps → length (flat_map f ps) ≡ length ps
one_each f [] is = refl
one_each f (p ∷ ps) is = omega (arith, length-append (f p) (flat_map f ps), is.0.single, one_each f ps is.1)

patterns_each : (f : Position → List ℕ) (ps : List Position) → AllByRecursion (IsOne f) ps → All (λ x. x < 2 ^ 64) (flat_map f ps)
patterns_each f [] is = All-nil (λ x. x < 2 ^ 64)
patterns_each f (p ∷ ps) is = All-append (λ x. x < 2 ^ 64) (f p) (flat_map f ps) is.0.pattern (patterns_each f ps is.1)

beside_each : (f : Position → List ℕ) (ps : List Position) → AllByRecursion (IsOne f) ps → IsBeside (length ps) (flat_map f ps)
beside_each f ps is = ((λ some. one_each f ps is), patterns_each f ps is)

beside_none : (points : ℕ) → IsBeside points []
beside_none points = ((λ some. absurd (omega (arith, some))), All-nil (λ x. x < 2 ^ 64))

-- the numbers beside x and y
record AreSo (z m : Bool) (p : Position) : Type 0 where
  counted : length p.beside ≡ (if z then 1 else 0) + (if m then 1 else 0)
  patterns : All (λ x. x < 2 ^ 64) p.beside

all_one : (z m : Bool) (f : Position → List ℕ) → ((p : Position) → AreSo z m p → IsOne f p) → (ps : List Position) → AllByRecursion (AreSo z m) ps → AllByRecursion (IsOne f) ps
all_one z m f one [] so = tt
all_one z m f one (p ∷ ps) so = (one p so.0, all_one z m f one ps so.1)

z_beside : (z m : Bool) (ps : List Position) → AllByRecursion (AreSo z m) ps → IsBeside (length ps) (if z then flat_map (λ p. take 1 p.beside) ps else [])
z_beside true m ps so = beside_each (λ p. take 1 p.beside) ps
    (all_one true m (λ p. take 1 p.beside) (λ p is. record {
      single = omega (arith, length-take 1 p.beside, is.counted);
      pattern = All-take (λ x. x < 2 ^ 64) 1 p.beside is.patterns;
    }) ps so)
z_beside false m ps so = beside_none (length ps)

m_beside : (z m : Bool) (ps : List Position) → AllByRecursion (AreSo z m) ps → IsBeside (length ps) (if m then flat_map (λ p. drop (if z then 1 else 0) p.beside) ps else [])
m_beside z true ps so = beside_each (λ p. drop (if z then 1 else 0) p.beside) ps
    (all_one z true (λ p. drop (if z then 1 else 0) p.beside) (λ p is. record {
      single = omega (arith, length-drop (if z then 1 else 0) p.beside, is.counted);
      pattern = All-drop (λ x. x < 2 ^ 64) (if z then 1 else 0) p.beside is.patterns;
    }) ps so)
m_beside z false ps so = beside_none (length ps)

all_so : (d : Dimension) (ps : List Position) → All (IsPosition d) ps → AllByRecursion (AreSo d.z d.m) ps
all_so d [] is = tt
all_so d (p ∷ ps) is =
    let spelled = (All-head (IsPosition d) p ps is).spelled in
    let Small : ℕ → Type 0 = λ x. x < 2 ^ 64 in (
      record {
        counted = spelled.enough;
        patterns = All-tail Small p.y p.beside (All-tail Small p.x (p.y ∷ p.beside) spelled.patterns);
      },
      all_so d ps (All-tail (IsPosition d) p ps is),
    )

-- a level with these points and rings
pub record HasPoints (d : Dimension) (kind : ℕ) (ps : List Position) (rings : List (ℕ × ℕ)) : Type 0 where
  pub known : IsTrue (is_kind kind)
  pub pointed : has_points kind ≡ true
  pub all : All (IsPosition d) ps
  pub single : kind ≡ 1 → length ps ≤ 1
  pub chained : has_rings kind ≡ true → AreChained 0 (length ps) rings
  pub no_rings : has_rings kind ≡ false → rings ≡ []
  pub few_points : length ps ≤ 268435456
  pub few_rings : length rings ≤ 268435456

pub level_with_points : (d : Dimension) (kind : ℕ) (ps : List Position) (rings : List (ℕ × ℕ)) → HasPoints d kind ps rings → IsLevel (shape_of_points kind d ps rings)
level_with_points d kind ps rings h =
    let xy : Position → ℕ × ℕ = λ p. (p.x, p.y) in
    let many : length ps ≡ length (map xy ps) = sym (length-map ps xy) in
    let so = all_so d ps h.all in
    record {
      known = h.known;
      points = All-map IsPoint xy ps (All-weaker (IsPosition d) (λ p. IsPoint (xy p)) (point_of d) ps h.all);
      single = λ one. omega (arith, many, h.single one);
      chained = λ has. subst (λ n. AreChained 0 n rings) many (h.chained has);
      z = subst (λ n. IsBeside n (lists_of d ps).z) many (z_beside d.z d.m ps so);
      m = subst (λ n. IsBeside n (lists_of d ps).m) many (m_beside d.z d.m ps so);
      t' = beside_none (length (map xy ps));
      tm = beside_none (length (map xy ps));
      polygons = λ six. All-nil (λ (part : Shape). type_in part ≡ 3);
      no_points = λ has. absurd (both_ways (has_points kind) has h.pointed);
      no_rings = h.no_rings;
      no_parts = λ has. refl;
      few_points = omega (arith, many, h.few_points);
      few_rings = h.few_rings;
      few_parts = omega arith;
    }

-- rings along lines follow one another
along_chained : (first : ℕ) (lines : List (List Position)) → AreChained first (first + length (joined lines)) (rings_along first lines)
along_chained first [] = omega arith
along_chained first (ps ∷ rest) =
    let far : first + length ps + length (joined rest) ≡ first + length (ps ++ joined rest) = omega (arith, length-append ps (joined rest)) in
    (refl, omega arith, subst (λ n. AreChained (first + length ps) n (rings_along (first + length ps) rest)) far (along_chained (first + length ps) rest))

pub lines_chained : (lines : List (List Position)) → AreChained 0 (length (joined lines)) (rings_along 0 lines)
lines_chained lines =
    let same : 0 + length (joined lines) ≡ length (joined lines) = omega arith in
    subst (λ n. AreChained 0 n (rings_along 0 lines)) same (along_chained 0 lines)

pub length-rings_along : (first : ℕ) (lines : List (List Position)) → length (rings_along first lines) ≡ length lines
length-rings_along first [] = refl
length-rings_along first (ps ∷ rest) = ap suc (length-rings_along (first + length ps) rest)
