-- The points of a shape as positions, and back.
use Rattle.std.proofs.Common.{◌≡◌, ℕ, suc, ◌^◌, ◌<◌, nat_lt, inl, inr, Bool, true, false, List, [], ◌∷◌, ◌++◌, length, map, take, drop, if◌then◌else◌, refl, sym, ap, ◌∙◌, arith, length-append}
use Rattle.std.specs.List.{All, flat_map}
use Rattle.std.proofs.lemmas.Bool.{cases_lt, ltb-true, ltb-false}
use Rattle.std.proofs.lemmas.List.{nil_from_length}
use Rattle.std.proofs.lemmas.List.Elements.{All-nil, All-cons, All-head, All-tail, All-append, All-take, All-drop}
use Rattle.fgb_schema.specs.Shapes.{Ordinates}
use Rattle.owned_shape.specs.Records.{IsPoint, IsBeside}
use Rattle.wkb_writer.specs.declared.dimension.Dimension.{Dimension}
use Rattle.wkb_writer.specs.Wkb.{rows}
use Rattle.wkb_grammar.specs.Grammar.{Position, ordinates_of, IsPosition}
use Rattle.wkb_grammar.specs.ShapesShown.{lists_of}

-- points, each with its z and its m
abbrev pub positions : List (ℕ × ℕ) → List ℕ → List ℕ → List Position
positions [] z m = []
positions (p ∷ points) z m = record { x = p.0; y = p.1; beside = take 1 z ++ take 1 m } ∷ positions points (drop 1 z) (drop 1 m)

pub rows_are : (own : List (ℕ × ℕ)) (z m : List ℕ) → rows own z m ≡ map ordinates_of (positions own z m)
rows_are [] z m = refl
rows_are (p ∷ own) z m = ap (λ rest. (p.0 ∷ p.1 ∷ take 1 z ++ take 1 m) ∷ rest) (rows_are own (drop 1 z) (drop 1 m))

pub length-positions : (own : List (ℕ × ℕ)) (z m : List ℕ) → length (positions own z m) ≡ length own
length-positions [] z m = refl
length-positions (p ∷ own) z m = ap suc (length-positions own (drop 1 z) (drop 1 m))

pub points_back : (own : List (ℕ × ℕ)) (z m : List ℕ) → map (λ p. (p.x, p.y)) (positions own z m) ≡ own
points_back [] z m = refl
points_back (p ∷ own) z m = ap (λ rest. p ∷ rest) (points_back own (drop 1 z) (drop 1 m))

-- a list of the dimension has a number for each point, another has none
abbrev pub IsFor : Bool → ℕ → List ℕ → Type 0
IsFor flag points list = length list ≡ (if flag then points else 0)

pub is_for : (flag : Bool) (points : ℕ) (list : List ℕ) → IsBeside points list → (0 < points → nat_lt 0 (length list) ≡ flag) → IsFor flag points list
is_for true points list beside told = elim (cases_lt 0 (length list)) [
  | inl some ↦ beside.0 some
  | inr nothing ↦ elim (cases_lt 0 points) [
    | inl more ↦ absurd (omega (arith, ltb-true 0 (length list) (told more)))
    | inr no_points ↦ omega arith
  ]
]
is_for false points list beside told = elim (cases_lt 0 (length list)) [
  | inl some ↦
      let same = beside.0 some in
      omega (arith, ltb-false 0 (length list) (told (omega (arith, same))))
  | inr nothing ↦ omega arith
]

-- what is left behind the first point
for_rest : (flag : Bool) (points : ℕ) (list : List ℕ) → IsFor flag (suc points) list → IsFor flag points (drop 1 list)
for_rest true points [] even = absurd (omega arith)
for_rest true points (x ∷ list) even = omega arith
for_rest false points [] even = refl
for_rest false points (x ∷ list) even = absurd (omega arith)

for_first : (flag : Bool) (points : ℕ) (list : List ℕ) → IsFor flag (suc points) list → length (take 1 list) ≡ (if flag then 1 else 0)
for_first true points [] even = absurd (omega arith)
for_first true points (x ∷ list) even = refl
for_first false points [] even = refl
for_first false points (x ∷ list) even = absurd (omega arith)

-- numbers of points with as many ordinates as the dimension says are positions of it
pub positions_are : (d : Dimension) (own : List (ℕ × ℕ)) (z m : List ℕ) → All IsPoint own → IsFor d.z (length own) z → IsFor d.m (length own) m
    → All (λ x. x < 2 ^ 64) z → All (λ x. x < 2 ^ 64) m → All (IsPosition d) (positions own z m)
positions_are d [] z m points for_z for_m small_z small_m = All-nil (IsPosition d)
positions_are d (p ∷ own) z m points for_z for_m small_z small_m =
    let first : IsPoint p = All-head IsPoint p own points in
    let small : ℕ → Type 0 = λ x. x < 2 ^ 64 in
    let beside = All-append small (take 1 z) (take 1 m) (All-take small 1 z small_z) (All-take small 1 m small_m) in
    All-cons (IsPosition d) (record { x = p.0; y = p.1; beside = take 1 z ++ take 1 m }) (positions own (drop 1 z) (drop 1 m))
    (record {
      spelled = record {
        patterns = All-cons small p.0 (p.1 ∷ (take 1 z ++ take 1 m)) first.0.1 (All-cons small p.1 (take 1 z ++ take 1 m) first.1.1 beside);
        enough = length-append (take 1 z) (take 1 m) ∙ omega (arith, for_first d.z (length own) z for_z, for_first d.m (length own) m for_m);
      };
      finite_x = first.0.0;
      finite_y = first.1.0;
    })
    (positions_are d own (drop 1 z) (drop 1 m) (All-tail IsPoint p own points) (for_rest d.z (length own) z for_z) (for_rest d.m (length own) m for_m)
    (All-drop small 1 z small_z) (All-drop small 1 m small_m))

-- the lists of ordinates, back from the positions
z_whole : (own : List (ℕ × ℕ)) (z m : List ℕ) → length z ≡ length own → flat_map (λ p. take 1 p.beside) (positions own z m) ≡ z
z_whole [] z m even = sym (nil_from_length z even)
z_whole (p ∷ own) [] m even = absurd (omega arith)
z_whole (p ∷ own) (x ∷ z) m even = ap (λ rest. x ∷ rest) (z_whole own z (drop 1 m) (omega arith))

m_behind_z : (own : List (ℕ × ℕ)) (z m : List ℕ) → length z ≡ length own → length m ≡ length own → flat_map (λ p. drop 1 p.beside) (positions own z m) ≡ m
m_behind_z [] z m even same = sym (nil_from_length m same)
m_behind_z (p ∷ own) [] m even same = absurd (omega arith)
m_behind_z (p ∷ own) (x ∷ z) [] even same = absurd (omega arith)
m_behind_z (p ∷ own) (x ∷ z) (y ∷ m) even same = ap (λ rest. y ∷ rest) (m_behind_z own z m (omega arith) (omega arith))

m_alone : (own : List (ℕ × ℕ)) (m : List ℕ) → length m ≡ length own → flat_map (λ p. drop 0 p.beside) (positions own [] m) ≡ m
m_alone [] m even = sym (nil_from_length m even)
m_alone (p ∷ own) [] even = absurd (omega arith)
m_alone (p ∷ own) (y ∷ m) even = ap (λ rest. y ∷ rest) (m_alone own m (omega arith))

z_back : (flag : Bool) (own : List (ℕ × ℕ)) (z m : List ℕ) → IsFor flag (length own) z → (if flag then flat_map (λ p. take 1 p.beside) (positions own z m) else []) ≡ z
z_back true own z m for_z = z_whole own z m for_z
z_back false own z m for_z = sym (nil_from_length z for_z)

m_back : (flag other : Bool) (own : List (ℕ × ℕ)) (z m : List ℕ) → IsFor other (length own) z → IsFor flag (length own) m
    → (if flag then flat_map (λ p. drop (if other then 1 else 0) p.beside) (positions own z m) else []) ≡ m
m_back true true own z m for_z for_m = m_behind_z own z m for_z for_m
m_back true false own z m for_z for_m =
    ap (λ list. flat_map (λ p. drop 0 p.beside) (positions own list m)) (nil_from_length z for_z) ∙ m_alone own m for_m
m_back false other own z m for_z for_m = sym (nil_from_length m for_m)

pub lists_back : (d : Dimension) (own : List (ℕ × ℕ)) (lists : Ordinates) → IsFor d.z (length own) lists.z → IsFor d.m (length own) lists.m → lists.t ≡ [] → lists.tm ≡ []
    → lists_of d (positions own lists.z lists.m) ≡ lists
lists_back d own lists for_z for_m no_t no_tm =
    let z = z_back d.z own lists.z lists.m for_z in
    let m = m_back d.m d.z own lists.z lists.m for_z for_m in
    λ i. record { z = z i; m = m i; t = sym no_t i; tm = sym no_tm i }
