-- A shape and the list of its parts.
use Rattle.std.proofs.Common.{◌≡◌, ℕ, ◌+◌, max, List, [], ◌∷◌, ◌++◌, refl, ap, arith}
use Rattle.std.specs.List.{All}
use Rattle.std.proofs.lemmas.List.Elements.{All-head, All-tail}
use Rattle.fgb_schema.specs.Shapes.{Shape, shape, Shapes, none, more, shapes_of, Ordinates, type_in, points_in, rings_in, ordinates_in, parts_in}
use Rattle.geometry_view.specs.declared.kind.Ordinate.{Ordinate}
use Rattle.owned_shape.specs.Puts.{with_ordinates, with_part, with_points}
use Rattle.owned_shape.specs.Records.{depth, deepest, IsLevel, IsSound, AreSound}

-- the parts of a shape that is made of a list of them
pub parts_listed : (kind : ℕ) (own rings : List (ℕ × ℕ)) (lists : Ordinates) (parts : List Shape) → parts_in (shape kind own rings lists (shapes_of parts)) ≡ parts
parts_listed kind own rings lists [] = refl
parts_listed kind own rings lists (part ∷ rest) = ap (λ xs. part ∷ xs) (parts_listed kind own rings lists rest)

pub shapes_listed : (kind : ℕ) (own rings : List (ℕ × ℕ)) (lists : Ordinates) (parts : Shapes) → shapes_of (parts_in (shape kind own rings lists parts)) ≡ parts
shapes_listed kind own rings lists none = refl
shapes_listed kind own rings lists (more first rest) = ap (more first) (shapes_listed kind own rings lists rest)

-- a shape is what it is made of
pub whole : (s : Shape) → shape (type_in s) (points_in s) (rings_in s) (ordinates_in s) (shapes_of (parts_in s)) ≡ s
whole (shape kind own rings lists parts) = ap (shape kind own rings lists) (shapes_listed kind own rings lists parts)

pub made_of : (s : Shape) (kind : ℕ) (own rings : List (ℕ × ℕ)) (lists : Ordinates) (parts : List Shape)
    → kind ≡ type_in s → own ≡ points_in s → rings ≡ rings_in s → lists ≡ ordinates_in s → parts ≡ parts_in s → shape kind own rings lists (shapes_of parts) ≡ s
made_of s kind own rings lists parts e1 e2 e3 e4 e5 = rw (e1, e2, e3, e4, e5) (whole s)

-- each part is sound
are_sound : (kind : ℕ) (own rings : List (ℕ × ℕ)) (lists : Ordinates) (parts : Shapes) → All IsSound (parts_in (shape kind own rings lists parts)) → AreSound parts
are_sound kind own rings lists none all = tt
are_sound kind own rings lists (more first rest) all =
    let others = parts_in (shape kind own rings lists rest) in
    (All-head IsSound first others all, are_sound kind own rings lists rest (All-tail IsSound first others all))

pub sound_of : (s : Shape) → IsLevel s → All IsSound (parts_in s) → IsSound s
sound_of (shape kind own rings lists parts) level all = (level, are_sound kind own rings lists parts all)

pub level_of : (s : Shape) → IsSound s → IsLevel s
level_of (shape kind own rings lists parts) sound = sound.0

-- one part more
pub sound-more : (parts : List Shape) (part : Shape) → AreSound (shapes_of parts) → IsSound part → AreSound (shapes_of (parts ++ part ∷ []))
sound-more [] part sound new = (new, tt)
sound-more (first ∷ rest) part sound new = (sound.0, sound-more rest part sound.1 new)

pub deepest-more : (parts : List Shape) (part : Shape) → deepest (shapes_of (parts ++ part ∷ [])) ≡ max (deepest (shapes_of parts)) (depth part)
deepest-more [] part = omega arith
deepest-more (first ∷ rest) part = omega (arith, deepest-more rest part)

-- how deep a shape is with more in it
pub depth_with_part : (s part : Shape) → depth (with_part s part) ≡ max (depth s) (depth part + 1)
depth_with_part (shape kind own rings lists parts) part =
    omega (arith, deepest-more (parts_in (shape kind own rings lists parts)) part, ap deepest (shapes_listed kind own rings lists parts))

pub depth_with_points : (s : Shape) (later : List (ℕ × ℕ)) → depth (with_points s later) ≡ depth s
depth_with_points (shape kind own rings lists parts) later = refl

pub depth_with_ordinates : (s : Shape) (which : Ordinate) (list : List ℕ) → depth (with_ordinates s which list) ≡ depth s
depth_with_ordinates (shape kind own rings lists parts) which list = refl
