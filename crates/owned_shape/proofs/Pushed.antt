-- A shape stays a record when something is put into it.
use Rattle.std.proofs.Common.{◌≡◌, ℕ, ◌+◌, ◌<◌, ◌≤◌, ◌^◌, true, false, List, [], ◌∷◌, ◌++◌, length, IsTrue, ap, sym, subst, arith, length-append}
use Rattle.std.specs.List.{All}
use Rattle.std.proofs.lemmas.Bool.Decides.{nat_tests}
use Rattle.std.proofs.lemmas.List.Elements.{All-append, All-nil, All-push}
use Rattle.geometry_view.specs.declared.kind.Ordinate.{Ordinate}
use Rattle.geometry_view.specs.declared.kind.Ordinate.TheVariants.{Z, M, T, Tm}
use Rattle.fgb_schema.specs.Tables.{has_points, has_rings, has_parts}
use Rattle.fgb_schema.specs.Shapes.{Shape, shape, shapes_of, Ordinates, no_ordinates, type_in, points_in, rings_in, ordinates_in}
use Rattle.owned_shape.specs.Puts.{takes_part, with_list, with_ordinates, with_points}
use Rattle.owned_shape.specs.Records.{depth, IsBeside, IsPoint, IsRecord}
use Rattle.owned_shape.proofs.Chains.{chained-more}
use Rattle.owned_shape.proofs.Parts.{deepest-more, level_of, parts_listed, sound-more}

-- no ordinates are beside any points
bare : (points : ℕ) (list : List ℕ) → list ≡ [] → IsBeside points list
bare points list none = subst (IsBeside points) (sym none) ((λ some. absurd (omega (arith, some))), All-nil (λ x. x < 2 ^ 64))

-- types with parts have no points, and those with rings have points
no_parts_with : (kind : ℕ) → IsTrue (has_points kind) → has_parts kind ≡ false
no_parts_with kind points = grind (arith, nat_tests)

pub rings_have_points : (kind : ℕ) → has_rings kind ≡ true → has_points kind ≡ true
rings_have_points kind rings = grind (arith, nat_tests)

pub points_pushed : (s : Shape) (later : List (ℕ × ℕ)) → IsRecord s → All IsPoint later → IsTrue (has_points (type_in s)) → ordinates_in s ≡ no_ordinates
    → (type_in s ≡ 1 → length (points_in (with_points s later)) ≤ 1) → length (points_in (with_points s later)) ≤ 268435456 → length (rings_in (with_points s later)) ≤ 268435456
    → IsRecord (with_points s later)
points_pushed (shape kind own rings lists parts) later kept points known none single few_points few_rings =
    let level = level_of (shape kind own rings lists parts) kept.sound in
    let size = length-append own later in
    record {
      sound = (
        record {
          known = level.known;
          points = All-append IsPoint own later level.points points;
          single = single;
          chained = λ has. rw (has, size) (chained-more 0 (length own) (length own + length later) rings (level.chained has) (omega arith));
          z = bare (length (own ++ later)) lists.z (ap (λ (o : Ordinates). o.z) none);
          m = bare (length (own ++ later)) lists.m (ap (λ (o : Ordinates). o.m) none);
          t' = bare (length (own ++ later)) lists.t (ap (λ (o : Ordinates). o.t) none);
          tm = bare (length (own ++ later)) lists.tm (ap (λ (o : Ordinates). o.tm) none);
          polygons = level.polygons;
          no_points = λ lacks. absurd (cc (known, lacks));
          no_rings = λ lacks. rw lacks (level.no_rings lacks);
          no_parts = level.no_parts;
          few_points = few_points;
          few_rings = few_rings;
          few_parts = level.few_parts;
        },
        kept.sound.1,
      );
      shallow = kept.shallow;
    }

pub ordinates_set : (s : Shape) (which : Ordinate) (list : List ℕ) → IsRecord s → IsTrue (has_points (type_in s)) → IsBeside (length (points_in s)) list
    → IsRecord (with_ordinates s which list)
ordinates_set (shape kind own rings lists parts) which list kept known beside =
    let level = level_of (shape kind own rings lists parts) kept.sound in
    record {
      sound = (
        record {
          known = level.known;
          points = level.points;
          single = level.single;
          chained = level.chained;
          z = elim which as (λ w. IsBeside (length own) (with_list w list lists).z) [ Z ↦ beside | M ↦ level.z | T ↦ level.z | Tm ↦ level.z ];
          m = elim which as (λ w. IsBeside (length own) (with_list w list lists).m) [ Z ↦ level.m | M ↦ beside | T ↦ level.m | Tm ↦ level.m ];
          t' = elim which as (λ w. IsBeside (length own) (with_list w list lists).t) [ Z ↦ level.t' | M ↦ level.t' | T ↦ beside | Tm ↦ level.t' ];
          tm = elim which as (λ w. IsBeside (length own) (with_list w list lists).tm) [ Z ↦ level.tm | M ↦ level.tm | T ↦ level.tm | Tm ↦ beside ];
          polygons = level.polygons;
          no_points = λ lacks. absurd (cc (known, lacks));
          no_rings = level.no_rings;
          no_parts = level.no_parts;
          few_points = level.few_points;
          few_rings = level.few_rings;
          few_parts = level.few_parts;
        },
        kept.sound.1,
      );
      shallow = kept.shallow;
    }

-- what takes a part has parts, and a MultiPolygon takes Polygons
takes_some : (kind part : ℕ) → IsTrue (takes_part kind part) → has_parts kind ≡ true
takes_some kind part takes = grind (arith, nat_tests)

takes_polygon : (kind part : ℕ) → IsTrue (takes_part kind part) → kind ≡ 6 → part ≡ 3
takes_polygon kind part takes is = grind (arith, nat_tests)

pub part_pushed : (kind : ℕ) (own rings : List (ℕ × ℕ)) (lists : Ordinates) (parts : List Shape) (part : Shape)
    → IsRecord (shape kind own rings lists (shapes_of parts)) → IsRecord part → IsTrue (takes_part kind (type_in part)) → depth part ≤ 15 → length parts < 268435456
    → IsRecord (shape kind own rings lists (shapes_of (parts ++ part ∷ [])))
part_pushed kind own rings lists parts part kept new takes shallow few =
    let level = level_of (shape kind own rings lists (shapes_of parts)) kept.sound in
    let before = parts_listed kind own rings lists parts in
    let after = parts_listed kind own rings lists (parts ++ part ∷ []) in
    record {
      sound = (
        record {
          known = level.known;
          points = level.points;
          single = level.single;
          chained = level.chained;
          z = level.z;
          m = level.m;
          t' = level.t';
          tm = level.tm;
          polygons = λ is. rw after (All-push (λ p. type_in p ≡ 3) parts part (subst (All (λ p. type_in p ≡ 3)) before (level.polygons is)) (takes_polygon kind (type_in part) takes is));
          no_points = level.no_points;
          no_rings = level.no_rings;
          no_parts = λ lacks. absurd (cc (takes_some kind (type_in part) takes, lacks));
          few_points = level.few_points;
          few_rings = level.few_rings;
          few_parts = omega (arith, ap length after, length-append parts (part ∷ []), few);
        },
        sound-more parts part kept.sound.1 new.sound,
      );
      shallow = omega (arith, deepest-more parts part, kept.shallow, shallow);
    }
