-- A shape that is owned can stand in a file, in the words of the crate that lays it.
use Rattle.std.proofs.Common.{◌≡◌, ℕ, ◌+◌, ◌≤◌, max, List, [], ◌∷◌, refl, ap, ap₂, subst}
use Rattle.fgb_schema.specs.Shapes.{Shape, shape, Shapes, none, more}
use Rattle.shape_tables.specs.Records.{AreChained as AreFollowing, IsLevel as IsOneLevel, IsSound as IsSoundShape, AreSound as AreSoundShapes, IsRecord as CanStand, depth as levels, deepest as most_levels}
use Rattle.owned_shape.specs.Records.{AreChained, AreSound, IsLevel, IsRecord, IsSound, deepest, depth}

following : (first last : ℕ) (rings : List (ℕ × ℕ)) → AreChained first last rings → AreFollowing first last rings
following first last [] chained = chained
following first last (ring ∷ rest) chained = (chained.0, chained.1, following ring.1 last rest chained.2)

one_level : (s : Shape) → IsLevel s → IsOneLevel s
one_level (shape kind own rings ordinates parts) level = record {
  known = level.known;
  points = level.points;
  single = level.single;
  chained = λ has. following 0 _ rings (level.chained has);
  z = level.z;
  m = level.m;
  t' = level.t';
  tm = level.tm;
  polygons = level.polygons;
  no_points = level.no_points;
  no_rings = level.no_rings;
  no_parts = level.no_parts;
  few_points = level.few_points;
  few_rings = level.few_rings;
  few_parts = level.few_parts;
}

mutual
  sound : (s : Shape) → IsSound s → IsSoundShape s
  sound (shape kind own rings ordinates parts) is = (one_level (shape kind own rings ordinates parts) is.0, all_sound parts is.1)

  all_sound : (parts : Shapes) → AreSound parts → AreSoundShapes parts
  all_sound none are = tt
  all_sound (more first rest) are = (sound first are.0, all_sound rest are.1)

mutual
  same_depth : (s : Shape) → depth s ≡ levels s
  same_depth (shape kind own rings ordinates parts) = ap (λ n. n + 1) (same_deepest parts)

  same_deepest : (parts : Shapes) → deepest parts ≡ most_levels parts
  same_deepest none = refl
  same_deepest (more first rest) = ap₂ max (same_depth first) (same_deepest rest)

pub can_stand : (s : Shape) → IsRecord s → CanStand s
can_stand s is = record {
  sound = sound s is.sound;
  shallow = subst (λ n. n ≤ 16) (same_depth s) is.shallow;
}
