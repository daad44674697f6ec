-- The values byte by byte are WKB values.
use Rattle.std.proofs.Common.{inl, inr, ◌^◌, ◌<◌, true, false, [], ◌∷◌, Some, None, refl, arith}
use Rattle.std.proofs.lemmas.List.Elements.{All-from_recursion}
use Rattle.wkb_writer.specs.declared.dimension.Dimension.{Dimension}
use Rattle.wkb_writer.specs.Dimensions.{flat}
use Rattle.wkb_writer.specs.Wkb.{nowhere}
use Rattle.wkb_grammar.specs.Grammar.{Order, big, little, Spelling, Position, ordinates_of, value, point, multi, nothing, also, IsSpelled, IsPosition, IsHead, IsValue}
use Rattle.wkb_grammar.specs.Wkb.{Ewkb, Wkb}
use Rattle.wkb_grammar.specs.Rows.{one, two, one_two, one_two_twice, one_two_one, no_point, little_point, big_point, mixed_points, point_with_z, nan_point, point_with_srid, point_with_flag}

abbrev at_one_two : Position
at_one_two = record { x = one; y = two; beside = [] }

abbrev at_nowhere : Position
at_nowhere = record { x = nowhere; y = nowhere; beside = [] }

abbrev with_z : Dimension
with_z = record { z = true; m = false }

abbrev at_one_two_one : Position
at_one_two_one = record { x = one; y = two; beside = one ∷ [] }

one_two_is : IsPosition flat at_one_two
one_two_is = record {
  spelled = record {
    patterns = All-from_recursion (λ x. x < 2 ^ 64) (ordinates_of at_one_two) (omega arith, (omega arith, tt));
    enough = refl;
  };
  finite_x = refl;
  finite_y = refl;
}

one_two_one_is : IsPosition with_z at_one_two_one
one_two_one_is = record {
  spelled = record {
    patterns = All-from_recursion (λ x. x < 2 ^ 64) (ordinates_of at_one_two_one) (omega arith, (omega arith, (omega arith, tt)));
    enough = refl;
  };
  finite_x = refl;
  finite_y = refl;
}

nowhere_is : IsSpelled flat at_nowhere
nowhere_is = record {
  patterns = All-from_recursion (λ x. x < 2 ^ 64) (ordinates_of at_nowhere) (omega arith, (omega arith, tt));
  enough = refl;
}

-- a head of WKB of a dimension
abbrev plain : Order → Dimension → Spelling
plain order d = record { order = order; thousands = d; flags = flat; srid = None }

says : (order : Order) (d : Dimension) → IsHead (plain order d) d
says order d = record { says = refl; srid = tt }

pub little_row : Wkb one_two little_point
little_row = record {
  spelled = value (plain little flat) flat (point at_one_two);
  dimension = flat;
  is = (refl, inl one_two_is, says _ _);
  speaks = ((refl, refl), tt);
  spells = refl;
  shown = refl;
  shallow = omega arith;
  small = omega arith;
}

pub big_row : Wkb one_two big_point
big_row = record {
  spelled = value (plain big flat) flat (point at_one_two);
  dimension = flat;
  is = (refl, inl one_two_is, says _ _);
  speaks = ((refl, refl), tt);
  spells = refl;
  shown = refl;
  shallow = omega arith;
  small = omega arith;
}

-- the members of the MultiPoint
mixed_is : IsValue flat (value (plain big flat) flat (multi 4 (also (value (plain little flat) flat (point at_one_two)) (also (value (plain big flat) flat (point at_one_two)) nothing))))
mixed_is = (refl, (refl, (refl, (refl, inl one_two_is, says _ _), (refl, (refl, inl one_two_is, says _ _), tt)), omega arith), says _ _)

pub mixed_row : Wkb one_two_twice mixed_points
mixed_row = record {
  spelled = value (plain big flat) flat (multi 4 (also (value (plain little flat) flat (point at_one_two)) (also (value (plain big flat) flat (point at_one_two)) nothing)));
  dimension = flat;
  is = mixed_is;
  speaks = ((refl, refl), (((refl, refl), tt), (((refl, refl), tt), tt)));
  spells = refl;
  shown = refl;
  shallow = omega arith;
  small = omega arith;
}

pub z_row : Wkb one_two_one point_with_z
z_row = record {
  spelled = value (plain little with_z) with_z (point at_one_two_one);
  dimension = with_z;
  is = (refl, inl one_two_one_is, says _ _);
  speaks = ((refl, refl), tt);
  spells = refl;
  shown = refl;
  shallow = omega arith;
  small = omega arith;
}

pub empty_row : Wkb no_point nan_point
empty_row = record {
  spelled = value (plain little flat) flat (point at_nowhere);
  dimension = flat;
  is = (refl, inr (nowhere_is, refl), says _ _);
  speaks = ((refl, refl), tt);
  spells = refl;
  shown = refl;
  shallow = omega arith;
  small = omega arith;
}

pub srid_row : Ewkb one_two point_with_srid
srid_row = record {
  spelled = value (record { order = little; thousands = flat; flags = flat; srid = Some 4326 }) flat (point at_one_two);
  dimension = flat;
  is = (refl, inl one_two_is, record { says = refl; srid = omega arith });
  speaks = (tt, tt);
  spells = refl;
  shown = refl;
  shallow = omega arith;
  small = omega arith;
}

pub flag_row : Ewkb one_two_one point_with_flag
flag_row = record {
  spelled = value (record { order = little; thousands = flat; flags = with_z; srid = None }) with_z (point at_one_two_one);
  dimension = with_z;
  is = (refl, inl one_two_one_is, record { says = refl; srid = tt });
  speaks = (tt, tt);
  spells = refl;
  shown = refl;
  shallow = omega arith;
  small = omega arith;
}
