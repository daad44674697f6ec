-- A rule is broken at a place that is not behind the bytes.
use Rattle.std.proofs.Common.{◌≡◌, ℕ, ◌+◌, ◌≤◌, Bool, true, false, List, ◌++◌, length, take, ap, arith, length-append}
use Rattle.std.specs.List.{flat_map}
use Rattle.std.proofs.lemmas.List.{length-take}
use Rattle.flat_layout.specs.declared.Rule.{Rule}
use Rattle.wkb_writer.specs.declared.dialect.Dialect.{Dialect}
use Rattle.wkb_writer.specs.declared.dialect.Dialect.TheVariants.{Iso}
use Rattle.wkb_writer.specs.declared.dimension.Dimension.{Dimension}
use Rattle.wkb_grammar.specs.Grammar.{IsLine, IsPosition, Order, Position, Spelling, bytes_of, head_in, srid_in, line_bytes_in, number_bytes, position_bytes}
use Rattle.wkb_grammar.specs.Wkb.{most_bytes}
use Rattle.wkb_grammar.proofs.Sizes.{length-head, length-number, position_long}
use Rattle.wkb_reader.specs.Broken.{BreaksBody, BreaksCounted, BreaksFinite, BreaksFront, BreaksHead, BreaksPosition, BreaksValue, Standing, alone, bad_x, bad_y, cut, empty_member, in_body, in_head, in_line, in_member, in_point, in_polygon, in_thing, in_value, misfit, no_count, no_members, no_order, no_srid, no_type, not_finite, other_order, other_type, too_deep, too_long}

finite_place : (p : Position) (q : ℕ) (r : Rule) → BreaksFinite p q r → q ≤ 8
finite_place p q r (bad_x bad) = omega arith
finite_place p q r (bad_y good bad) = omega arith

position_place : (o : Order) (d : Dimension) (e : Bool) (b : List ℕ) (q : ℕ) (r : Rule) → BreaksPosition o d e b q r → q ≤ length b
position_place o d e b q r (cut i early low high) = low
position_place o d e b q r (not_finite p rest same is somewhere broken) =
    omega (arith, finite_place p q r broken, ap length same, length-append (position_bytes o p) rest, position_long o p)

counted_place : {A : Type 0} (o : Order) (Is : A → Type 0) (bytes : A → List ℕ) (Breaks : List ℕ → ℕ → Rule → Type 0) → ((rest : List ℕ) (q : ℕ) (r : Rule) → Breaks rest q r → q ≤ length rest)
    → (b : List ℕ) (q : ℕ) (r : Rule) → BreaksCounted o Is bytes Breaks b q r → q ≤ length b
counted_place o Is bytes Breaks inside b q r (no_count short) = omega arith
counted_place o Is bytes Breaks inside b q r (in_thing {q = p} {r = s} count front rest small same early are broken) =
    omega (
      arith,
      inside rest p s broken,
      ap length same,
      length-append (number_bytes o 4 count) (flat_map bytes front ++ rest),
      length-append (number_bytes o 4 count ++ flat_map bytes front) rest,
      length-append (number_bytes o 4 count) (flat_map bytes front),
      length-append (flat_map bytes front) rest,
      length-number o 4 count,
    )

line_place : (o : Order) (d : Dimension) (b : List ℕ) (q : ℕ) (r : Rule) → BreaksCounted o (IsPosition d) (position_bytes o) (BreaksPosition o d false) b q r → q ≤ length b
line_place o d = counted_place o (IsPosition d) (position_bytes o) (BreaksPosition o d false) (position_place o d false)

head_place : (dialect : Dialect) (level : ℕ) (standing : Standing) (b : List ℕ) (q : ℕ) (r : Rule) → BreaksHead dialect level standing b q r → q ≤ length b
head_place dialect level standing b q r (no_order none) = omega arith
head_place dialect level standing b q r (other_order first rest same high) = omega arith
head_place dialect level standing b q r (too_deep order rest same deep) = omega arith
head_place dialect level standing b q r (no_type order rest same high short) = omega (arith, ap length same)
head_place dialect level standing b q r (other_type order number rest same high low other) = omega (arith, ap length same)
head_place dialect level standing b q r (misfit s kind d rest same high is fits) = omega arith
head_place dialect level standing b q r (no_srid s kind d rest same high is suits has short) =
    omega (arith, ap length same, length-append (head_in s kind) rest, length-head s kind)

head_long : (s : Spelling) (kind : ℕ) (rest b : List ℕ) → b ≡ head_in s kind ++ (srid_in s ++ rest) → length b ≡ 5 + length (srid_in s) + length rest
head_long s kind rest b same = omega (arith, ap length same, length-append (head_in s kind) (srid_in s ++ rest), length-append (srid_in s) rest, length-head s kind)

mutual
  value_place : (dialect : Dialect) (level : ℕ) (standing : Standing) (b : List ℕ) (q : ℕ) (r : Rule) → BreaksValue dialect level standing b q r → q ≤ length b
  value_place dialect level standing b q r (in_head broken) = head_place dialect level standing b q r broken
  value_place dialect level standing b q r (empty_member s d p rest same high is spelled nowhere) = omega arith
  value_place dialect level standing b q r (in_body {q = p} s kind d rest same high is suits broken) =
      omega (arith, body_place dialect level s.order kind d rest p r broken, head_long s kind rest b same)

  body_place : (dialect : Dialect) (level : ℕ) (order : Order) (kind : ℕ) (d : Dimension) (b : List ℕ) (q : ℕ) (r : Rule) → BreaksBody dialect level order kind d b q r → q ≤ length b
  body_place dialect level order kind d b q r (in_point broken) = position_place order d true b q r broken
  body_place dialect level order kind d b q r (in_line broken) = line_place order d b q r broken
  body_place dialect level order kind d b q r (in_polygon broken) =
      counted_place order (IsLine d) (line_bytes_in order) (BreaksCounted order (IsPosition d) (position_bytes order) (BreaksPosition order d false)) (line_place order d) b q r broken
  body_place dialect level order kind d b q r (no_members multi short) = omega arith
  body_place dialect level order kind d b q r (in_member {q = p} multi count front rest small same early are broken) =
      omega (
        arith,
        value_place _ _ _ rest p r broken,
        ap length same,
        length-append (number_bytes order 4 count) (flat_map bytes_of front ++ rest),
        length-append (number_bytes order 4 count ++ flat_map bytes_of front) rest,
        length-append (number_bytes order 4 count) (flat_map bytes_of front),
        length-append (flat_map bytes_of front) rest,
        length-number order 4 count,
      )

-- the front of the bytes
pub front_place : (b : List ℕ) (q : ℕ) (r : Rule) → BreaksFront b q r → q ≤ length b
front_place b q r (too_long long broken) = omega arith
front_place b q r (in_value many broken) = omega (arith, value_place Iso 1 alone (take most_bytes b) q r broken, length-take most_bytes b)
