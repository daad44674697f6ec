-- Points that are put behind others.
use Rattle.std.proofs.Common.{◌≡◌, ℕ, ◌*◌, ◌%◌, ◌≤◌, Bool, true, false, IsTrue, List, [], ◌∷◌, ◌++◌, length, take, drop, Option, Some, None, option_to_list, if◌then◌else◌, refl, sym, ap, subst, ◌∙◌, append_assoc, append-nil, arith}
use Rattle.std.specs.List.{All, flat_map}
use Rattle.std.proofs.lemmas.Bool.{both_ways}
use Rattle.std.proofs.lemmas.List.Concat.{flat_map-append}
use Rattle.std.proofs.lemmas.List.Elements.{All-nil, All-cons, All-head, All-tail}
use Rattle.order_keys.specs.Keys.{is_finite}
use Rattle.fgb_schema.specs.Shapes.{shape, none, no_ordinates, pairs_of}
use Rattle.fgb_schema.specs.Tables.{has_points, has_rings, is_kind}
use Rattle.owned_shape.specs.Records.{IsLevel, IsPoint}
use Rattle.wkb_writer.specs.declared.dimension.Dimension.{Dimension}
use Rattle.wkb_grammar.specs.Grammar.{Position, IsPosition}
use Rattle.wkb_grammar.specs.ShapesShown.{lists_of, shape_of_points}
use Rattle.wkb_grammar.proofs.Levels.{HasPoints, level_with_points}
use Rattle.wkb_reader.specs.declared.points.Points.{Points}
use Rattle.wkb_reader.specs.declared.points.Position.{Position as ReadPosition}
use Rattle.wkb_reader.specs.Gathered.{Adds, AddsBeside, IsFor, corners, gathered, position_of, xy_of}

-- what was put behind what was put there
pub grown : {A : Type 0} (a b c x y w : List A) → b ≡ a ++ x → c ≡ b ++ y → w ≡ x ++ y → c ≡ a ++ w
grown a b c x y w first next both = next ∙ ap (λ l. l ++ y) first ∙ append_assoc a x y ∙ ap (λ l. a ++ l) (sym both)

flagged : (f : Position → List ℕ) (flag : Bool) (ps qs : List Position)
    → (if flag then flat_map f (ps ++ qs) else []) ≡ (if flag then flat_map f ps else []) ++ (if flag then flat_map f qs else [])
flagged f true ps qs = flat_map-append f ps qs
flagged f false ps qs = refl

unflagged : (flag : Bool) → ◌≡◌ {A = List ℕ} (if flag then [] else []) []
unflagged true = refl
unflagged false = refl

module _ (d : Dimension) where
  pub z_of_both : (ps qs : List Position) → (lists_of d (ps ++ qs)).z ≡ (lists_of d ps).z ++ (lists_of d qs).z
  z_of_both ps qs = flagged (λ p. take 1 p.beside) d.z ps qs

  pub m_of_both : (ps qs : List Position) → (lists_of d (ps ++ qs)).m ≡ (lists_of d ps).m ++ (lists_of d qs).m
  m_of_both ps qs = flagged (λ p. drop (if d.z then 1 else 0) p.beside) d.m ps qs

  pub z_of_none : (lists_of d []).z ≡ []
  z_of_none = unflagged d.z

  pub m_of_none : (lists_of d []).m ≡ []
  m_of_none = unflagged d.m

  pub adds_none : (a b : Points) → b.xy.items ≡ a.xy.items → b.z.items ≡ a.z.items → b.m.items ≡ a.m.items → Adds d a b []
  adds_none a b xy z m = record {
    xy = xy ∙ sym (append-nil a.xy.items);
    beside = record {
      z = z ∙ sym (append-nil a.z.items) ∙ ap (λ l. a.z.items ++ l) (sym z_of_none);
      m = m ∙ sym (append-nil a.m.items) ∙ ap (λ l. a.m.items ++ l) (sym m_of_none);
    };
  }

  beside_more : (a b c : Points) (ps qs : List Position) → AddsBeside d a b ps → AddsBeside d b c qs → AddsBeside d a c (ps ++ qs)
  beside_more a b c ps qs first next = record {
    z = grown a.z.items b.z.items c.z.items (lists_of d ps).z (lists_of d qs).z (lists_of d (ps ++ qs)).z first.z next.z (z_of_both ps qs);
    m = grown a.m.items b.m.items c.m.items (lists_of d ps).m (lists_of d qs).m (lists_of d (ps ++ qs)).m first.m next.m (m_of_both ps qs);
  }

  pub adds_more : (a b c : Points) (ps qs : List Position) → Adds d a b ps → Adds d b c qs → Adds d a c (ps ++ qs)
  adds_more a b c ps qs first next = record {
    xy = grown a.xy.items b.xy.items c.xy.items (xy_of ps) (xy_of qs) (xy_of (ps ++ qs)) first.xy next.xy (flat_map-append (λ p. p.x ∷ p.y ∷ []) ps qs);
    beside = beside_more a b c ps qs first.beside next.beside;
  }

-- the z and the m of one point
z_of_one : (flag other : Bool) (z m : Option ℕ) → length (option_to_list z) ≡ (if flag then 1 else 0)
    → (if flag then take 1 (option_to_list z ++ option_to_list m) ++ [] else []) ≡ option_to_list z
z_of_one true other None m has = absurd (omega (arith, has))
z_of_one true other (Some x) m has = refl
z_of_one false other None m has = refl
z_of_one false other (Some x) m has = absurd (omega (arith, has))

m_of_one : (flag other : Bool) (z m : Option ℕ) → length (option_to_list z) ≡ (if other then 1 else 0) → length (option_to_list m) ≡ (if flag then 1 else 0)
    → (if flag then drop (if other then 1 else 0) (option_to_list z ++ option_to_list m) ++ [] else []) ≡ option_to_list m
m_of_one true true None m has holds = absurd (omega (arith, has))
m_of_one true true (Some x) m has holds = append-nil (option_to_list m)
m_of_one true false None m has holds = append-nil (option_to_list m)
m_of_one true false (Some x) m has holds = absurd (omega (arith, has))
m_of_one false other z None has holds = refl
m_of_one false other z (Some x) has holds = absurd (omega (arith, holds))

pub adds_one : (d : Dimension) (a b : Points) (p : ReadPosition) → IsFor d p → b.xy.items ≡ a.xy.items ++ p.x ∷ p.y ∷ [] → b.z.items ≡ a.z.items ++ option_to_list p.z
    → b.m.items ≡ a.m.items ++ option_to_list p.m → Adds d a b (position_of p ∷ [])
adds_one d a b p is xy z m = record {
  xy = xy;
  beside = record {
    z = z ∙ ap (λ l. a.z.items ++ l) (sym (z_of_one d.z d.m p.z p.m is.has_z));
    m = m ∙ ap (λ l. a.m.items ++ l) (sym (m_of_one d.m d.z p.z p.m is.has_z is.has_m));
  };
}

-- x and y by turns, in pairs
pub xy_pairs : (ps : List Position) → pairs_of (xy_of ps) ≡ corners ps
xy_pairs [] = refl
xy_pairs (p ∷ ps) = ap (λ rest. (p.x, p.y) ∷ rest) (xy_pairs ps)

pub length-xy : (ps : List Position) → length (xy_of ps) ≡ 2 * length ps
length-xy [] = refl
length-xy (p ∷ ps) = omega (arith, length-xy ps)

pub xy_finite : (d : Dimension) (ps : List Position) → All (IsPosition d) ps → All (λ x. IsTrue (is_finite x)) (xy_of ps)
xy_finite d [] is = All-nil (λ x. IsTrue (is_finite x))
xy_finite d (p ∷ ps) is =
    let first = All-head (IsPosition d) p ps is in
    All-cons (λ x. IsTrue (is_finite x)) p.x (p.y ∷ xy_of ps) first.finite_x
    (All-cons (λ x. IsTrue (is_finite x)) p.y (xy_of ps) first.finite_y (xy_finite d ps (All-tail (IsPosition d) p ps is)))

-- of pairs of numbers, each number
pub pairs_finite : (xs : List ℕ) → length xs % 2 ≡ 0 → All IsPoint (pairs_of xs) → All (λ x. IsTrue (is_finite x)) xs
pairs_finite [] even points = All-nil (λ x. IsTrue (is_finite x))
pairs_finite (x ∷ []) even points = absurd (omega arith)
pairs_finite (x ∷ y ∷ rest) even points =
    let first = All-head IsPoint (x, y) (pairs_of rest) points in
    All-cons (λ z. IsTrue (is_finite z)) x (y ∷ rest) first.0.0
    (All-cons (λ z. IsTrue (is_finite z)) y rest first.1.0 (pairs_finite rest (omega arith) (All-tail IsPoint (x, y) (pairs_of rest) points)))

-- the points of a level without rings
pub points_alone : (d : Dimension) (kind : ℕ) (ps : List Position) → IsTrue (is_kind kind) → has_points kind ≡ true → has_rings kind ≡ false → All (IsPosition d) ps
    → (kind ≡ 1 → length ps ≤ 1) → length ps ≤ 268435456 → HasPoints d kind ps []
points_alone d kind ps known pointed ringless all single few = record {
  known = known;
  pointed = pointed;
  all = all;
  single = single;
  chained = λ has. absurd (both_ways (has_rings kind) ringless has);
  no_rings = λ has. refl;
  few_points = few;
  few_rings = omega arith;
}

-- points that were put behind none, as a shape
module _ (kind : ℕ) (d : Dimension) (a b : Points) (ps : List Position) (no_xy : a.xy.items ≡ []) (no_z : a.z.items ≡ []) (no_m : a.m.items ≡ []) (adds : Adds d a b ps) where
  gathered_xy : b.xy.items ≡ xy_of ps
  gathered_xy = adds.xy ∙ ap (λ l. l ++ xy_of ps) no_xy

  pub gathered_even : length b.xy.items % 2 ≡ 0
  gathered_even = omega (arith, ap length gathered_xy, length-xy ps)

  pub shape_gathered : gathered kind b ≡ shape_of_points kind d ps []
  shape_gathered =
      let z : b.z.items ≡ (lists_of d ps).z = adds.beside.z ∙ ap (λ l. l ++ (lists_of d ps).z) no_z in
      let m : b.m.items ≡ (lists_of d ps).m = adds.beside.m ∙ ap (λ l. l ++ (lists_of d ps).m) no_m in
      let points : pairs_of b.xy.items ≡ corners ps = ap pairs_of gathered_xy ∙ xy_pairs ps in
      λ i. shape kind (points i) [] (record { z = z i; m = m i; t = []; tm = [] }) none

  pub gathered_level : HasPoints d kind ps [] → IsLevel (gathered kind b)
  gathered_level has = subst IsLevel (sym shape_gathered) (level_with_points d kind ps [] has)

-- no ordinates of no points
pub lists_of_none : (d : Dimension) → lists_of d [] ≡ no_ordinates
lists_of_none d = λ i. record { z = z_of_none d i; m = m_of_none d i; t = []; tm = [] }
