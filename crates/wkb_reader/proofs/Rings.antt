-- Lines that are put into a shape, each as one more ring.
use Rattle.std.proofs.Common.{◌≡◌, ℕ, ◌+◌, ◌*◌, ◌≤◌, ◌<◌, true, List, [], ◌∷◌, ◌++◌, length, refl, sym, ap, ap₂, ◌∙◌, append-nil, zero-add, arith, length-append}
use Rattle.std.specs.List.{All, flat_map}
use Rattle.std.proofs.lemmas.List.{length-map, map-append}
use Rattle.std.proofs.lemmas.List.Elements.{All-append, All-head, All-nil, All-tail}
use Rattle.std.proofs.lemmas.List.Concat.{flat_map-append}
use Rattle.geometry_view.specs.declared.kind.Ordinate.TheVariants.{Z, M}
use Rattle.fgb_schema.specs.Tables.{has_rings}
use Rattle.fgb_schema.specs.Shapes.{Shape, shape, none, no_ordinates, points_in, rings_in, type_in}
use Rattle.owned_shape.specs.Puts.{with_ordinates, with_points}
use Rattle.owned_shape.specs.Records.{IsLevel}
use Rattle.wkb_writer.specs.declared.dimension.Dimension.{Dimension}
use Rattle.wkb_grammar.specs.Grammar.{Order, Position, IsPosition, line_bytes_in}
use Rattle.wkb_grammar.specs.ShapesShown.{joined, lists_of, rings_along, shape_of_points}
use Rattle.wkb_grammar.proofs.Levels.{length-rings_along, level_with_points}
use Rattle.wkb_grammar.proofs.Sizes.{lines_long}
use Rattle.wkb_grammar.proofs.Told.{concat-map}
use Rattle.wkb_reader.specs.declared.cursor.Cursor.{Cursor}
use Rattle.wkb_reader.specs.declared.points.Points.{Points}
use Rattle.wkb_reader.specs.Cursors.{Passes}
use Rattle.wkb_reader.specs.Gathered.{AddsRing, HasRings, corners}
use Rattle.wkb_reader.proofs.Lists.{grown, m_of_both, m_of_none, points_alone, z_of_both, z_of_none}

-- a line more
pub joined_more : (lines : List (List Position)) (ps : List Position) → joined (lines ++ ps ∷ []) ≡ joined lines ++ ps
joined_more lines ps = flat_map-append (λ l. l) lines (ps ∷ []) ∙ ap (λ l. joined lines ++ l) (append-nil ps)

rings_more : (first : ℕ) (lines : List (List Position)) (ps : List Position)
    → rings_along first (lines ++ ps ∷ []) ≡ rings_along first lines ++ (first + length (joined lines), first + length (joined lines) + length ps) ∷ []
rings_more first [] ps = ap (λ n. (n, n + length ps) ∷ []) (sym (omega arith))
rings_more first (qs ∷ lines) ps =
    let far : first + length qs + length (joined lines) ≡ first + length (qs ++ joined lines) = omega (arith, length-append qs (joined lines)) in
    ap (λ l. (first, first + length qs) ∷ l) (rings_more (first + length qs) lines ps)
    ∙ ap (λ n. (first, first + length qs) ∷ rings_along (first + length qs) lines ++ (n, n + length ps) ∷ []) far

pub length-corners : (ps : List Position) → length (corners ps) ≡ length ps
length-corners ps = length-map ps (λ p. (p.x, p.y))

corners_more : (lines : List (List Position)) (ps : List Position) → corners (joined lines) ++ corners ps ≡ corners (joined (lines ++ ps ∷ []))
corners_more lines ps = sym (map-append (λ p. (p.x, p.y)) (joined lines) ps) ∙ ap corners (sym (joined_more lines ps))

module _ (d : Dimension) (kind : ℕ) (ringed : has_rings kind ≡ true) where
  pub no_rings : (s : Shape) (kept : Points) → s ≡ shape kind [] [] no_ordinates none → kept.z.items ≡ [] → kept.m.items ≡ [] → HasRings d kind s kept []
  no_rings s kept bare no_z no_m = record { rings = bare; z = no_z ∙ sym (z_of_none d); m = no_m ∙ sym (m_of_none d) }

  pub one_ring_more : (s t : Shape) (kept still : Points) (lines : List (List Position)) (ps : List Position) → HasRings d kind s kept lines → AddsRing d s t kept still ps
      → HasRings d kind t still (lines ++ ps ∷ [])
  one_ring_more s t kept still lines ps has adds =
      let rings : rings_along 0 lines ++ (length (corners (joined lines)), length (corners (joined lines)) + length (corners ps)) ∷ [] ≡ rings_along 0 (lines ++ ps ∷ []) =
      ap₂ (λ n k. rings_along 0 lines ++ (n, n + k) ∷ []) (length-corners (joined lines) ∙ sym (zero-add (length (joined lines)))) (length-corners ps) ∙ sym (rings_more 0 lines ps) in
      record {
        rings = adds.line ∙ ap (λ u. with_points u (corners ps)) has.rings
            ∙ rw ringed (ap₂ (λ own rs. shape kind own rs no_ordinates none) (corners_more lines ps) rings);
        z = grown [] kept.z.items still.z.items (lists_of d (joined lines)).z (lists_of d ps).z (lists_of d (joined (lines ++ ps ∷ []))).z has.z adds.beside.z
            (ap (λ l. (lists_of d l).z) (joined_more lines ps) ∙ z_of_both d (joined lines) ps);
        m = grown [] kept.m.items still.m.items (lists_of d (joined lines)).m (lists_of d ps).m (lists_of d (joined (lines ++ ps ∷ []))).m has.m adds.beside.m
            (ap (λ l. (lists_of d l).m) (joined_more lines ps) ∙ m_of_both d (joined lines) ps);
      }

  pub rings_whole : (s t : Shape) (kept : Points) (lines : List (List Position)) → HasRings d kind s kept lines → t ≡ with_ordinates (with_ordinates s Z kept.z.items) M kept.m.items
      → t ≡ shape_of_points kind d (joined lines) (rings_along 0 lines)
  rings_whole s t kept lines has put =
      put ∙ ap (λ u. with_ordinates (with_ordinates u Z kept.z.items) M kept.m.items) has.rings
      ∙ (λ i. shape kind (corners (joined lines)) (rings_along 0 lines) (record { z = has.z i; m = has.m i; t = []; tm = [] }) none)

  pub type_of_rings : (s : Shape) (kept : Points) (lines : List (List Position)) → HasRings d kind s kept lines → has_rings (type_in s) ≡ true
  type_of_rings s kept lines has = ap (λ u. has_rings (type_in u)) has.rings ∙ ringed

  -- there are no more than the bytes of such lines
  module _ (a b : Cursor) (bytes : List ℕ) (s : Shape) (kept : Points) (lines : List (List Position)) (has : HasRings d kind s kept lines) (passed : Passes a b bytes)
      (long : 4 * length lines + 16 * length (joined lines) ≤ length bytes) where
    pub few_points : 16 * length (points_in s) ≤ b.at
    few_points = omega (arith, long, passed.moved, ap (λ u. length (points_in u)) has.rings, length-corners (joined lines))

    pub few_rings : 4 * length (rings_in s) ≤ b.at
    few_rings = omega (arith, long, passed.moved, ap (λ u. length (rings_in u)) has.rings, length-rings_along 0 lines)

    module _ (are : All (IsPosition d) (joined lines)) where
      abbrev level : IsLevel (shape_of_points 4 d (joined lines) [])
      level = level_with_points d 4 (joined lines) []
          (points_alone d 4 (joined lines) refl refl refl are (λ one. absurd (omega (arith, one))) (omega (arith, long, passed.moved, b.small)))

      pub each_z : 0 < length kept.z.items → length kept.z.items ≡ length (points_in s)
      each_z some = ap length has.z ∙ level.z.0 (omega (arith, some, ap length has.z)) ∙ sym (ap (λ u. length (points_in u)) has.rings)

      pub each_m : 0 < length kept.m.items → length kept.m.items ≡ length (points_in s)
      each_m some = ap length has.m ∙ level.m.0 (omega (arith, some, ap length has.m)) ∙ sym (ap (λ u. length (points_in u)) has.rings)

-- the points of lines
pub all_joined : (d : Dimension) (lines : List (List Position)) → All (λ ps. All (IsPosition d) ps) lines → All (IsPosition d) (joined lines)
all_joined d [] all = All-nil (IsPosition d)
all_joined d (ps ∷ lines) all =
    All-append (IsPosition d) ps (joined lines) (All-head (λ qs. All (IsPosition d) qs) ps lines all) (all_joined d lines (All-tail (λ qs. All (IsPosition d) qs) ps lines all))

-- how many bytes lines have at least
pub lines_bytes : (o : Order) (lines : List (List Position)) → 4 * length lines + 16 * length (joined lines) ≤ length (flat_map (line_bytes_in o) lines)
lines_bytes o lines = omega (arith, lines_long o lines, ap length (concat-map (line_bytes_in o) lines))
