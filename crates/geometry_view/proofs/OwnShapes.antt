-- A geometry's table that breaks no rule, and the lists that are read of it again by the type that holds: they are not
-- refused, and break nothing.
use Rattle.std.proofs.Common.{◌≡◌, inl, inr, ⊎_elim, IsTrue, ℕ, ◌+◌, ◌*◌, ◌<◌, ◌≤◌, Bool, true, false, List, Option, Some, None, refl, ap, sym, subst, ◌∙◌, arith}
use Rattle.std.specs.Prelude.{slice_index}
use Rattle.std.specs.Option.{ForSome}
use Rattle.std.proofs.lemmas.Bool.{cases_Bool, cases_eq}
use Rattle.std.proofs.lemmas.List.Elements.{All-same}
use Rattle.flat_layout.specs.declared.Rule.TheVariants.{NotFinite}
use Rattle.flat_layout.specs.declared.Broken.{Broken}
use Rattle.flat_layout.specs.Layout.{is_table, is_absent, count, led_to, longs}
use Rattle.flat_layout.specs.Promises.{IsClean, Names}
use Rattle.flat_views.specs.declared.vectors.VecView.{VecView}
use Rattle.flat_views.specs.declared.vectors.TableVec.{TableVec}
use Rattle.flat_views.specs.TableVecs.{tables_bytes, tables_place}
use Rattle.flat_views.specs.Vectors.{IsVectorAt, vector_bytes, vector_place, vector_width}
use Rattle.flat_views.proofs.Placed.{list_of_place}
use Rattle.order_keys.specs.Keys.{is_finite}
use Rattle.fgb_schema.specs.Tables.{is_kind, has_points, has_rings, has_parts}
use Rattle.fgb_schema.specs.Paths.{Breaks, IsAmong, geometry_part, infinite}
use Rattle.geometry_view.specs.Fits.{BreaksRead, ShowsRead, ShowsReadTables}
use Rattle.geometry_view.specs.Lists.{AreFinite, BreaksOwn, BreaksVectors, pairs}
use Rattle.geometry_view.proofs.VectorFields.{listed, point_clean, point_vectors}
use Rattle.geometry_view.proofs.Fitting.{finite_clean}
use Rattle.geometry_view.proofs.OwnLevel.{own_breaks, parts_breaks, parts_link}
use Rattle.geometry_view.proofs.ReadLists.{read_part, read_point, read_ring}
use Rattle.geometry_view.proofs.Levels.{parts_at, parts_there}

-- the vector that was read is that of the field
vector_there : (b : List ℕ) (base t f width : ℕ) (has : Bool) (o : Option VecView) (v : VecView) → ShowsRead has width b base t f o → o ≡ Some v
    → (has ≡ true) × (is_absent b t f ≡ false) × IsVectorAt b base (led_to b t f) width v
vector_there b base t f width true None v shows is = let e : None ≡ Some v = is in cc
vector_there b base t f width true (Some w) v shows is = let e : w ≡ v = cc in (refl, shows.0, subst (IsVectorAt b base (led_to b t f) width) e shows.1)
vector_there b base t f width false o v shows is = let e : None ≡ Some v = sym shows ∙ is in cc

pub wide_read : (b : List ℕ) (base t f width : ℕ) (has : Bool) (o : Option VecView) → ShowsRead has width b base t f o → ForSome o (λ v. vector_width v ≡ width)
wide_read b base t f width has o shows v is = (vector_there b base t f width has o v shows is).2.same_width

-- the fields of points and ordinates
pub among_points : (f : ℕ) → 1 ≤ f → f ≤ 5 → IsAmong (f, 8) point_vectors
among_points f first last = elim (cases_eq f 1) [
  | inl e ↦ subst (λ f. IsAmong (f, 8) point_vectors) (sym e) (inl refl)
  | inr e1 ↦ elim (cases_eq f 2) [
    | inl e ↦ subst (λ f. IsAmong (f, 8) point_vectors) (sym e) (inr (inl refl))
    | inr e2 ↦ elim (cases_eq f 3) [
      | inl e ↦ subst (λ f. IsAmong (f, 8) point_vectors) (sym e) (inr (inr (inl refl)))
      | inr e3 ↦ elim (cases_eq f 4) [
        | inl e ↦ subst (λ f. IsAmong (f, 8) point_vectors) (sym e) (inr (inr (inr (inl refl))))
        | inr e4 ↦ let e : f ≡ 5 = omega (arith, first, last, e1, e2, e3, e4) in subst (λ f. IsAmong (f, 8) point_vectors) (sym e) (inr (inr (inr (inr (inl refl)))))
      ]
    ]
  ]
]

module _ (k depth : ℕ) (b : List ℕ) (base t : ℕ) (sound : is_table b t ≡ true) (known : is_kind k ≡ true) (clean : IsClean (Breaks b (geometry_part k depth t))) where
  clean_own : IsClean (BreaksOwn k b t)
  clean_own q r broken = clean q r (own_breaks k depth b t sound known q r broken)

  clean_vectors : IsClean (BreaksVectors k b t)
  clean_vectors q r broken = clean_own q r (inl broken)

  -- no list is refused
  module _ (is_read : Bool) (e : Broken) where
    pub never_points : is_read ≡ has_points k → (f : ℕ) → 1 ≤ f → f ≤ 5 → Names base (BreaksRead is_read 8 b t f) e → ⊥
    never_points same f first last named = clean_vectors named.0 e.rule (read_point k b t is_read same f (among_points f first last) named.0 e.rule named.2)

    pub never_ends : is_read ≡ has_rings k → Names base (BreaksRead is_read 4 b t 0) e → ⊥
    never_ends same named = clean_vectors named.0 e.rule (read_ring k b t is_read same named.0 e.rule named.2)

    pub never_parts : is_read ≡ has_parts k → Names base (BreaksRead is_read 4 b t 7) e → ⊥
    never_parts same named = clean_vectors named.0 e.rule (read_part k b t is_read same named.0 e.rule named.2)

  -- a number of its points
  clean_finite : has_points k ≡ true → is_absent b t 1 ≡ false → (i : ℕ) → i < count b (led_to b t 1) → is_finite (slice_index (longs b (led_to b t 1)) i) ≡ true
  clean_finite has present i early = ⊎_elim
      (λ yes. yes)
      (λ wrong. absurd (clean_own (led_to b t 1 + 4 + 8 * i) NotFinite (inr (pairs has present (listed 8 b t 1 (point_clean k b t clean_vectors has (1, 8) (inl refl)))
      (infinite i early (record { infinite = wrong; place = refl; rule = refl }))))))
      (cases_Bool (is_finite (slice_index (longs b (led_to b t 1)) i)))

  pub finite_read : (o : Option VecView) → ShowsRead (has_points k) 8 b base t 1 o → AreFinite o
  finite_read o shows xy given =
      let there = vector_there b base t 1 8 (has_points k) o xy shows given in
      let same : longs (vector_bytes xy) (vector_place xy) ≡ longs b (led_to b t 1) = ap (λ s. longs s (vector_place xy)) there.2.same_bytes ∙ ap (longs b) there.2.same_place in
      All-same (λ x. IsTrue (is_finite x)) (longs (vector_bytes xy) (vector_place xy)) (longs b (led_to b t 1)) same (finite_clean b (led_to b t 1) (clean_finite there.0 there.1)).0

  pub parts_clean : (o : Option TableVec) → ShowsReadTables (has_parts k) b base t 7 o → ForSome o (λ tables. IsClean (Breaks (tables_bytes tables) (parts_at k depth (tables_place tables))))
  parts_clean o shows list given =
      let there = parts_there k b base t o shows list given in
      let link = parts_link k depth b t sound known clean_vectors there.0 there.1 in
      list_of_place base b (led_to b t 7) list there.2 (λ _ s v. IsClean (Breaks s (parts_at k depth v))) (λ q r broken. clean q r (parts_breaks k depth b t sound known there.0 link q r broken))
