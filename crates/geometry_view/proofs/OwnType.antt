-- A geometry whose own type decides is the same as one to which this type is given from outside: it breaks the same,
-- weighs the same and shows the same. Only its type field is read besides, which weighs nothing.
use Rattle.std.proofs.Common.{◌≡◌, ◌⊎◌, inl, inr, ⊎_elim, ℕ, zero, suc, ◌+◌, ◌<◌, ◌≤◌, ◌==◌, ◌&&◌, ◌++◌, true, false, List, ◌∷◌, map, Result, Ok, Err, refl, ap, sym, subst, ◌∙◌, arith}
use Rattle.std.proofs.lemmas.Bool.{cases_Bool, cases_lt, true≢false}
use Rattle.std.proofs.lemmas.Bool.Decides.{eqb_tells, nat_tests}
use Rattle.flat_layout.specs.declared.Rule.{Rule}
use Rattle.flat_layout.specs.declared.Rule.TheVariants.{Depth, Kind as KindRule}
use Rattle.flat_layout.specs.declared.Broken.{Broken}
use Rattle.flat_layout.specs.Layout.{is_table, number_in}
use Rattle.flat_layout.specs.Promises.{BreaksField, IsClean, Names, Judges}
use Rattle.flat_layout.proofs.Judging.{names-weaker}
use Rattle.fgb_schema.specs.Tables.{geometry, Content, scalar, fields, is_typed, type_of, kind_of, is_kind, has_rings, has_points, ring_fields, point_fields, part_fields}
use Rattle.fgb_schema.specs.Paths.{Part, field, below, IsAmong, BreaksLayout, BreaksMore, BreaksByTable, BreaksGeometry, deep, unknown, ends, ordinates, BreaksType, Breaks, Forbids, geometry_part}
use Rattle.fgb_schema.specs.Shapes.{Shape, shape_at}
use Rattle.fgb_schema.specs.Weights.{own_weight, weight_within, Goes}
use Rattle.geometry_view.specs.declared.kind.Kind.{Kind}
use Rattle.geometry_view.specs.declared.kind.Kind.TheVariants.{Point, LineString, Polygon, MultiPoint, MultiLineString, MultiPolygon, GeometryCollection}
use Rattle.geometry_view.specs.Kinds.{number_of}
use Rattle.fgb_schema.proofs.Along.{breaks_layout, breaks_more, breaks_below, split}
use Rattle.fgb_schema.proofs.Roots.{from_scalar, scalar_clean}
use Rattle.fgb_schema.proofs.GeometryTypes.{type_own, type_given, typed as readable_type}
use Rattle.fgb_schema.proofs.TableParts.{field_part, below_table, from_field, from_table}

-- the fields that are read where this type holds, but for the type itself
abbrev pub known_fields : ℕ → ℕ → List (ℕ × Content)
known_fields depth kind = ring_fields kind ++ point_fields kind ++ part_fields depth kind

-- a type other than 0 that is given from outside holds
pub kind_given : (k : ℕ) (b : List ℕ) (t : ℕ) → (k == 0) ≡ false → kind_of k b t ≡ k
unfolding is_typed type_of
kind_given k b t some = rw some refl

-- and a type other than 0 that holds is known
pub typed_known : (outer : ℕ) (b : List ℕ) (t k : ℕ) → kind_of outer b t ≡ k → 1 ≤ k → is_typed outer b t ≡ true
typed_known outer b t k holds some = elim (cases_Bool (is_typed outer b t)) [
  | inl typed ↦ typed
  | inr other ↦ let none : 0 ≡ k = rw other at holds in absurd (omega (arith, none, some))
]

pub type_known : (outer : ℕ) (b : List ℕ) (t k : ℕ) → kind_of outer b t ≡ k → 1 ≤ k → type_of outer b t ≡ k
type_known outer b t k holds some = let typed = typed_known outer b t k holds some in rw typed at holds

-- the own type field, where it decides
pub judge_own_type : (base : ℕ) (b : List ℕ) (t outer : ℕ) (r : Result ℕ Broken) → outer ≡ 0
    → Judges base (BreaksField 1 b t 6) (λ x. x ≡ number_in 1 b t 6 0) r → Judges base (BreaksType outer b t) (λ x. x ≡ type_of outer b t) r
judge_own_type base b t outer (Ok x) own judged = (judged.0 ∙ sym (type_own outer b t own), λ q r broken. judged.1 q r broken.1)
judge_own_type base b t outer (Err e) own judged = names-weaker base (BreaksField 1 b t 6) (BreaksType outer b t) e (λ q r broken. (own, broken)) judged

-- a type that is known holds, and is one of the seven
pub known_kind : (kind : Kind) → is_kind (number_of kind) ≡ true
known_kind Point = refl
known_kind LineString = refl
known_kind Polygon = refl
known_kind MultiPoint = refl
known_kind MultiLineString = refl
known_kind MultiPolygon = refl
known_kind GeometryCollection = refl

pub some_kind : (kind : Kind) → 1 ≤ number_of kind
some_kind kind = let known = known_kind kind in grind (arith, nat_tests)

pub not_zero : (k : ℕ) → 1 ≤ k → (k == 0) ≡ false
not_zero k some = elim (eqb_tells k 0) [
  | inl none ↦ absurd (omega (arith, none.1, some))
  | inr not ↦ not.0
]

-- what the type that holds breaks
abbrev pub BreaksKind : ℕ → List ℕ → ℕ → ℕ → Rule → Type 0
BreaksKind outer b t q r = BreaksType outer b t q r ⊎ Forbids KindRule (is_table b t && is_typed outer b t) (is_kind (type_of outer b t)) t q r

pub kind_shown : (b : List ℕ) (t outer : ℕ) (kind : Kind) (number : ℕ) → is_table b t ≡ true → number ≡ type_of outer b t → IsClean (BreaksType outer b t) → number_of kind ≡ number
    → (kind_of outer b t ≡ number_of kind) × IsClean (BreaksKind outer b t)
kind_shown b t outer kind number sound same readable is =
    let typed : is_typed outer b t ≡ true = readable_type outer b t sound readable in (
      rw typed (sym (is ∙ same)),
      λ q r broken. ⊎_elim (readable q r)
          (λ wrong. let e : true ≡ false = sym (known_kind kind) ∙ ap is_kind (is ∙ same) ∙ wrong.other in true≢false e) broken,
    )

pub kind_unknown : (base : ℕ) (b : List ℕ) (t outer number : ℕ) → is_table b t ≡ true → number ≡ type_of outer b t → IsClean (BreaksType outer b t) → is_kind number ≡ false
    → (at : ℕ) → at ≡ base + t → Names base (BreaksKind outer b t) (record { place = at; rule = KindRule })
kind_unknown base b t outer number sound same readable wrong at place =
    let typed : is_typed outer b t ≡ true = readable_type outer b t sound readable in
    (t, place, inr (record { known = rw (sound, typed) refl; other = ap is_kind (sym same) ∙ wrong; place = refl; rule = refl }))

-- what is broken in the type that holds is broken from the geometry on
module _ (outer depth : ℕ) (b : List ℕ) (t : ℕ) (sound : is_table b t ≡ true) where
  from_unknown : (q : ℕ) (r : Rule) → Forbids KindRule (is_table b t && is_typed outer b t) (is_kind (type_of outer b t)) t q r → Breaks b (geometry_part outer depth t) q r
  unfolding BreaksByTable
  from_unknown q r wrong =
      let typed = rw sound at wrong.known in
      let at_table : Breaks b (geometry_part outer depth t) t KindRule = from_table b (geometry outer depth) t sound t KindRule (unknown sound typed wrong.other) in
      subst (λ p. Breaks b (geometry_part outer depth t) p r) (sym wrong.place) (subst (Breaks b (geometry_part outer depth t) t) (sym wrong.rule) at_table)

  from_type : (q : ℕ) (r : Rule) → BreaksType outer b t q r → Breaks b (geometry_part outer depth t) q r
  unfolding fields
  from_type q r broken = from_field b (geometry outer depth) t sound (6, scalar 1) (rw broken.0 (inl refl)) q r (from_scalar b 1 t 6 q r broken.1)

  pub kind_breaks : (q : ℕ) (r : Rule) → BreaksKind outer b t q r → Breaks b (geometry_part outer depth t) q r
  kind_breaks q r broken = ⊎_elim (from_type q r) (from_unknown q r) broken

  pub deep_breaks : 16 < depth → Breaks b (geometry_part outer depth t) t Depth
  unfolding BreaksByTable
  deep_breaks over = from_table b (geometry outer depth) t sound t Depth (deep sound over)

  -- where nothing is broken
  module _ (clean : IsClean (Breaks b (geometry_part outer depth t))) where
    pub clean_shallow : depth ≤ 16
    clean_shallow = ⊎_elim (λ below. absurd (clean t Depth (deep_breaks below))) (λ above. above) (cases_lt 16 depth)

    pub clean_type : IsClean (BreaksType outer b t)
    clean_type q r broken = clean q r (kind_breaks q r (inl broken))

    clean_typed : is_typed outer b t ≡ true
    clean_typed = readable_type outer b t sound clean_type

    pub clean_kind : kind_of outer b t ≡ type_of outer b t
    clean_kind = rw clean_typed refl

    pub clean_known : is_kind (type_of outer b t) ≡ true
    clean_known = ⊎_elim
        (λ known. known)
        (λ other. absurd (clean t KindRule (kind_breaks t KindRule (inr (record { known = rw (sound, clean_typed) refl; other = other; place = refl; rule = refl })))))
        (cases_Bool (is_kind (type_of outer b t)))

module _ (b : List ℕ) (t : ℕ) where
  -- two types from outside by which the same holds
  module _ (o p : ℕ) (typed : is_typed o b t ≡ is_typed p b t) (type : type_of o b t ≡ type_of p b t) where
    same_kind : kind_of o b t ≡ kind_of p b t
    same_kind = rw (typed, type) refl

    same_breaks : (depth q : ℕ) (r : Rule) → BreaksGeometry o depth b t q r → BreaksGeometry p depth b t q r
    same_breaks depth q r (deep sound over) = deep sound over
    same_breaks depth q r (unknown sound known other) = unknown sound (sym typed ∙ known) (ap is_kind (sym type) ∙ other)
    same_breaks depth q r (ends sound rings there broken) = ends sound (ap has_rings (sym same_kind) ∙ rings) there broken
    same_breaks depth q r (ordinates f sound points from to broken) = ordinates f sound (ap has_points (sym same_kind) ∙ points) from to broken

  scalar_weight : (steps width id : ℕ) → weight_within b steps (field (scalar width) t id) ≡ 0
  unfolding weight_within own_weight below
  scalar_weight zero width id = refl
  scalar_weight (suc steps) width id = refl

  -- the own type, which is known and not 0, decides
  module _ (k depth : ℕ) (sound : is_table b t ≡ true) (holds : kind_of 0 b t ≡ k) (some : 1 ≤ k) where
    other : (k == 0) ≡ false
    other = not_zero k some

    typed : is_typed 0 b t ≡ is_typed k b t
    typed = typed_known 0 b t k holds some ∙ sym (typed_known k b t k (kind_given k b t other) some)

    type : type_of 0 b t ≡ type_of k b t
    type = type_known 0 b t k holds some ∙ sym (type_known k b t k (kind_given k b t other) some)

    abbrev type_part : Part
    type_part = field (scalar 1) t 6

    abbrev known_parts : List Part
    known_parts = map (field_part t) (known_fields depth k)

    below_own : below b (geometry_part 0 depth t) ≡ type_part ∷ known_parts
    unfolding fields
    below_own = below_table b (geometry 0 depth) t sound ∙ rw holds refl

    below_given : below b (geometry_part k depth t) ≡ known_parts
    unfolding fields
    below_given = let given = kind_given k b t other in below_table b (geometry k depth) t sound ∙ rw (other, given) refl

    own_layout : (q : ℕ) (r : Rule) → BreaksLayout b (geometry_part k depth t) q r → BreaksLayout b (geometry_part 0 depth t) q r
    unfolding BreaksLayout
    own_layout q r broken = broken

    given_layout : (q : ℕ) (r : Rule) → BreaksLayout b (geometry_part 0 depth t) q r → BreaksLayout b (geometry_part k depth t) q r
    unfolding BreaksLayout
    given_layout q r broken = broken

    own_more : (q : ℕ) (r : Rule) → BreaksMore b (geometry_part k depth t) q r → BreaksMore b (geometry_part 0 depth t) q r
    unfolding BreaksMore BreaksByTable
    own_more q r broken = same_breaks k 0 (sym typed) (sym type) depth q r broken

    given_more : (q : ℕ) (r : Rule) → BreaksMore b (geometry_part 0 depth t) q r → BreaksMore b (geometry_part k depth t) q r
    unfolding BreaksMore BreaksByTable
    given_more q r broken = same_breaks 0 k typed type depth q r broken

    pub own_breaks : (q : ℕ) (r : Rule) → Breaks b (geometry_part k depth t) q r → Breaks b (geometry_part 0 depth t) q r
    own_breaks q r broken = ⊎_elim
        (λ own. ⊎_elim
        (λ layout. breaks_layout b (geometry_part 0 depth t) q r (own_layout q r layout))
        (λ more. breaks_more b (geometry_part 0 depth t) q r (own_more q r more))
        own)
        (λ there. breaks_below b (geometry_part 0 depth t) there.0 q r (later there.0 there.1) there.2)
        (split b (geometry_part k depth t) broken.part q r broken.path broken.broken)
      where
        later : (y : Part) → IsAmong y (below b (geometry_part k depth t)) → IsAmong y (below b (geometry_part 0 depth t))
        later y among = rw below_own (inr (rw below_given at among))

    pub own_clean : IsClean (BreaksType 0 b t) → IsClean (Breaks b (geometry_part k depth t)) → IsClean (Breaks b (geometry_part 0 depth t))
    own_clean readable clean q r broken = ⊎_elim
        (λ own. ⊎_elim
        (λ layout. clean q r (breaks_layout b (geometry_part k depth t) q r (given_layout q r layout)))
        (λ more. clean q r (breaks_more b (geometry_part k depth t) q r (given_more q r more)))
        own)
        (λ there. first there.0 (rw below_own at there.1) there.2)
        (split b (geometry_part 0 depth t) broken.part q r broken.path broken.broken)
      where
        first : (y : Part) → IsAmong y (type_part ∷ known_parts) → Breaks b y q r → ⊥
        first y (inl is) there = scalar_clean b 1 t 6 (λ q r broken. readable q r (refl, broken)) q r (subst (λ x. Breaks b x q r) is there)
        first y (inr among) there = clean q r (breaks_below b (geometry_part k depth t) y q r (rw below_given among) there)

    own_weight_is : own_weight b (geometry_part 0 depth t) ≡ own_weight b (geometry_part k depth t)
    unfolding own_weight
    own_weight_is = refl

    pub same_weight : (steps : ℕ) → weight_within b steps (geometry_part 0 depth t) ≡ weight_within b steps (geometry_part k depth t)
    unfolding weight_within
    same_weight zero = refl
    same_weight (suc steps) = rw (below_own, below_given) (omega (arith, own_weight_is, scalar_weight steps 1 6))

    same_shape : (levels : ℕ) → shape_at levels 0 b t ≡ shape_at levels k b t
    unfolding shape_at
    same_shape zero = let given = kind_given k b t other in rw (holds, given) refl
    same_shape (suc levels) = let given = kind_given k b t other in rw (holds, given) refl

-- a geometry is read on under the type that holds: the one given from outside, or its own
module _ (b : List ℕ) (t outer k depth : ℕ) (sound : is_table b t ≡ true) (holds : kind_of outer b t ≡ k) (some : 1 ≤ k) (readable : IsClean (BreaksType outer b t)) where
  given_is : (outer ≡ 0 → ⊥) → outer ≡ k
  given_is given = sym (type_given outer b t given) ∙ type_known outer b t k holds some

  pub breaks_under : (q : ℕ) (r : Rule) → Breaks b (geometry_part k depth t) q r → Breaks b (geometry_part outer depth t) q r
  breaks_under q r broken = elim (eqb_tells outer 0) [
    | inl own ↦ subst (λ o. Breaks b (geometry_part o depth t) q r) (sym own.1)
        (own_breaks b t k depth sound (subst (λ o. kind_of o b t ≡ k) own.1 holds) some q r broken)
    | inr given ↦ subst (λ o. Breaks b (geometry_part o depth t) q r) (sym (given_is given.1)) broken
  ]

  clean_under : IsClean (Breaks b (geometry_part k depth t)) → IsClean (Breaks b (geometry_part outer depth t))
  clean_under clean = elim (eqb_tells outer 0) [
    | inl own ↦ subst (λ o. IsClean (Breaks b (geometry_part o depth t))) (sym own.1)
        (own_clean b t k depth sound (subst (λ o. kind_of o b t ≡ k) own.1 holds) some (subst (λ o. IsClean (BreaksType o b t)) own.1 readable) clean)
    | inr given ↦ subst (λ o. IsClean (Breaks b (geometry_part o depth t))) (sym (given_is given.1)) clean
  ]

  pub weight_under : (steps : ℕ) → weight_within b steps (geometry_part outer depth t) ≡ weight_within b steps (geometry_part k depth t)
  weight_under steps = elim (eqb_tells outer 0) [
    | inl own ↦ subst (λ o. weight_within b steps (geometry_part o depth t) ≡ weight_within b steps (geometry_part k depth t)) (sym own.1)
        (same_weight b t k depth sound (subst (λ o. kind_of o b t ≡ k) own.1 holds) some steps)
    | inr given ↦ ap (λ o. weight_within b steps (geometry_part o depth t)) (given_is given.1)
  ]

  pub shape_under : (levels : ℕ) → shape_at levels outer b t ≡ shape_at levels k b t
  shape_under levels = elim (eqb_tells outer 0) [
    | inl own ↦ subst (λ o. shape_at levels o b t ≡ shape_at levels k b t) (sym own.1)
        (same_shape b t k depth sound (subst (λ o. kind_of o b t ≡ k) own.1 holds) some levels)
    | inr given ↦ ap (λ o. shape_at levels o b t) (given_is given.1)
  ]

  pub goes_under : {T : Type 0} (base at before after levels : ℕ) (shown : T → Shape) (r : Result T Broken)
      → Goes base b (geometry_part k depth t) at before after (λ g. shown g ≡ shape_at levels k b t) r
      → Goes base b (geometry_part outer depth t) at before after (λ g. shown g ≡ shape_at levels outer b t) r
  goes_under base at before after levels shown (Ok g) goes = (
    goes.0 ∙ sym (shape_under levels),
    clean_under goes.1,
    record { amount = goes.2.amount; weighs = (goes.2.weighs.0, λ steps enough. weight_under steps ∙ goes.2.weighs.1 steps enough); taken = goes.2.taken },
  )
  goes_under base at before after levels shown (Err e) goes = (
    ⊎_elim
        (λ named. inl (names-weaker base (Breaks b (geometry_part k depth t)) (Breaks b (geometry_part outer depth t)) e breaks_under named))
        (λ spent. inr (record {
          heavier = (spent.heavier.0, subst (λ w. before < w) (sym (weight_under spent.heavier.0)) spent.heavier.1);
          at_place = spent.at_place;
          by_weight = spent.by_weight;
        }))
        goes.0,
    goes.1,
  )
