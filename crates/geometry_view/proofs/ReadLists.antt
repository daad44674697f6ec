-- How the lists that a geometry's table leads to are read, weighed and judged.
use Rattle.std.proofs.Common.{◌≡◌, ◌⊎◌, inl, inr, ℕ, ◌+◌, ◌*◌, ◌/◌, ◌^◌, ◌<◌, ◌≤◌, Bool, true, false, List, Option, Some, None, Result, Ok, Err, refl, ap, sym, subst, ◌∙◌, arith, lit≤, if◌then◌else◌}
use Rattle.std.specs.Prelude.{⊤, IsTrue}
use Rattle.std.specs.List.{All}
use Rattle.std.proofs.lemmas.Bool.{MatchBool-at_true, true≢false, false≢true}
use Rattle.flat_layout.specs.declared.Rule.{Rule}
use Rattle.flat_layout.specs.declared.Rule.TheVariants.{Weight}
use Rattle.flat_layout.specs.declared.Broken.{Broken}
use Rattle.flat_layout.specs.Layout.{led_to, count, longs}
use Rattle.flat_layout.specs.Promises.{IsClean, Judges, Names}
use Rattle.flat_layout.proofs.Judging.{names-weaker}
use Rattle.order_keys.specs.Keys.{is_finite}
use Rattle.flat_views.specs.declared.meter.Meter.{Meter}
use Rattle.flat_views.specs.declared.vectors.VecView.{VecView}
use Rattle.flat_views.specs.declared.vectors.TableVec.{TableVec}
use Rattle.flat_views.specs.Vectors.{ShowsVector, vector_bytes, vector_place}
use Rattle.flat_views.specs.TableVecs.{ShowsTables, tables_bytes, tables_place}
use Rattle.flat_views.specs.Meters.{left_of, meter_place, IsTooHeavy}
use Rattle.flat_views.proofs.Elements.{size_within}
use Rattle.flat_views.proofs.Placed.{at_vector}
use Rattle.fgb_schema.specs.Tables.{has_points, has_rings, has_parts}
use Rattle.fgb_schema.specs.Paths.{IsAmong, BreaksPairs, count_in}
use Rattle.geometry_view.specs.declared.lists.Lists.{Lists}
use Rattle.geometry_view.specs.Fits.{counted, tables_counted, BreaksRead, BreaksRings, BreaksCount, JudgesSome, ShowsRead, ShowsReadTables}
use Rattle.geometry_view.specs.Lists.{BreaksVectors, BreaksFit, BreaksOwn, ShowsLists, AreFinite, weight_of, weight_shown}
use Rattle.geometry_view.proofs.VectorFields.{count_there, point_vectors, from_ring, from_point, from_part}
use Rattle.geometry_view.proofs.Fitting.{BreaksThere, IsPoints, count_broken, fit_clean}

-- the entries of a vector of tables lie in its buffer
pub tables_within : (tables : TableVec) → 4 * count (tables_bytes tables) (tables_place tables) ≤ 2 ^ 28
tables_within tables = size_within tables.entries 4 tables.wide

-- a vector is read where the type has it
module _ (k : ℕ) (b : List ℕ) (t : ℕ) (is_read : Bool) where
  pub read_ring : is_read ≡ has_rings k → (q : ℕ) (r : Rule) → BreaksRead is_read 4 b t 0 q r → BreaksVectors k b t q r
  read_ring same q r broken = from_ring k b t (sym same ∙ broken.0) q r broken.1

  pub read_point : is_read ≡ has_points k → (f : ℕ) → IsAmong (f, 8) point_vectors → (q : ℕ) (r : Rule) → BreaksRead is_read 8 b t f q r → BreaksVectors k b t q r
  read_point same f among q r broken = from_point k b t (sym same ∙ broken.0) (f, 8) among q r broken.1

  pub read_part : is_read ≡ has_parts k → (q : ℕ) (r : Rule) → BreaksRead is_read 4 b t 7 q r → BreaksVectors k b t q r
  read_part same q r broken = from_part k b t (sym same ∙ broken.0) q r broken.1

-- what is said of a vector is said of the field
module _ (width : ℕ) (b : List ℕ) (base t f : ℕ) where
  counted_same : (o : Option VecView) → ShowsVector width b base t f o → counted o ≡ count_in b t f
  counted_same None absent = rw absent refl
  counted_same (Some vector) shows =
      at_vector base b (led_to b t f) width vector shows.1 (λ k s p. count (vector_bytes vector) (vector_place vector) ≡ count s p) refl ∙ sym (count_there b t f shows.0)

  -- what is judged of a vector, where it is there, is judged of the field
  pub judged_there : (k points : ℕ) (is_read : Bool) (Breaks : List ℕ → ℕ → ℕ → Rule → Type 0) (Shows : List ℕ → ℕ → Type 0) (o : Option VecView) (r : Result (Unit {0}) Broken)
      → ShowsRead is_read width b base t f o → JudgesSome Breaks Shows o r → Judges base (BreaksThere k points b t is_read Breaks f) (λ _. ⊤) r
  judged_there k points true Breaks Shows None (Ok u) shows judged = (tt, λ q r broken. let wrong : true ≡ false = sym shows ∙ broken.1 in true≢false wrong)
  judged_there k points false Breaks Shows None (Ok u) shows judged = (tt, λ q r broken. false≢true broken.0)
  judged_there k points is_read Breaks Shows None (Err e) shows judged = absurd (false≢true judged)
  judged_there k points false Breaks Shows (Some vector) r shows judged = let wrong : ⊥ = cc in absurd wrong
  judged_there k points true Breaks Shows (Some vector) (Ok u) shows judged = (tt, λ q r broken. at_vector base b (led_to b t f) width vector shows.1 (λ k s p. IsClean (Breaks s p)) judged.1 q r broken.2)
  judged_there k points true Breaks Shows (Some vector) (Err e) shows judged =
      names-weaker base (Breaks b (led_to b t f)) (BreaksThere k points b t true Breaks f) e (λ q r broken. (refl, shows.0, broken)) (at_vector base b (led_to b t f) width vector shows.1 (λ k s p. Names k (Breaks s p) e) judged)

pub finite_shown : (Breaks : List ℕ → ℕ → ℕ → Rule → Type 0) (xy : Option VecView) (u : Unit {0}) → JudgesSome Breaks (λ b v. All (λ x. IsTrue (is_finite x)) (longs b v)) xy (Ok u) → AreFinite xy
finite_shown Breaks None u judged vector same = let wrong : ⊥ = cc in absurd wrong
finite_shown Breaks (Some xy) u judged vector same = let e : xy ≡ vector = cc in subst (λ v. All (λ x. IsTrue (is_finite x)) (longs (vector_bytes v) (vector_place v))) e judged.0

tables_same : (b : List ℕ) (base t f : ℕ) (o : Option TableVec) → ShowsTables b base t f o → tables_counted o ≡ count_in b t f
tables_same b base t f None absent = rw absent refl
tables_same b base t f (Some tables) shows =
    ap (λ s. count s (tables_place tables)) shows.1.same_bytes ∙ ap (count b) shows.1.same_place ∙ sym (count_there b t f shows.0)

-- the lists of a table weigh what it weighs
module _ (k : ℕ) (b : List ℕ) (base t : ℕ) (lists : Lists) (shows : ShowsLists k b base t lists) where
  ring_weight : (s : Bool) → ShowsRead s 4 b base t 0 lists.ends → 4 * counted lists.ends ≡ (if s then 4 * count_in b t 0 else 0)
  ring_weight true there = ap (λ n. 4 * n) (counted_same 4 b base t 0 lists.ends there)
  ring_weight false none = ap (λ o. 4 * counted o) none

  point_weight : (s : Bool) → ShowsRead s 8 b base t 1 lists.xy → ShowsRead s 8 b base t 2 lists.z
      → ShowsRead s 8 b base t 3 lists.m → ShowsRead s 8 b base t 4 lists.t → ShowsRead s 8 b base t 5 lists.tm
      → 8 * (counted lists.xy + counted lists.z + counted lists.m + counted lists.t + counted lists.tm)
      ≡ (if s then 8 * (count_in b t 1 + count_in b t 2 + count_in b t 3 + count_in b t 4 + count_in b t 5) else 0)
  point_weight true xy z m t' tm =
      omega (arith, counted_same 8 b base t 1 lists.xy xy, counted_same 8 b base t 2 lists.z z, counted_same 8 b base t 3 lists.m m, counted_same 8 b base t 4 lists.t t', counted_same 8 b base t 5 lists.tm tm)
  point_weight false xy z m t' tm = omega (arith, ap counted xy, ap counted z, ap counted m, ap counted t', ap counted tm)

  part_weight : (s : Bool) → ShowsReadTables s b base t 7 lists.parts → 4 * tables_counted lists.parts ≡ (if s then 4 * count_in b t 7 else 0)
  part_weight true there = ap (λ n. 4 * n) (tables_same b base t 7 lists.parts there)
  part_weight false none = ap (λ o. 4 * tables_counted o) none

  pub weight_same : weight_shown lists ≡ weight_of k b t
  weight_same =
      omega (arith, ring_weight (has_rings k) shows.ends, point_weight (has_points k) shows.xy shows.z shows.m shows.t' shows.tm, part_weight (has_parts k) shows.parts)

  -- and have as many points
  pub points_same : (points : ℕ) → points ≡ counted lists.xy / 2 → IsPoints k points b t
  points_same points same has =
      same ∙ ap (λ n. n / 2) (counted_same 8 b base t 1 lists.xy (MatchBool-at_true (ShowsVector 8 b base t 1 lists.xy) (lists.xy ≡ None) has shows.xy))

  -- what is judged of each list
  module _ (points : ℕ) where
    pub pairs_judged : (r : Result (Unit {0}) Broken) → JudgesSome (BreaksPairs k) (λ b v. All (λ x. IsTrue (is_finite x)) (longs b v)) lists.xy r
        → Judges base (BreaksThere k points b t (has_points k) (BreaksPairs k) 1) (λ _. ⊤) r
    pairs_judged r judged = judged_there 8 b base t 1 k points (has_points k) (BreaksPairs k) (λ b v. All (λ x. IsTrue (is_finite x)) (longs b v)) lists.xy r shows.xy judged

    pub ends_judged : (r : Result (Unit {0}) Broken) → JudgesSome (BreaksRings points) (λ _ _. ⊤) lists.ends r
        → Judges base (BreaksThere k points b t (has_rings k) (BreaksRings points) 0) (λ _. ⊤) r
    ends_judged r judged = judged_there 4 b base t 0 k points (has_rings k) (BreaksRings points) (λ _ _. ⊤) lists.ends r shows.ends judged

    pub count_judged : (f : ℕ) (o : Option VecView) → ShowsRead (has_points k) 8 b base t f o → (r : Result (Unit {0}) Broken) → JudgesSome (BreaksCount points) (λ _ _. ⊤) o r
        → Judges base (BreaksThere k points b t (has_points k) (BreaksCount points) f) (λ _. ⊤) r
    count_judged f o there r judged = judged_there 8 b base t f k points (has_points k) (BreaksCount points) (λ _ _. ⊤) o r there judged

    -- all but the last are fine, which then tells
    pub all_judged : IsClean (BreaksVectors k b t) → IsPoints k points b t
        → IsClean (BreaksThere k points b t (has_points k) (BreaksPairs k) 1) → IsClean (BreaksThere k points b t (has_rings k) (BreaksRings points) 0)
        → IsClean (BreaksThere k points b t (has_points k) (BreaksCount points) 2) → IsClean (BreaksThere k points b t (has_points k) (BreaksCount points) 3) → IsClean (BreaksThere k points b t (has_points k) (BreaksCount points) 4)
        → (r : Result (Unit {0}) Broken) → Judges base (BreaksThere k points b t (has_points k) (BreaksCount points) 5) (λ _. ⊤) r → Judges base (BreaksFit k b t) (λ _. ⊤) r
    all_judged clean same xy rings z m t' (Ok u) judged = (tt, fit_clean k points b t same xy rings z m t' judged.1)
    all_judged clean same xy rings z m t' (Err e) judged =
        names-weaker base (BreaksThere k points b t (has_points k) (BreaksCount points) 5) (BreaksFit k b t) e (count_broken k points b t clean same 5 (lit≤ tt) (lit≤ tt) (inr (inr (inr (inr (inl refl)))))) judged

  -- less was left than they weigh
  pub too_heavy : IsClean (BreaksVectors k b t) → (amount : ℕ) (before after : Meter) (e : Broken) → amount ≡ weight_shown lists → IsTooHeavy amount before e → after ≡ before
      → (Names base (BreaksOwn k b t) e ⊎ (IsClean (BreaksVectors k b t) × (left_of before < weight_of k b t) × (e.place ≡ meter_place before) × (e.rule ≡ Weight))) × (left_of after ≤ left_of before)
  too_heavy clean amount before after e weight heavy same = (
    inr (clean, subst (λ n. left_of before < n) (weight ∙ weight_same) heavy.less, heavy.at_place, heavy.by_weight),
    let l : left_of after ≡ left_of before = ap left_of same in omega (arith, l),
  )
