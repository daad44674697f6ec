-- What a geometry's table leads to by itself: its vectors and its list of parts, and what is broken in them.
use Rattle.std.specs.Prelude.{◌≡◌, ◌⊎◌, ℕ, ◌+◌, ◌*◌, ◌<◌, ◌≤◌, List, [], ◌∷◌, ◌++◌, if◌then◌else◌, true, false, IsTrue, Option, Result, MatchResult}
use Rattle.std.specs.List.{All}
use Rattle.std.specs.Option.{ForSome}
use Rattle.flat_layout.specs.declared.Rule.{Rule}
use Rattle.flat_layout.specs.declared.Rule.TheVariants.{Weight}
use Rattle.flat_layout.specs.declared.Broken.{Broken}
use Rattle.flat_layout.specs.Layout.{is_absent, led_to, longs}
use Rattle.flat_layout.specs.Promises.{BreaksVector, BreaksTo, IsClean, Names}
use Rattle.order_keys.specs.Keys.{is_finite}
use Rattle.flat_views.specs.declared.meter.Meter.{Meter}
use Rattle.flat_views.specs.declared.vectors.VecView.{VecView}
use Rattle.flat_views.specs.declared.vectors.TableVec.{TableVec}
use Rattle.flat_views.specs.Vectors.{vector_bytes, vector_place}
use Rattle.flat_views.specs.Meters.{left_of, meter_place}
use Rattle.fgb_schema.specs.Tables.{has_points, has_rings, has_parts}
use Rattle.fgb_schema.specs.Paths.{IsAmong, BreaksPairs, BreaksEnds, BreaksOrdinates, is_listed, count_in}
use Rattle.geometry_view.specs.declared.lists.Lists.{Lists}
use Rattle.geometry_view.specs.Fits.{counted, tables_counted, ShowsRead, ShowsReadTables}

-- the fields of a geometry of this type that lead to a vector, and the bytes of each element
abbrev pub vectors_of : ℕ → List (ℕ × ℕ)
vectors_of kind =
    (if has_rings kind then (0, 4) ∷ [] else [])
    ++ (if has_points kind then (1, 8) ∷ (2, 8) ∷ (3, 8) ∷ (4, 8) ∷ (5, 8) ∷ [] else [])
    ++ (if has_parts kind then (7, 4) ∷ [] else [])

-- one of these fields, the offset in it, or the vector
pub record BreaksVectors (kind : ℕ) (b : List ℕ) (t q : ℕ) (r : Rule) : Type 0 where
  pub vector : ℕ × ℕ
  pub among : IsAmong vector (vectors_of kind)
  pub broken : BreaksTo (BreaksVector vector.1) b t vector.0 q r

-- the points, the ends of the rings or the ordinates, where these can be read
pub data BreaksFit (kind : ℕ) (b : List ℕ) (t : ℕ) : ℕ → Rule → Type 0 where
  pairs : {q : ℕ} {r : Rule} → has_points kind ≡ true → is_absent b t 1 ≡ false → is_listed 8 b t 1 ≡ true → BreaksPairs kind b (led_to b t 1) q r → BreaksFit kind b t q r
  ends : {q : ℕ} {r : Rule} → has_rings kind ≡ true → is_absent b t 0 ≡ false → BreaksEnds b t q r → BreaksFit kind b t q r
  ordinates : {q : ℕ} {r : Rule} (f : ℕ) → has_points kind ≡ true → 2 ≤ f → f ≤ 5 → BreaksOrdinates b t f q r → BreaksFit kind b t q r

-- what the geometry at t, for which this type holds, breaks in front of its parts
abbrev pub BreaksOwn : ℕ → List ℕ → ℕ → ℕ → Rule → Type 0
BreaksOwn kind b t q r = BreaksVectors kind b t q r ⊎ BreaksFit kind b t q r

-- what it weighs without its parts: 4 for the table, and the bytes of the elements
abbrev pub weight_of : ℕ → List ℕ → ℕ → ℕ
weight_of kind b t =
    4 + (if has_rings kind then 4 * count_in b t 0 else 0)
    + (if has_points kind then 8 * (count_in b t 1 + count_in b t 2 + count_in b t 3 + count_in b t 4 + count_in b t 5) else 0)
    + (if has_parts kind then 4 * count_in b t 7 else 0)

-- the vectors that the table at t leads to, none where its type has no such vector
pub record ShowsLists (kind : ℕ) (b : List ℕ) (base t : ℕ) (lists : Lists) : Type 0 where
  pub ends : ShowsRead (has_rings kind) 4 b base t 0 lists.ends
  pub xy : ShowsRead (has_points kind) 8 b base t 1 lists.xy
  pub z : ShowsRead (has_points kind) 8 b base t 2 lists.z
  pub m : ShowsRead (has_points kind) 8 b base t 3 lists.m
  pub t' : ShowsRead (has_points kind) 8 b base t 4 lists.t
  pub tm : ShowsRead (has_points kind) 8 b base t 5 lists.tm
  pub parts : ShowsReadTables (has_parts kind) b base t 7 lists.parts

-- what lists weigh with the table that leads to them
abbrev pub weight_shown : Lists → ℕ
weight_shown lists =
    4 + 4 * counted lists.ends
    + 8 * (counted lists.xy + counted lists.z + counted lists.m + counted lists.t + counted lists.tm)
    + 4 * tables_counted lists.parts

-- each pattern of a vector of points is finite
abbrev pub AreFinite : Option VecView → Type 0
AreFinite xy = ForSome xy (λ xy. All (λ x. IsTrue (is_finite x)) (longs (vector_bytes xy) (vector_place xy)))

-- reading the table at t by itself under a meter, with this type: Ok exactly where nothing is broken in it and the
-- meter has its own weight, which is then taken off, with its list of parts; a refusal names what is broken, or Weight
-- where its vectors are sound
abbrev pub GoesOwn : ℕ → ℕ → List ℕ → ℕ → Meter → Meter → Result (Option TableVec) Broken → Type 0
GoesOwn kind base b t before after result =
    MatchResult result
    (λ parts. ShowsReadTables (has_parts kind) b base t 7 parts × IsClean (BreaksOwn kind b t) × (left_of after + weight_of kind b t ≡ left_of before))
    (λ e. (Names base (BreaksOwn kind b t) e ⊎ (IsClean (BreaksVectors kind b t) × (left_of before < weight_of kind b t) × (e.place ≡ meter_place before) × (e.rule ≡ Weight))) × (left_of after ≤ left_of before))
