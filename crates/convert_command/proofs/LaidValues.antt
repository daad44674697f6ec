-- The file over the shapes of a WKB file is valid, where it has room.
use Rattle.std.proofs.Common.{◌≡◌, ◌∙◌, inl, inr, ℕ, suc, ◌^◌, ◌<◌, ◌≤◌, List, [], ◌∷◌, length, map, None, Some, ap, refl, subst, arith, length-append}
use Rattle.std.specs.List.{AllByRecursion}
use Rattle.std.proofs.lemmas.Bool.{cases_lt}
use Rattle.flat_layout.specs.Promises.{IsClean}
use Rattle.fgb_schema.specs.Headers.{Header}
use Rattle.fgb_schema.specs.Features.{Feature, feature_of}
use Rattle.fgb_schema.specs.Paths.{feature_root}
use Rattle.fgb_schema.specs.Shapes.{Shape}
use Rattle.fgb_schema.specs.Weights.{BreaksBuffer}
use Rattle.fgb_file.specs.File.{IsFeature, IsFile, header_in}
use Rattle.flat_builder.specs.Laying.{laid}
use Rattle.owned_shape.proofs.Standing.{can_stand}
use Rattle.header_tables.specs.Records.{IsRecord as IsHeader}
use Rattle.shape_tables.specs.Records.{IsRecord as IsShape}
use Rattle.feature_tables.specs.Laying.{feature_table}
use Rattle.feature_tables.specs.Records.{Fits, IsRecord}
use Rattle.feature_info.specs.Records.{bare}
use Rattle.wkb_grammar.specs.Grammar.{Value, value, bytes_of}
use Rattle.wkb_grammar.specs.Wkb.{Wkb}
use Rattle.wkb_grammar.proofs.Recorded.{wkb_is_record}
use Rattle.wkb_grammar.proofs.Sizes.{length-value}
use Rattle.laid_features.specs.Buffers.{HasRoom, IsTooLarge, buffer_of, pieces_of, shown_in}
use Rattle.laid_features.proofs.Framing.{framed_back, framed_feature}
use Rattle.plain_file.specs.Plain.{IsTooLarge as IsLargeFile, plain_file, plain_header}
use Rattle.fgb_lay.specs.Laying.{HasNoRoom, IsLaid, of_feature, of_file}
use Rattle.shape_features.specs.Features.{features_over, header_over}
use Rattle.wkb_file.specs.Values.{IsWkbFile, ValuesOf}

-- each value has some bytes
long : (v : Value) → 5 ≤ length (bytes_of v)
long (value order d body) = omega (arith, length-value order d body)

some_bytes : (g : Shape) (bytes : List ℕ) → Wkb g bytes → 5 ≤ length bytes
some_bytes g bytes w = omega (arith, ap length w.spells, long w.spelled)

few_values : (shapes : List Shape) (bytes : List ℕ) → ValuesOf shapes bytes → length shapes ≤ length bytes
few_values [] bytes are = omega arith
few_values (g ∷ shapes) bytes are =
    omega (arith, ap length are.stands, length-append are.piece are.rest, some_bytes g are.piece are.is, few_values shapes are.rest are.others)

header_record : (shapes : List Shape) → length shapes < 2 ^ 64 → IsHeader (header_over shapes)
header_record shapes few = record {
  kind = omega arith;
  wide = λ never. absurd (cc never);
  few = omega arith;
  columns = tt;
  crs = λ x never. absurd (cc never);
  envelope = tt;
  count = few;
  size = omega arith;
  name = λ x never. absurd (cc never);
  title = λ x never. absurd (cc never);
  description = λ x never. absurd (cc never);
  metadata = λ x never. absurd (cc never);
}

feature_record : (g : Shape) → IsShape g → IsRecord (bare (Some g))
feature_record g is = record {
  shape = λ s same. let equal : g ≡ s = cc same in subst IsShape equal is;
  properties = tt;
  columns = tt;
  few = omega arith;
}

features_record : (shapes : List Shape) (bytes : List ℕ) → ValuesOf shapes bytes → AllByRecursion IsRecord (features_over shapes)
features_record [] bytes are = tt
features_record (g ∷ shapes) bytes are = (feature_record g (can_stand g (wkb_is_record g are.piece are.is)), features_record shapes are.rest are.others)

-- where none is too large, each has room
first_large : (f : Feature) (rest : List Feature) → 268435456 < length (buffer_of f) → IsTooLarge (f ∷ rest)
first_large f rest large = record { feature = f; among = (0, omega arith, refl); large = large }

later_large : (f : Feature) (rest : List Feature) → IsTooLarge rest → IsTooLarge (f ∷ rest)
later_large f rest is = record { feature = is.feature; among = (suc is.among.0, omega (arith, is.among.1), is.among.2); large = is.large }

have_room : (features : List Feature) → (IsTooLarge features → ⊥) → AllByRecursion HasRoom features
have_room [] fits = tt
have_room (f ∷ rest) fits =
    (elim (cases_lt 268435456 (length (buffer_of f))) [ inl large ↦ absurd (fits (first_large f rest large)) | inr small ↦ small ], have_room rest (λ large. fits (later_large f rest large)))

-- what the laws of the layers below give
pub record ReadBack : Type 0 where
  pub clean : (h : Header) (f : Feature) → IsRecord f → Fits h f → length (laid (feature_table f)) < 2 ^ 31 → IsClean (BreaksBuffer (laid (feature_table f)) (feature_root h))
  pub shown : (h : Header) (f : Feature) → IsRecord f → Fits h f → length (laid (feature_table f)) < 2 ^ 31 → feature_of h (laid (feature_table f)) ≡ f
  pub file : (header : Header) (pieces : List (List ℕ)) → IsHeader header → AllByRecursion (IsFeature header) pieces → (IsLargeFile header pieces → ⊥)
      → IsFile (plain_file header pieces) None pieces
  pub header : (header : Header) (pieces : List (List ℕ)) → IsHeader header → AllByRecursion (IsFeature header) pieces → (IsLargeFile header pieces → ⊥)
      → header_in (plain_file header pieces) ≡ plain_header header pieces

-- each feature fits a header that knows no type
each_fits : (all shapes : List Shape) → AllByRecursion (Fits (header_over all)) (features_over shapes)
each_fits all [] = tt
each_fits all (g ∷ shapes) = (record { shape = λ s is. inl refl; properties = tt }, each_fits all shapes)

module _ (laws : ReadBack) (h : Header) where
  each_clean : (features : List Feature) → AllByRecursion IsRecord features → AllByRecursion HasRoom features → AllByRecursion (Fits h) features → AllByRecursion (IsFeature h) (pieces_of features)
  each_clean [] are room fit = tt
  each_clean (f ∷ rest) are room fit =
      let small : length (buffer_of f) < 2 ^ 31 = omega (arith, room.0) in
      (framed_feature h (buffer_of f) room.0 (laws.clean h f are.0 fit.0 small), each_clean rest are.1 room.1 fit.1)

  each_shown : (features : List Feature) → AllByRecursion IsRecord features → AllByRecursion HasRoom features → AllByRecursion (Fits h) features → map (shown_in h) (pieces_of features) ≡ features
  each_shown [] are room fit = refl
  each_shown (f ∷ rest) are room fit =
      let small : length (buffer_of f) < 2 ^ 31 = omega (arith, room.0) in
      ap (λ g. g ∷ map (shown_in h) (pieces_of rest)) (ap (feature_of h) (framed_back (buffer_of f)) ∙ laws.shown h f are.0 fit.0 small)
      ∙ ap (λ fs. f ∷ fs) (each_shown rest are.1 room.1 fit.1)

pub laid_values : ReadBack → (shapes : List Shape) (image : List ℕ) → IsWkbFile shapes image → (HasNoRoom (header_over shapes) (features_over shapes) → ⊥) → IsLaid (header_over shapes) (features_over shapes)
laid_values laws shapes image is fits =
    let header = header_over shapes in
    let features = features_over shapes in
    let few : length shapes < 2 ^ 64 = omega (arith, few_values shapes image is.values, is.small) in
    let are = features_record shapes image is.values in
    let room = have_room features (λ large. fits (of_feature large)) in
    let fit = each_fits shapes shapes in
    let each = each_clean laws header features are room fit in
    let small : IsLargeFile header (pieces_of features) → ⊥ = λ large. fits (of_file large) in
    record {
      file = laws.file header (pieces_of features) (header_record shapes few) each small;
      told = laws.header header (pieces_of features) (header_record shapes few) each small;
      shown = each_shown laws header features are room fit;
    }
