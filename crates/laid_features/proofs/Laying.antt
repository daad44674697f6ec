-- Features whose buffers read back under each header that they fit.
use Rattle.std.proofs.Common.{◌≡◌, ◌∙◌, List, [], ◌∷◌, map, refl, ap}
use Rattle.std.specs.List.{AllByRecursion}
use Rattle.flat_layout.specs.Promises.{IsClean}
use Rattle.fgb_schema.specs.Headers.{Header}
use Rattle.fgb_schema.specs.Features.{Feature, box_of_shape, feature_of, own_box}
use Rattle.fgb_schema.specs.Paths.{feature_root}
use Rattle.fgb_schema.specs.Weights.{BreaksBuffer}
use Rattle.fgb_file.specs.File.{IsFeature, box_of}
use Rattle.feature_tables.specs.Records.{Fits}
use Rattle.laid_features.specs.Buffers.{HasRoom, buffer_of, framed, pieces_of, shown_in}
use Rattle.laid_features.proofs.Framing.{framed_back, framed_feature}

-- the buffer of a feature has room, and under each header that the feature fits it breaks no rule and shows just the
-- feature
pub record ReadsBack (f : Feature) : Type 0 where
  pub room : HasRoom f
  pub clean : (h : Header) → Fits h f → IsClean (BreaksBuffer (buffer_of f) (feature_root h))
  pub shown : (h : Header) → Fits h f → feature_of h (buffer_of f) ≡ f

-- all of them, under a header that they fit
module _ (h : Header) where
  pub all_features : (features : List Feature) → AllByRecursion ReadsBack features → AllByRecursion (Fits h) features → AllByRecursion (IsFeature h) (pieces_of features)
  all_features [] all fit = tt
  all_features (f ∷ rest) all fit = (framed_feature h (buffer_of f) all.0.room (all.0.clean h fit.0), all_features rest all.1 fit.1)

  shown_here : (f : Feature) → ReadsBack f → Fits h f → shown_in h (framed (buffer_of f)) ≡ f
  shown_here f back fits = ap (feature_of h) (framed_back (buffer_of f)) ∙ back.shown h fits

  pub all_shown : (features : List Feature) → AllByRecursion ReadsBack features → AllByRecursion (Fits h) features → map (shown_in h) (pieces_of features) ≡ features
  all_shown [] all fit = refl
  all_shown (f ∷ rest) all fit =
      ap (λ g. g ∷ map (shown_in h) (pieces_of rest)) (shown_here f all.0 fit.0) ∙ ap (λ fs. f ∷ fs) (all_shown rest all.1 fit.1)

  pub all_boxed : (features : List Feature) → AllByRecursion ReadsBack features → AllByRecursion (Fits h) features
      → map (box_of h) (pieces_of features) ≡ map (λ (f : Feature). box_of_shape f.shape) features
  all_boxed [] all fit = refl
  all_boxed (f ∷ rest) all fit =
      ap (λ g. own_box g ∷ map (box_of h) (pieces_of rest)) (shown_here f all.0 fit.0) ∙ ap (λ bs. own_box f ∷ bs) (all_boxed rest all.1 fit.1)
