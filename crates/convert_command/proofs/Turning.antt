-- A WKB file as a FlatGeobuf file, and back.
use Rattle.std.proofs.Common.{◌≡◌, ◌∙◌, ℕ, List, [], ◌∷◌, map, refl, sym, ap, subst}
use Rattle.std.specs.List.{AllByRecursion, concat}
use Rattle.fgb_schema.specs.Headers.{Header}
use Rattle.fgb_schema.specs.Features.{Feature, feature_at}
use Rattle.fgb_schema.specs.Shapes.{Shape}
use Rattle.fgb_file.specs.File.{header_in}
use Rattle.fgb_file.proofs.Passing.{files_same}
use Rattle.laid_features.specs.Buffers.{pieces_of, shown_in}
use Rattle.plain_file.specs.Plain.{plain_header}
use Rattle.fgb_lay.specs.Laying.{IsLaid, laid_file}
use Rattle.owned_features.specs.Owned.{feature_in}
use Rattle.shape_features.specs.Features.{features_over, header_over}
use Rattle.wkb_file.specs.Spellings.{SpellingsOf}
use Rattle.wkb_features.specs.Values.{AreEach, AreValues, HasValue}
use Rattle.convert_command.specs.Inputs.{Input, IsFileInput}

-- the values of features over shapes are their spellings
each_spelled : (shapes : List Shape) (values : List (List ℕ)) → AreEach (features_over shapes) values → SpellingsOf shapes (concat values)
each_spelled [] [] each = refl
each_spelled [] (w ∷ values) each = absurd each
each_spelled (g ∷ shapes) [] each = absurd each
each_spelled (g ∷ shapes) (w ∷ values) each = record { piece = w; rest = concat values; stands = refl; is = each.0; others = each_spelled shapes values each.1 }

pub values_spelled : (shapes : List Shape) (bytes : List ℕ) → AreValues (features_over shapes) bytes → SpellingsOf shapes bytes
values_spelled shapes bytes are = subst (SpellingsOf shapes) (sym are.whole) (each_spelled shapes are.values are.each)

-- a header, but for the number of features and the node size, shows the same features
shown_each : (header : Header) (all pieces : List (List ℕ)) → map (feature_in (plain_header header all)) pieces ≡ map (shown_in header) pieces
unfolding feature_at
shown_each header all [] = refl
shown_each header all (piece ∷ pieces) = ap (λ fs. shown_in header piece ∷ fs) (shown_each header all pieces)

-- the file that was laid shows the features that were laid
pub same_features : (header : Header) (features : List Feature) (input : Input) → IsLaid header features → IsFileInput (laid_file header features) input → input.features ≡ features
same_features header features input laid is =
    let pieces : pieces_of features ≡ is.pieces = (files_same (laid_file header features) laid.file is.file).1 in
    is.features
    ∙ ap (map (feature_in (header_in (laid_file header features)))) (sym pieces)
    ∙ ap (λ h. map (feature_in h) (pieces_of features)) laid.told
    ∙ shown_each header (pieces_of features) (pieces_of features)
    ∙ laid.shown

pub turns : (shapes : List Shape) (input : Input) (bytes : List ℕ) → IsLaid (header_over shapes) (features_over shapes)
    → IsFileInput (laid_file (header_over shapes) (features_over shapes)) input → AreValues input.features bytes → SpellingsOf shapes bytes
turns shapes input bytes laid is are =
    values_spelled shapes bytes (subst (λ fs. AreValues fs bytes) (same_features (header_over shapes) (features_over shapes) input laid is) are)

pub turns_some : (shapes : List Shape) (input : Input) → AllByRecursion HasValue (features_over shapes) → IsLaid (header_over shapes) (features_over shapes)
    → IsFileInput (laid_file (header_over shapes) (features_over shapes)) input → AllByRecursion HasValue input.features
turns_some shapes input values laid is = subst (AllByRecursion HasValue) (sym (same_features (header_over shapes) (features_over shapes) input laid is)) values
