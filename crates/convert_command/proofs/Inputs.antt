-- The input of a file, and which features have values.
use Rattle.std.proofs.Common.{ℕ, List, [], ◌∷◌, ◌++◌, map, refl, subst}
use Rattle.std.specs.List.{All, AllByRecursion}
use Rattle.std.proofs.lemmas.List.Elements.{recursion_from_All}
use Rattle.flat_layout.specs.declared.Broken.{Broken}
use Rattle.fgb_schema.specs.Features.{Feature}
use Rattle.fgb_schema.specs.Shapes.{Shape}
use Rattle.fgb_file.specs.File.{first_place, header_in}
use Rattle.fgb_file.proofs.Passing.{file_sound}
use Rattle.fgb_file.proofs.Valid.{valid_file}
use Rattle.owned_features.specs.Owned.{feature_in, places_from}
use Rattle.shape_features.specs.Features.{features_over, header_over}
use Rattle.wkb_file.specs.Spellings.{HasWkb}
use Rattle.wkb_file.specs.Values.{IsWkbFile, ValuesOf}
use Rattle.wkb_grammar.specs.Wkb.{Wkb as IsWkbValue}
use Rattle.wkb_features.specs.Refusals.{IsFirstWithout}
use Rattle.wkb_features.specs.Values.{AreEach, AreValues, HasValue}
use Rattle.command_words.specs.declared.format.Format.{Format}
use Rattle.command_words.specs.declared.format.Format.TheVariants.{Fgb, Wkb}
use Rattle.convert_command.specs.Inputs.{Input, IsAccepted, IsInput}

-- a file of this form has an input
pub record HasInput (from : Format) (image : List ℕ) : Type 0 where
  pub input : Input
  pub is : IsInput from image input

pub input_in : (from : Format) (image : List ℕ) → IsAccepted from image → HasInput from image
input_in Fgb image valid =
    let found = valid_file image valid in
    record {
      input = record {
        header = header_in image;
        features = map (feature_in (header_in image)) found.1;
        places = places_from (first_place image found.0) found.1;
      };
      is = record { index = found.0; pieces = found.1; file = found.2; header = refl; features = refl; places = refl };
    }
input_in Wkb image values = record {
  input = record { header = header_over values.0; features = features_over values.0; places = [] };
  is = record { shapes = values.0; file = values.1; header = refl; features = refl };
}

pub accepted_of : (from : Format) (image : List ℕ) (input : Input) → IsInput from image input → IsAccepted from image
accepted_of Fgb image input is = file_sound image is.file
accepted_of Wkb image input is = (is.shapes, is.file)

-- the features over shapes that can be written have values
each_over : (shapes : List Shape) → AllByRecursion HasWkb shapes → AllByRecursion HasValue (features_over shapes)
each_over [] have = tt
each_over (g ∷ shapes) have = ((have.0.bytes, have.0.is), each_over shapes have.1)

pub values_over : (shapes : List Shape) → All HasWkb shapes → AllByRecursion HasValue (features_over shapes)
values_over shapes have = each_over shapes (recursion_from_All HasWkb shapes have)

-- so have those over the shapes of values, each of which can be written
over_values : ((g : Shape) (bytes : List ℕ) → IsWkbValue g bytes → HasWkb g) → (shapes : List Shape) (bytes : List ℕ) → ValuesOf shapes bytes → AllByRecursion HasValue (features_over shapes)
over_values spell [] bytes are = tt
over_values spell (g ∷ shapes) bytes are = let has = spell g are.piece are.is in ((has.bytes, has.is), over_values spell shapes are.rest are.others)

pub values_of_file : ((g : Shape) (bytes : List ℕ) → IsWkbValue g bytes → HasWkb g) → (shapes : List Shape) (image : List ℕ) → IsWkbFile shapes image → AllByRecursion HasValue (features_over shapes)
values_of_file spell shapes image is = over_values spell shapes image is.values

-- where each feature has one, none is the first without
later : (front : List Feature) (feature : Feature) (rest : List Feature) → AllByRecursion HasValue (front ++ feature ∷ rest) → HasValue feature
later [] feature rest have = have.0
later (f ∷ front) feature rest have = later front feature rest have.1

pub none_without : (features : List Feature) (places : List ℕ) (broken : Broken) → IsFirstWithout features places broken → AllByRecursion HasValue features → ⊥
none_without features places broken lacks have =
    let value = later lacks.front lacks.feature lacks.rest (subst (AllByRecursion HasValue) lacks.split have) in
    lacks.none.none value.0 value.1

-- what is written of features has a value of each
each_has : (features : List Feature) (values : List (List ℕ)) → AreEach features values → AllByRecursion HasValue features
each_has [] values each = tt
each_has (f ∷ rest) [] each = absurd each
each_has (f ∷ rest) (w ∷ values) each = ((w, each.0), each_has rest values each.1)

pub have_values : (features : List Feature) (bytes : List ℕ) → AreValues features bytes → AllByRecursion HasValue features
have_values features bytes are = each_has features are.values are.each
