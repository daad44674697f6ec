-- What is told of a file that was made and queried.
use Rattle.std.proofs.Common.{◌≡◌, ℕ, List, [], ◌∷◌, ◌++◌, length, Option, subst}
use Rattle.order_keys.specs.declared.bounds.Bounds.{Bounds}
use Rattle.level_bounds.specs.Levels.{Shape}
use Rattle.fgb_file.specs.File.{IsFile, header_in}
use Rattle.found_features.specs.Entries.{found}
use Rattle.make_command.specs.declared.making.Made.{Made}
use Rattle.make_command.specs.declared.querying.Lines.{Lines}
use Rattle.make_command.specs.Made.{IsMadeText, IsTenAround, summary_line}
use Rattle.make_command.specs.Queries.{AreLines, IsMade}

same_text : (text lines answer : List ℕ) (a b c d e a' b' c' d' e' : ℕ) → text ≡ lines ++ summary_line a b c d e → lines ≡ answer → a ≡ a' → b ≡ b' → c ≡ c' → d ≡ d' → e ≡ e'
    → text ≡ answer ++ summary_line a' b' c' d' e'
same_text text lines answer a b c d e a' b' c' d' e' whole same ea eb ec ed ee = cc (whole, same, ea, eb, ec, ed, ee)

module _ (count start : ℕ) (file : Made) (box : Bounds) where
  told_of_one : (many size : ℕ) (lines : Lines) (text : List ℕ) → IsMade count start file → IsTenAround box
      → ((index : Option Shape) (pieces : List (List ℕ)) → IsFile file.bytes.items index pieces → many ≡ length (found (header_in file.bytes.items) (box ∷ []) pieces))
      → AreLines file.bytes.items (box ∷ []) lines → size ≡ length file.bytes.items
      → text ≡ lines.text.items ++ summary_line file.features file.nodes size many lines.asked → IsMadeText count start text
  told_of_one many size lines text made around all are sized whole =
      let packed = made.packed in let index = packed.index in let pieces = packed.pieces in record {
        bytes = file.bytes.items;
        index = index;
        pieces = pieces;
        file = packed.file;
        box = box;
        around = around;
        whole = same_text text lines.text.items _ _ _ _ _ _ _ _ _ _ _ whole (are.text index pieces packed.sound) made.counted packed.counted sized (all index pieces packed.sound) (are.asked index pieces packed.sound);
      }

pub made_text : (count start : ℕ) (file : Made) (box : Bounds) (boxes : List Bounds) (many size : ℕ) (lines : Lines) (text : List ℕ) → boxes ≡ box ∷ [] → IsMade count start file → IsTenAround box
    → ((index : Option Shape) (pieces : List (List ℕ)) → IsFile file.bytes.items index pieces → many ≡ length (found (header_in file.bytes.items) boxes pieces))
    → AreLines file.bytes.items boxes lines → size ≡ length file.bytes.items
    → text ≡ lines.text.items ++ summary_line file.features file.nodes size many lines.asked → IsMadeText count start text
made_text count start file box boxes many size lines text one made around all are =
    told_of_one count start file box many size lines text made around
    (subst (λ bs. (index : Option Shape) (pieces : List (List ℕ)) → IsFile file.bytes.items index pieces → many ≡ length (found (header_in file.bytes.items) bs pieces)) one all)
    (subst (λ bs. AreLines file.bytes.items bs lines) one are)
