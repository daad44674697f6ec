-- A file without an index breaks no rule.
use Rattle.std.proofs.Common.{◌≡◌, ◌∙◌, inl, inr, ℕ, ◌+◌, ◌^◌, ◌≤◌, ◌&&◌, nat_lt, Bool, true, false, List, ◌++◌, length, take, None, refl, ap, sym, subst}
use Rattle.std.specs.List.{AllByRecursion, concat}
use Rattle.std.proofs.lemmas.Bool.{cases_lt}
use Rattle.std.proofs.lemmas.List.{take_at}
use Rattle.flat_layout.specs.Promises.{IsClean}
use Rattle.fgb_schema.specs.Headers.{Header, has_index, header_of}
use Rattle.fgb_schema.specs.Paths.{header_root}
use Rattle.fgb_schema.specs.Weights.{BreaksBuffer}
use Rattle.fgb_outside.proofs.Asking.{AllByRecursion-weaken}
use Rattle.fgb_file.specs.File.{IsFeature, IsFile, absent, header_end, header_in}
use Rattle.fgb_file.proofs.Passing.{agrees_same}
use Rattle.plain_file.specs.Plain.{IsTooLarge, large_file, large_header, plain_file, plain_head, plain_header}
use Rattle.plain_file.proofs.Fronts.{end_is, front, header_is, header_sound, made, made_long}

pub plain_file_long : (header : Header) (pieces : List (List ℕ)) → length (plain_file header pieces) ≡ 12 + length (plain_head header pieces) + length (concat pieces)
unfolding plain_file
plain_file_long header pieces = made_long (plain_head header pieces) (concat pieces)

none_above : (told : Bool) → (told && nat_lt 0 0) ≡ false
none_above true = refl
none_above false = refl

module _ (header : Header) (pieces : List (List ℕ)) (fits : IsTooLarge header pieces → ⊥) where
  pub small_head : length (plain_head header pieces) ≤ 10485760
  small_head = elim (cases_lt 10485760 (length (plain_head header pieces))) [ inl large ↦ absurd (fits (large_header large)) | inr small ↦ small ]

  pub small_file : length (plain_file header pieces) ≤ 2 ^ 48
  small_file = elim (cases_lt (2 ^ 48) (length (plain_file header pieces))) [ inl large ↦ absurd (fits (large_file large)) | inr small ↦ small ]

-- where the header's buffer breaks no rule, and shows the header
module _ (header : Header) (pieces : List (List ℕ)) (small : length (plain_head header pieces) ≤ 10485760)
    (shown : header_of (plain_head header pieces) ≡ plain_header header pieces) where
  abbrev image : List ℕ
  image = made (plain_head header pieces) (concat pieces)

  shown_here : header_in image ≡ plain_header header pieces
  shown_here = header_is (plain_head header pieces) (concat pieces) small (plain_header header pieces) shown

  end_here : header_end image ≡ length (front (plain_head header pieces))
  end_here = end_is (plain_head header pieces) (concat pieces) small

  whole : image ≡ take (header_end image) image ++ concat pieces
  whole = ap (λ s. s ++ concat pieces) (sym (take_at (front (plain_head header pieces)) (concat pieces) (header_end image) (sym end_here)))

  -- neither the number of features nor the node size says what features are under a header
  each_here : AllByRecursion (IsFeature header) pieces → AllByRecursion (IsFeature (header_in image)) pieces
  each_here each =
      subst (λ h. AllByRecursion (IsFeature h) pieces) (sym shown_here)
      (AllByRecursion-weaken (IsFeature header) (IsFeature (plain_header header pieces)) (λ piece is. record { framed = is.framed; clean = is.clean }) pieces each)

  unindexed : has_index (header_in image) ≡ false
  unindexed = ap has_index shown_here ∙ none_above (nat_lt 0 (length pieces))

  pub plain_header_shown : header_in (plain_file header pieces) ≡ plain_header header pieces
  unfolding plain_file
  plain_header_shown = shown_here

  pub plain_is_file : IsClean (BreaksBuffer (plain_head header pieces) header_root) → length (plain_file header pieces) ≤ 2 ^ 48 → AllByRecursion (IsFeature header) pieces
      → IsFile (plain_file header pieces) None pieces
  unfolding plain_file
  plain_is_file clean within each = record {
    opened = record { header = header_sound (plain_head header pieces) (concat pieces) small clean within; between = absent unindexed };
    nodes = tt;
    whole = whole;
    each = each_here each;
    leaves = λ before piece rest parts. tt;
    counted = agrees_same (ap (λ (h : Header). h.features_count) shown_here);
  }
