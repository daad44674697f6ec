-- Counting features, and judging their number.
use Rattle.std.proofs.Common.{◌≡◌, ℕ, ◌+◌, ◌<◌, ◌≤◌, List, [], ◌∷◌, ◌++◌, length, take, sym, ap, subst, ◌∙◌, arith, length-append}
use Rattle.std.specs.List.{concat}
use Rattle.std.proofs.lemmas.List.{take_at, take-append-le}
use Rattle.flat_layout.specs.declared.Rule.TheVariants.{FeatureCount}
use Rattle.fgb_file.specs.File.{told_count, Walks, Agrees, BreaksCount, too_few, too_many}
use Rattle.fgb_file.proofs.Walk.{walk_offset}
use Rattle.fgb_file.proofs.Passing.{agrees_untold, agrees_same}
use Rattle.fgb_reader.specs.Tallies.{Counts}
use Rattle.fgb_reader.specs.declared.tally.Tally.{Tally}

module _ (image : List ℕ) (first : ℕ) (pieces : List (List ℕ)) (t : Tally) (counts : Counts image first pieces t) where
  longer : (piece : List ℕ) → length (pieces ++ piece ∷ []) ≡ length pieces + 1
  longer piece = length-append pieces (piece ∷ [])

  -- one more, which is the first that is too many
  pub counts_first : (piece : List ℕ) (t' : Tally) (place : ℕ) → Walks image first pieces place → t'.surplus ≡ place → t'.told ≡ t.told → t'.seen ≡ t.seen + 1 → t.seen ≡ t.told → Counts image first (pieces ++ piece ∷ []) t'
  counts_first piece t' place walks stands told seen all =
      let front : take (told_count image) (pieces ++ piece ∷ []) ≡ pieces = take_at pieces (piece ∷ []) (told_count image) (omega (arith, counts.told, counts.seen)) in
      record {
        told = told ∙ counts.told;
        seen = omega (arith, counts.seen, longer piece);
        surplus = λ many. stands ∙ sym (walk_offset image first pieces place walks) ∙ ap (λ ps. first + length (concat ps)) (sym front);
      }

  -- one more at any other time
  pub counts_more : (piece : List ℕ) (t' : Tally) → t'.surplus ≡ t.surplus → t'.told ≡ t.told → t'.seen ≡ t.seen + 1 → (t.seen ≡ t.told → ⊥) → Counts image first (pieces ++ piece ∷ []) t'
  counts_more piece t' surplus told seen other = record {
    told = told ∙ counts.told;
    seen = omega (arith, counts.seen, longer piece);
    surplus = λ many.
        let before : told_count image < length pieces = omega (arith, many, longer piece, other, counts.told, counts.seen) in
        surplus ∙ counts.surplus before ∙ ap (λ ps. first + length (concat ps)) (sym (take-append-le (told_count image) pieces (piece ∷ []) (omega arith)));
  }

  pub counts_few : (end : ℕ) → end ≡ length image → t.seen < t.told → BreaksCount image first pieces end FeatureCount
  counts_few end whole few = subst (λ n. BreaksCount image first pieces n FeatureCount) (sym whole) (too_few (omega (arith, few, counts.told, counts.seen)))

  pub counts_many : 0 < t.told → t.told < t.seen → BreaksCount image first pieces t.surplus FeatureCount
  counts_many some many =
      let more : told_count image < length pieces = omega (arith, many, counts.told, counts.seen) in
      subst (λ n. BreaksCount image first pieces n FeatureCount) (sym (counts.surplus more)) (too_many (omega (arith, some, counts.told)) more)

  pub counts_untold : t.told ≤ 0 → Agrees (told_count image) (length pieces) × (t.seen ≡ length pieces)
  counts_untold none = (agrees_untold (omega (arith, none, counts.told)), counts.seen)

  pub counts_same : t.told ≤ t.seen → t.seen ≤ t.told → Agrees (told_count image) (length pieces) × (t.seen ≡ length pieces)
  counts_same low high = (agrees_same (omega (arith, low, high, counts.told, counts.seen)), counts.seen)
