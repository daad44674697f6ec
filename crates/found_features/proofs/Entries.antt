-- The entries of a file and the found ones, piece by piece.
use Rattle.std.proofs.Common.{◌≡◌, ℕ, ◌+◌, zero-add, Bool, true, false, List, [], ◌∷◌, ◌++◌, length, slice_range, refl, ap, ◌∙◌, arith, length-append}
use Rattle.std.specs.List.{filter, concat}
use Rattle.std.proofs.lemmas.List.{append-nil}
use Rattle.std.proofs.lemmas.List.Elements.{filter-append}
use Rattle.order_keys.specs.declared.bounds.Bounds.{Bounds}
use Rattle.box_list.specs.Lists.{meets_any}
use Rattle.fgb_schema.specs.Headers.{Header}
use Rattle.fgb_file.specs.File.{box_of}
use Rattle.found_features.specs.Entries.{Entry, entries, found}

module _ (header : Header) where
  pub entries-append : (number offset : ℕ) (ws ps : List (List ℕ))
      → entries header number offset (ws ++ ps) ≡ entries header number offset ws ++ entries header (number + length ws) (offset + length (concat ws)) ps
  entries-append number offset [] ps =
      let a : number ≡ number + 0 = omega arith in
      let b : offset ≡ offset + 0 = omega arith in
      ap (λ n. entries header n offset ps) a ∙ ap (λ o. entries header (number + 0) o ps) b
  entries-append number offset (w ∷ ws) ps =
      let head : Entry = record { number = number; offset = offset; buffer = slice_range w 4 (length w); own = box_of header w } in
      let a : number + 1 + length ws ≡ number + length (w ∷ ws) = omega arith in
      let b : offset + length w + length (concat ws) ≡ offset + length (concat (w ∷ ws)) = omega (arith, length-append w (concat ws)) in
      ap (λ (es : List Entry). head ∷ es) (
      entries-append (number + 1) (offset + length w) ws ps
      ∙ ap (λ n. entries header (number + 1) (offset + length w) ws ++ entries header n (offset + length w + length (concat ws)) ps) a
      ∙ ap (λ o. entries header (number + 1) (offset + length w) ws ++ entries header (number + length (w ∷ ws)) o ps) b)

  -- there are as many as pieces
  pub length-entries : (number offset : ℕ) (ps : List (List ℕ)) → length (entries header number offset ps) ≡ length ps
  length-entries number offset [] = refl
  length-entries number offset (p ∷ ps) = omega (arith, length-entries (number + 1) (offset + length p) ps)

  -- the entry of the piece behind others
  abbrev pub next_entry : List (List ℕ) → List ℕ → Entry
  next_entry ws piece = record { number = length ws; offset = length (concat ws); buffer = slice_range piece 4 (length piece); own = box_of header piece }

  module _ (query : List Bounds) where
    abbrev test : Entry → Bool
    test e = meets_any query e.own

    -- the found ones among more pieces, behind others
    abbrev pub found_behind : List (List ℕ) → List (List ℕ) → List Entry
    found_behind ws ps = filter test (entries header (length ws) (length (concat ws)) ps)

    -- more pieces only add found ones at the end
    pub found-append : (ws ps : List (List ℕ)) → found header query (ws ++ ps) ≡ found header query ws ++ found_behind ws ps
    found-append ws ps =
        ap (filter test) (entries-append 0 0 ws ps)
        ∙ filter-append test (entries header 0 0 ws) (entries header (0 + length ws) (0 + length (concat ws)) ps)
        ∙ ap (λ n. found header query ws ++ filter test (entries header n (0 + length (concat ws)) ps)) (zero-add (length ws))
        ∙ ap (λ o. found header query ws ++ filter test (entries header (length ws) o ps)) (zero-add (length (concat ws)))

    -- one more piece adds its entry where its own box meets one of the boxes that are sought, and else nothing
    pub found_hit : (ws : List (List ℕ)) (piece : List ℕ) → meets_any query (box_of header piece) ≡ true → found header query (ws ++ piece ∷ []) ≡ found header query ws ++ next_entry ws piece ∷ []
    found_hit ws piece hit = found-append ws (piece ∷ []) ∙ ap (λ es. found header query ws ++ es) (one hit)
      where
        one : meets_any query (box_of header piece) ≡ true → found_behind ws (piece ∷ []) ≡ next_entry ws piece ∷ []
        one e = rw e refl

    pub found_miss : (ws : List (List ℕ)) (piece : List ℕ) → meets_any query (box_of header piece) ≡ false → found header query (ws ++ piece ∷ []) ≡ found header query ws
    found_miss ws piece miss = found-append ws (piece ∷ []) ∙ ap (λ es. found header query ws ++ es) (none miss) ∙ append-nil (found header query ws)
      where
        none : meets_any query (box_of header piece) ≡ false → found_behind ws (piece ∷ []) ≡ []
        none e = rw e refl
