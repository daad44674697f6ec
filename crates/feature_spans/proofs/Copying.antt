-- How copying by pages goes on.
use Rattle.std.proofs.Common.{◌≡◌, ℕ, List, [], ◌∷◌, ◌++◌, take, drop, sym, ap, subst, ◌∙◌, append_assoc, arith}
use Rattle.std.specs.List.{flat_map}
use Rattle.std.proofs.lemmas.List.{append-nil, drop-drop}
use Rattle.std.proofs.Math.Seq.{take-add}
use Rattle.fgb_outside.specs.Sink.{Sink, Appends, AppendsPart}
use Rattle.fgb_outside.proofs.Shown.{appends_appends, appends_then_part, part_longer}
use Rattle.fgb_file.proofs.Bytes.{slice_is}
use Rattle.feature_spans.specs.declared.features.Span.{Span}
use Rattle.feature_spans.specs.Spans.{LiesIn, bytes_at}
use Rattle.feature_spans.specs.Copies.{Copies, Holds, IsJoined}

-- ## Parts that stand one behind the other

module _ (first second both : Span) (is : IsJoined first second both) where
  pub joined_bytes : (image : List ℕ) → bytes_at image both ≡ bytes_at image first ++ bytes_at image second
  joined_bytes image =
      slice_is image both.at both.len
      ∙ ap (λ p. take both.len (drop p image)) is.at
      ∙ ap (λ n. take n (drop first.at image)) is.len
      ∙ take-add first.len second.len (drop first.at image)
      ∙ ap (λ xs. take first.len (drop first.at image) ++ take second.len xs) (drop-drop first.len first.at image)
      ∙ ap (λ p. take first.len (drop first.at image) ++ take second.len (drop p image)) (sym is.behind)
      ∙ ap (λ xs. xs ++ take second.len (drop second.at image)) (sym (slice_is image first.at first.len))
      ∙ ap (λ xs. bytes_at image first ++ xs) (sym (slice_is image second.at second.len))

  pub joined_lies : (size : ℕ) → LiesIn 0 size first → LiesIn 0 size second → LiesIn 0 size both
  joined_lies size one other = record {
    some = omega (arith, is.len, one.some);
    from_on = omega arith;
    before = omega (arith, is.at, is.len, is.behind, other.before);
  }

  -- behind what stands in front
  pub joined_more : (image bytes rest : List ℕ) → bytes_at image first ++ (bytes_at image second ++ rest) ≡ bytes → bytes_at image both ++ rest ≡ bytes
  joined_more image bytes rest whole = ap (λ xs. xs ++ rest) (joined_bytes image) ∙ append_assoc (bytes_at image first) (bytes_at image second) rest ∙ whole

-- ## Page by page

module _ (image : List ℕ) (a : Sink) (spans : List Span) where
  module _ (b : Sink) (page : List ℕ) (rest : List Span) (copies : Copies image a b page spans rest) where
    -- a front of what stands on the page was written
    pub copies_part : (c : Sink) → AppendsPart b c page → AppendsPart a c (flat_map (bytes_at image) spans)
    copies_part c part =
        let written = copies.holds.written in
        let left = flat_map (bytes_at image) rest in
        subst (AppendsPart a c) (ap (λ xs. xs ++ left) copies.holds.whole ∙ copies.whole)
        (part_longer a c (written ++ page) left (appends_then_part a b c written page copies.holds.appends part))

    -- some of it or all
    pub copies_room : (c : Sink) (page' : List ℕ) → Holds b c page' page → Copies image a c page' spans rest
    copies_room c page' holds =
        let written = copies.holds.written in record {
          done = copies.done;
          holds = record {
            written = written ++ holds.written;
            appends = appends_appends a b c written holds.written copies.holds.appends holds.appends;
            whole = append_assoc written holds.written page' ∙ ap (λ xs. written ++ xs) holds.whole ∙ copies.holds.whole;
          };
          whole = copies.whole;
        }

    -- the bytes of a run were laid on it
    pub copies_more : (page' : List ℕ) (first run : Span) (others later : List Span) → page' ≡ page ++ bytes_at image run → rest ≡ first ∷ others
        → bytes_at image run ++ flat_map (bytes_at image) later ≡ bytes_at image first ++ flat_map (bytes_at image) others → Copies image a b page' spans later
    copies_more page' first run others later grows splits same =
        let written = copies.holds.written in
        let bytes = bytes_at image run in record {
          done = copies.done ++ bytes;
          holds = record {
            written = written;
            appends = copies.holds.appends;
            whole = ap (λ xs. written ++ xs) grows ∙ sym (append_assoc written page bytes) ∙ ap (λ xs. xs ++ bytes) copies.holds.whole;
          };
          whole =
              append_assoc copies.done bytes (flat_map (bytes_at image) later)
              ∙ ap (λ xs. copies.done ++ xs) (same ∙ ap (flat_map (bytes_at image)) (sym splits))
              ∙ copies.whole;
        }

    -- the last page was written
    pub copies_all : (c : Sink) → rest ≡ [] → Holds b c [] page → Appends a c (flat_map (bytes_at image) spans)
    copies_all c none holds =
        let last = copies_room c [] holds in
        subst (Appends a c)
        (sym (append-nil last.holds.written) ∙ last.holds.whole ∙ sym (append-nil last.done) ∙ ap (λ (xs : List Span). last.done ++ flat_map (bytes_at image) xs) (sym none) ∙ last.whole)
        last.holds.appends
