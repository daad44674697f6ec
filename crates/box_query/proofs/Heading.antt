-- What a query asks for: the start and the header, and then what it needs of the rest.
use Rattle.std.proofs.Common.{◌≡◌, ℕ, ◌+◌, ◌-◌, ◌≤◌, List, [], ◌++◌, length, Option, Some, None, Result, Ok, Err, MatchResult, sym, ap, subst, ◌∙◌, zero-add, arith}
use Rattle.std.specs.List.{range_with_len}
use Rattle.std.proofs.lemmas.List.{append_assoc}
use Rattle.order_keys.specs.declared.bounds.Bounds.{Bounds}
use Rattle.level_bounds.specs.Levels.{Shape}
use Rattle.fgb_outside.specs.Source.{Source}
use Rattle.fgb_outside.specs.Asked.{IsInside, Reads, ReadsFront}
use Rattle.fgb_outside.proofs.Asking.{range_with_len-append, reads_reads, reads_weaken, reads_along, front_longer, front_weaken, front_along, reads_then_front}
use Rattle.fgb_schema.specs.Headers.{Header, header_of}
use Rattle.fgb_schema.specs.Paths.{header_root}
use Rattle.fgb_schema.specs.Weights.{BreaksBuffer}
use Rattle.flat_layout.specs.declared.Broken.{Broken}
use Rattle.flat_layout.specs.Promises.{IsClean, Judges}
use Rattle.fgb_file.specs.File.{header_buffer, header_size, header_end, header_in, IsStart, IsHeader, IsOpen, BreaksInFront, IsUnindexed, IsFile, IsDeclared, of_start, of_header}
use Rattle.fgb_file.proofs.Opening.{open_same, open_inside}
use Rattle.fgb_file.proofs.Starting.{front_refused}
use Rattle.found_features.specs.Visits.{HeaderBytes}
use Rattle.fgb_reader.specs.Starts.{IsOfStart}
use Rattle.fgb_reader.specs.Requests.{AsksAll, AsksFront}
use Rattle.fgb_reader.proofs.Whole.{whole_front}
use Rattle.gap_window.specs.Gaps.{bridged}
use Rattle.feature_scan.specs.Scans.{IsScan}
use Rattle.box_query.specs.Visited.{bytes_in}
use Rattle.box_query.specs.Needed.{AsksHeader, AsksHeaderFront, AsksIndexed, AsksNeeded, AsksNeededFront, AsksSearch, IsIndexed, asked, asked_behind, asked_nodes, hit_positions}

-- the bytes of a header, as they stand behind the start
abbrev behind_start : List ℕ → HeaderBytes
behind_start bytes = record { place = 12; bytes = bytes }

pub bytes_shown : (image bytes : List ℕ) (shown : HeaderBytes) → shown ≡ record { place = 12; bytes = bytes } → bytes ≡ header_buffer image → shown ≡ bytes_in image
bytes_shown image bytes shown read held = read ∙ ap behind_start held

-- the header, as it was read from its buffer
pub header_judged : {T : Type 0} (shown : T → Header) (image buffer : List ℕ) (r : Result T Broken) → IsStart image → buffer ≡ header_buffer image
    → Judges 12 (BreaksBuffer buffer header_root) (λ h. shown h ≡ header_of buffer) r → MatchResult r (λ h. IsHeader image × (shown h ≡ header_in image)) (BreaksInFront image)
header_judged shown image buffer (Ok h) start held judged =
    (record { start = start; clean = subst (λ b. IsClean (BreaksBuffer b header_root)) held judged.1 }, judged.0 ∙ ap header_of held)
header_judged shown image buffer (Err e) start held judged = front_refused image buffer e start held judged

module _ (image : List ℕ) (size : ℕ) (whole : length image ≡ size) where
  declared_start : (pair : ℕ × ℕ) → IsOfStart size pair → IsDeclared image pair
  declared_start pair of = of_start (record { short = omega (arith, whole, of.short); long = omega (arith, whole, of.long) }) of.inside

  -- the start failed
  pub start_heads : {s s1 : Source} → ReadsFront (IsOfStart size) s s1 (range_with_len 0 12) → AsksHeaderFront image s s1
  start_heads front =
      front_along _ _ (sym (range_with_len-append 0 12 (header_size image)))
      (front_longer (range_with_len 12 (header_size image)) (front_weaken (IsOfStart size) (IsDeclared image) declared_start front))

  module _ (len : ℕ) (start : IsStart image) (same : len ≡ header_size image) where
    declared_header : (pair : ℕ × ℕ) → IsInside 12 (12 + len) pair → IsDeclared image pair
    declared_header pair inside = of_header start (subst (λ n. IsInside 12 (12 + n) pair) same inside)

    both : range_with_len 0 12 ++ range_with_len 12 len ≡ range_with_len 0 (header_end image)
    both = sym (range_with_len-append 0 12 len) ∙ ap (λ n. range_with_len 0 (12 + n)) same

    module _ {s s1 s2 : Source} (first : Reads (IsOfStart size) s s1 (range_with_len 0 12)) where
      -- the header failed
      pub header_heads : ReadsFront (IsInside 12 (12 + len)) s1 s2 (range_with_len 12 len) → AsksHeaderFront image s s2
      header_heads second = front_along _ _ both (reads_then_front (reads_weaken (IsOfStart size) (IsDeclared image) declared_start first) (front_weaken (IsInside 12 (12 + len)) (IsDeclared image) declared_header second))

      -- they were read
      pub heads : Reads (IsInside 12 (12 + len)) s1 s2 (range_with_len 12 len) → AsksHeader image s s2
      heads second = reads_along _ _ both (reads_reads (reads_weaken (IsOfStart size) (IsDeclared image) declared_start first) (reads_weaken (IsInside 12 (12 + len)) (IsDeclared image) declared_header second))

      pub heads_front : Reads (IsInside 12 (12 + len)) s1 s2 (range_with_len 12 len) → AsksHeaderFront image s s2
      heads_front second = whole_front (range_with_len 0 (header_end image)) (heads second)

  -- the index is searched, or the features scanned, from the header on
  pub is_indexed : (t : Shape) (header : Header) (len : ℕ) → IsOpen image (Some t) → header ≡ header_in image → len ≡ header_size image → IsIndexed image t header (12 + len) size
  is_indexed t header len opened shown same = record { opened = opened; shown = shown; begins = ap (λ n. 12 + n) same; ends = sym whole }

  pub is_scan : (header : Header) (len : ℕ) → IsUnindexed image → header ≡ header_in image → len ≡ header_size image → IsScan image header (12 + len) size
  is_scan header len unindexed shown same = record { unindexed = unindexed; shown = shown; begins = ap (λ n. 12 + n) same; ends = sym whole }

  module _ (boxes : List Bounds) (gap : ℕ) where
    -- ## In front of the rest

    rest_all : header_end image ≤ length image → range_with_len 0 (header_end image) ++ range_with_len (header_end image) (length image - header_end image) ≡ range_with_len 0 (length image)
    rest_all inside =
        let e : header_end image + (length image - header_end image) ≡ length image = omega (arith, inside) in
        ap (λ n. range_with_len 0 (header_end image) ++ range_with_len n (length image - header_end image)) (sym (zero-add (header_end image)))
        ∙ sym (range_with_len-append 0 (header_end image) (length image - header_end image))
        ∙ ap (range_with_len 0) e

    pub needed_front : {s s' : Source} → AsksHeaderFront image s s' → (index : Option Shape) (pieces : List (List ℕ)) → IsFile image index pieces → AsksNeededFront image index boxes gap s s'
    unfolding asked
    needed_front front None pieces file = front_along _ _ (rest_all file.opened.header.start.inside) (front_longer (range_with_len (header_end image) (length image - header_end image)) front)
    needed_front front (Some t) pieces file = front_longer (bridged gap (hit_positions image t boxes)) (front_longer (asked_nodes image t boxes gap) front)

    pub search_front : {s s' : Source} → AsksHeaderFront image s s' → (t : Shape) → IsOpen image (Some t) → AsksSearch image t boxes gap s s'
    search_front front t opened = record { behind = []; rises = open_inside image (Some t) opened; reads = front_longer [] (front_longer (asked_nodes image t boxes gap) front) }

    -- ## With an index

    module _ {s s2 s3 : Source} (t : Shape) (opened : IsOpen image (Some t)) (first : AsksHeader image s s2) where
      pub needed_indexed : ((pieces : List (List ℕ)) → IsFile image (Some t) pieces → Reads (IsDeclared image) s2 s3 (asked_behind image t boxes gap))
          → (index : Option Shape) (pieces : List (List ℕ)) → IsFile image index pieces → AsksNeeded image index boxes gap s s3
      unfolding asked
      needed_indexed second index pieces file =
          let same : index ≡ Some t = open_same image file.opened opened in
          let here : AsksNeeded image (Some t) boxes gap s s3 =
          reads_along _ _ (sym (append_assoc (range_with_len 0 (header_end image)) (asked_nodes image t boxes gap) (bridged gap (hit_positions image t boxes))))
          (reads_reads first (second pieces (subst (λ i. IsFile image i pieces) same file))) in
          subst (λ i. AsksNeeded image i boxes gap s s3) (sym same) here

      pub needed_indexed_front : ((pieces : List (List ℕ)) → IsFile image (Some t) pieces → ReadsFront (IsDeclared image) s2 s3 (asked_behind image t boxes gap))
          → (index : Option Shape) (pieces : List (List ℕ)) → IsFile image index pieces → AsksNeededFront image index boxes gap s s3
      unfolding asked
      needed_indexed_front second index pieces file =
          let same : index ≡ Some t = open_same image file.opened opened in
          let here : AsksNeededFront image (Some t) boxes gap s s3 =
          front_along _ _ (sym (append_assoc (range_with_len 0 (header_end image)) (asked_nodes image t boxes gap) (bridged gap (hit_positions image t boxes))))
          (reads_then_front first (second pieces (subst (λ i. IsFile image i pieces) same file))) in
          subst (λ i. AsksNeededFront image i boxes gap s s3) (sym same) here

      pub search_indexed : AsksIndexed image t boxes gap s2 s3 → (other : Shape) → IsOpen image (Some other) → AsksSearch image other boxes gap s s3
      search_indexed second other also =
          let both : Some other ≡ Some t = open_same image also opened in
          let same : other ≡ t = cc (both) in
          let here : AsksSearch image t boxes gap s s3 = record {
            behind = second.behind;
            rises = second.rises;
            reads = front_along _ _ (sym (append_assoc (range_with_len 0 (header_end image)) (asked_nodes image t boxes gap) second.behind)) (reads_then_front first second.reads);
          } in
          subst (λ u. AsksSearch image u boxes gap s s3) (sym same) here

    -- ## Without one

    module _ {s s3 : Source} (unindexed : IsUnindexed image) where
      pub needed_unindexed : AsksAll image s s3 → (index : Option Shape) (pieces : List (List ℕ)) → IsFile image index pieces → AsksNeeded image index boxes gap s s3
      unfolding asked
      needed_unindexed all index pieces file =
          let same : index ≡ None = open_same image file.opened unindexed in
          let here : AsksNeeded image None boxes gap s s3 = all.reads in
          subst (λ i. AsksNeeded image i boxes gap s s3) (sym same) here

      pub needed_unindexed_front : AsksFront image s s3 → (index : Option Shape) (pieces : List (List ℕ)) → IsFile image index pieces → AsksNeededFront image index boxes gap s s3
      unfolding asked
      needed_unindexed_front front index pieces file =
          let same : index ≡ None = open_same image file.opened unindexed in
          let here : AsksNeededFront image None boxes gap s s3 = front in
          subst (λ i. AsksNeededFront image i boxes gap s s3) (sym same) here

  pub not_both : (t : Shape) → IsOpen image (Some t) → IsUnindexed image → ⊥
  not_both t opened unindexed = let same : Some t ≡ None = open_same image opened unindexed in cc (same)
