-- How a survey begins, goes on and ends.
use Rattle.std.proofs.Common.{◌≡◌, ℕ, ◌+◌, ◌-◌, ◌<◌, List, [], ◌∷◌, ◌++◌, length, drop, Option, sym, ap, subst, ◌∙◌, arith, length-append, length-take, length-drop}
use Rattle.std.specs.Prelude.{map, slice_range}
use Rattle.std.specs.List.{AllByRecursion}
use Rattle.std.proofs.lemmas.List.{append-nil, map-append}
use Rattle.flat_layout.specs.declared.Rule.{Rule}
use Rattle.flat_layout.specs.declared.Broken.{Broken}
use Rattle.flat_layout.specs.Promises.{Names}
use Rattle.order_keys.specs.declared.bounds.Bounds.{Bounds}
use Rattle.order_keys.specs.Boxes.{IsBox}
use Rattle.level_bounds.specs.Levels.{Shape}
use Rattle.fgb_schema.specs.Paths.{feature_root}
use Rattle.fgb_schema.specs.Weights.{BreaksBuffer}
use Rattle.fgb_schema.specs.Headers.{Header}
use Rattle.fgb_schema.specs.Features.{feature_of, own_box}
use Rattle.fgb_outside.specs.Source.{Source, IfTold}
use Rattle.fgb_file.specs.File.{header_in, first_place, box_of, buffer_at, BreaksFeature, in_prefix, in_buffer, IsFile, IsPiece, Walks}
use Rattle.fgb_file.proofs.Walk.{all-append, all-rest, no_more, piece_at, piece_buffer, walk_step, walk_front, passed_sound}
use Rattle.fgb_file.proofs.Passing.{file_passes}
use Rattle.fgb_reader.specs.Reading.{StandsIn, IsAtEnd, IsAtNext, RefusesNext, Fetches, buffer_of, end_of, first_of, next_of, place_of}
use Rattle.fgb_reader.specs.declared.pieces.Pieces.{Pieces}
use Rattle.fgb_reader.proofs.Going.{fetches_on}
use Rattle.feature_spans.specs.declared.features.Span.{Span}
use Rattle.feature_spans.specs.declared.features.Survey.{Survey}
use Rattle.feature_spans.specs.Spans.{LiesIn, Surveys, bytes_at}
use Rattle.feature_spans.specs.Walks.{Goes, Stands}

-- the bytes are no file that breaks no rule and has this header and its features between these places
abbrev pub IsNoFile : Header → ℕ → ℕ → List ℕ → Type 0
IsNoFile header first end image = (index : Option Shape) (pieces : List (List ℕ)) → IsFile image index pieces → header ≡ header_in image → first ≡ first_place image index → end ≡ length image → ⊥

-- ## In one file

module _ (image : List ℕ) (header : Header) (first at : ℕ) (survey : Survey) (stands : Stands image header first at survey) (index : Option Shape) (pieces : List (List ℕ)) (file : IsFile image index pieces)
    (begins : first ≡ first_place image index) where
  long : Walks image first pieces (length image)
  long = subst (λ n. Walks image n pieces (length image)) (sym begins) (file_passes image file).walks

  -- nothing is broken at a feature of a file that breaks no rule
  stands_sound : at < length image → (q : ℕ) (r : Rule) → BreaksFeature image at q r → ⊥
  stands_sound early q r broken = passed_sound image first pieces stands.pieces (length image) at long file.each stands.walks early q r broken

  -- at its end all were passed
  stands_all : at ≡ length image → header ≡ header_in image → Surveys image (header_in image) pieces survey
  stands_all ends shown =
      let front = walk_front image first pieces stands.pieces (length image) at long stands.walks (omega (arith, ends)) in
      let framed = all-rest IsPiece stands.pieces front.0 (subst (AllByRecursion IsPiece) front.1 long.each) in
      let none : front.0 ≡ [] = no_more front.0 framed (omega (arith, ap length front.2, length-take (length image - at) (drop at image), length-drop at image, ends)) in
      let same : stands.pieces ≡ pieces = sym (front.1 ∙ ap (λ ps. stands.pieces ++ ps) none ∙ append-nil stands.pieces) in
      record {
        boxes = stands.boxes ∙ ap (λ h. map (box_of h) stands.pieces) shown ∙ ap (map (box_of (header_in image))) same;
        spans = stands.spans ∙ same;
      }

-- ## One turn

module _ (header : Header) (first end : ℕ) (begun p : Pieces) (survey : Survey) (before s : Source) (goes : Goes header first end begun p survey before s) (begins : first_of begun ≡ first) (ends : end_of begun ≡ end) where
  ends_here : end_of p ≡ end
  ends_here = goes.fetches.end ∙ ends

  -- a size prefix is refused
  pub goes_prefix : (e : Broken) → IfTold s (λ image. end_of p ≡ length image → RefusesNext p e image) → IfTold before (IsNoFile header first end)
  goes_prefix e refused image told index pieces file shown begins_at whole =
      let next = refused image (goes.fetches.reads.keeps.image ∙ told) (ends_here ∙ whole) in
      stands_sound image header first (next_of p) survey (goes.stands image told whole) index pieces file begins_at next.early (next_of p) e.rule (in_prefix next.breaks)

  -- the features are at an end
  pub goes_done : (p' : Pieces) → IsAtEnd p p' → IfTold before (λ image. (index : Option Shape) (pieces : List (List ℕ)) → IsFile image index pieces → header ≡ header_in image
      → first ≡ first_place image index → end ≡ length image → Surveys image (header_in image) pieces survey)
  goes_done p' at_end image told index pieces file shown begins_at whole =
      stands_all image header first (next_of p) survey (goes.stands image told whole) index pieces file begins_at (at_end.ended ∙ ends_here ∙ whole) shown

  -- the next feature is lent
  module _ (p' : Pieces) (s' : Source) (fetches : Fetches p p' s s') (next : IsAtNext p p' s) where
    standing : IfTold before (λ image. end ≡ length image → Stands image header first (place_of p') survey)
    standing image told whole = subst (λ n. Stands image header first n survey) (sym next.place) (goes.stands image told whole)

    lent : IfTold before (λ image. end ≡ length image → StandsIn image p')
    lent image told whole = next.stands image (goes.fetches.reads.keeps.image ∙ told) (ends_here ∙ whole)

    -- its buffer is refused
    pub goes_broken : (e : Broken) → Names (place_of p' + 4) (BreaksBuffer (buffer_of p') (feature_root header)) e → IfTold before (IsNoFile header first end)
    goes_broken e named image told index pieces file shown begins_at whole =
        let there = lent image told whole in
        let at = place_of p' in
        let broken : BreaksBuffer (buffer_at image at) (feature_root (header_in image)) named.0 e.rule =
        subst (λ h. BreaksBuffer (buffer_at image at) (feature_root h) named.0 e.rule) shown (subst (λ b. BreaksBuffer b (feature_root header) named.0 e.rule) there.buffer named.2) in
        stands_sound image header first at survey (standing image told whole) index pieces file begins_at (omega (arith, next.place, next.early, ends_here, whole))
        (at + 4 + named.0) e.rule (in_buffer there.framed broken)

    -- it is surveyed
    module _ (own : Bounds) (span : Span) (box : own ≡ own_box (feature_of header (buffer_of p'))) (at : span.at ≡ place_of p') (len : span.len ≡ p'.len) where
      stands_box : (image : List ℕ) → StandsIn image p' → own ≡ box_of header (piece_at image (place_of p'))
      stands_box image there = box ∙ ap (λ b. own_box (feature_of header b)) (there.buffer ∙ sym (piece_buffer image (place_of p') there.framed))

      stands_span : (image : List ℕ) → StandsIn image p' → bytes_at image span ≡ piece_at image (place_of p')
      stands_span image there = ap (λ n. slice_range image n (n + span.len)) at ∙ ap (λ n. slice_range image (place_of p') (place_of p' + n)) (len ∙ there.len)

      pub goes_next : (survey' : Survey) → IsBox own → LiesIn (first_of p') (end_of p') span → survey'.boxes.items ≡ survey.boxes.items ++ own ∷ [] → survey'.spans.items ≡ survey.spans.items ++ span ∷ []
          → Goes header first end begun p' survey' before s'
      goes_next survey' sound lies boxes spans = record {
        fetches = fetches_on goes.fetches fetches;
        few = omega (arith, goes.few, ap length boxes, length-append survey.boxes.items (own ∷ []), next.place, next.some);
        each = ap length spans ∙ length-append survey.spans.items (span ∷ []) ∙ ap (λ n. n + 1) goes.each ∙ sym (length-append survey.boxes.items (own ∷ [])) ∙ sym (ap length boxes);
        boxes = subst (AllByRecursion IsBox) (sym boxes) (all-append IsBox survey.boxes.items (own ∷ []) goes.boxes (sound, tt));
        spans = subst (AllByRecursion (LiesIn first end)) (sym spans) (all-append (LiesIn first end) survey.spans.items (span ∷ []) goes.spans (lies_here, tt));
        stands = λ image told whole. stands_next image (standing image told whole) (lent image told whole);
      }
        where
          lies_here : LiesIn first end span
          lies_here = subst (λ n. LiesIn n end span) (fetches.first ∙ goes.fetches.first ∙ begins) (subst (λ n. LiesIn (first_of p') n span) (fetches.end ∙ ends_here) lies)

          stands_next : (image : List ℕ) → Stands image header first (place_of p') survey → StandsIn image p' → Stands image header first (next_of p') survey'
          stands_next image stands there =
              let piece = piece_at image (place_of p') in record {
                pieces = stands.pieces ++ piece ∷ [];
                walks = subst (Walks image first (stands.pieces ++ piece ∷ [])) (ap (λ n. place_of p' + n) (sym there.len)) (walk_step image first stands.pieces (place_of p') stands.walks there.framed);
                boxes = boxes ∙ ap (λ bs. bs ++ own ∷ []) stands.boxes ∙ ap (λ b. map (box_of header) stands.pieces ++ b ∷ []) (stands_box image there) ∙ sym (map-append (box_of header) stands.pieces (piece ∷ []));
                spans = ap (map (bytes_at image)) spans ∙ map-append (bytes_at image) survey.spans.items (span ∷ []) ∙ ap (λ ps. ps ++ bytes_at image span ∷ []) stands.spans ∙ ap (λ p. stands.pieces ++ p ∷ []) (stands_span image there);
              }
