-- How copying the features of a source begins, goes on and ends.
use Rattle.std.proofs.Common.{◌≡◌, ℕ, ◌+◌, ◌-◌, ◌<◌, ◌≤◌, List, [], ◌∷◌, ◌++◌, length, drop, Option, refl, sym, ap, subst, ◌∙◌, arith, length-append, length-take, length-drop}
use Rattle.std.specs.Prelude.{map, slice_range}
use Rattle.std.specs.List.{AllByRecursion, concat}
use Rattle.std.proofs.lemmas.List.{append-nil, map-append}
use Rattle.flat_layout.specs.declared.Rule.{Rule}
use Rattle.flat_layout.specs.declared.Broken.{Broken}
use Rattle.flat_layout.specs.Promises.{Names}
use Rattle.level_bounds.specs.Levels.{Shape}
use Rattle.section_window.proofs.Reading.{front_inside, reads_inside}
use Rattle.fgb_schema.specs.Paths.{feature_root}
use Rattle.fgb_schema.specs.Weights.{BreaksBuffer}
use Rattle.fgb_schema.specs.Headers.{Header}
use Rattle.fgb_schema.specs.Features.{Feature, feature_of}
use Rattle.feature_tables.specs.Records.{Fits}
use Rattle.fgb_outside.specs.Source.{Source, IfTold}
use Rattle.fgb_outside.specs.Asked.{IsInside}
use Rattle.read_stop.specs.Asks.{AsksOnly}
use Rattle.read_stop.proofs.Asking.{front_only, reads_only}
use Rattle.fgb_file.specs.File.{header_in, first_place, buffer_at, BreaksFeature, in_prefix, in_buffer, IsFile, IsPiece, Walks}
use Rattle.fgb_file.proofs.Walk.{all-append, all-rest, no_more, piece_at, piece_buffer, walk_start, walk_step, walk_front, walk_offset, passed_sound}
use Rattle.fgb_file.proofs.Passing.{file_passes}
use Rattle.fgb_reader.specs.Reading.{StandsIn, IsAtEnd, IsAtNext, RefusesNext, Fetches, FetchesPart, Shows, buffer_of, end_of, first_of, next_of, place_of}
use Rattle.fgb_reader.specs.declared.pieces.Pieces.{Pieces}
use Rattle.fgb_reader.proofs.Going.{fetches_nothing, fetches_on, fetches_part}
use Rattle.owned_features.specs.declared.file.OwnedFile.{OwnedFile}
use Rattle.owned_features.specs.Owned.{IsSound, Owns, feature_in, places_from}
use Rattle.owned_features.specs.Walks.{Goes, Stands}
use Rattle.owned_features.proofs.Places.{places_more}

-- the bytes are no file that breaks no rule and has this header and its features between these places
abbrev pub IsNoFile : Header → ℕ → ℕ → List ℕ → Type 0
IsNoFile header first end image = (index : Option Shape) (pieces : List (List ℕ)) → IsFile image index pieces → header ≡ header_in image → first ≡ first_place image index → end ≡ length image → ⊥

-- ## In one file

module _ (image : List ℕ) (header : Header) (first at : ℕ) (file : OwnedFile) (stands : Stands image header first at file) (index : Option Shape) (pieces : List (List ℕ)) (is : IsFile image index pieces)
    (begins : first ≡ first_place image index) where
  long : Walks image first pieces (length image)
  long = subst (λ n. Walks image n pieces (length image)) (sym begins) (file_passes image is).walks

  -- nothing is broken at a feature of a file that breaks no rule
  stands_sound : at < length image → (q : ℕ) (r : Rule) → BreaksFeature image at q r → ⊥
  stands_sound early q r broken = passed_sound image first pieces stands.pieces (length image) at long is.each stands.walks early q r broken

  -- at its end all were passed
  stands_all : at ≡ length image → file.header ≡ header → header ≡ header_in image → Owns image index pieces file
  stands_all ends held shown =
      let front = walk_front image first pieces stands.pieces (length image) at long stands.walks (omega (arith, ends)) in
      let framed = all-rest IsPiece stands.pieces front.0 (subst (AllByRecursion IsPiece) front.1 long.each) in
      let none : front.0 ≡ [] = no_more front.0 framed (omega (arith, ap length front.2, length-take (length image - at) (drop at image), length-drop at image, ends)) in
      let same : stands.pieces ≡ pieces = sym (front.1 ∙ ap (λ ps. stands.pieces ++ ps) none ∙ append-nil stands.pieces) in
      record {
        header = held ∙ shown;
        features = stands.features ∙ ap (λ h. map (feature_in h) stands.pieces) shown ∙ ap (map (feature_in (header_in image))) same;
        places = stands.places ∙ ap (λ n. places_from n stands.pieces) begins ∙ ap (places_from (first_place image index)) same;
      }

-- ## No turn yet

pub goes_begin : (header : Header) (first end : ℕ) (p : Pieces) (file : OwnedFile) (s : Source) → file.header ≡ header → file.features.items ≡ [] → file.places.items ≡ []
    → next_of p ≡ first → first ≤ end → Shows p s → Goes header first end p p file s s
goes_begin header first end p file s held no_features no_places next order shows = record {
  fetches = fetches_nothing p s shows;
  shown = held;
  sound = record {
    each = ap length no_places ∙ sym (ap length no_features);
    fits = subst (AllByRecursion (Fits file.header)) (sym no_features) tt;
  };
  stands = λ image told whole. record {
    pieces = [];
    walks = subst (Walks image first []) (sym next) (walk_start image first (omega (arith, order, whole)));
    features = no_features;
    places = no_places;
  };
}

-- ## One turn

module _ (header : Header) (first end : ℕ) (begun p : Pieces) (file : OwnedFile) (before s : Source) (goes : Goes header first end begun p file before s) (begins : first_of begun ≡ first) (ends : end_of begun ≡ end) where
  ends_here : end_of p ≡ end
  ends_here = goes.fetches.end ∙ ends

  within : {s' : Source} → AsksOnly (IsInside (first_of begun) (end_of begun)) before s' → AsksOnly (IsInside first end) before s'
  within {s' = s'} asks = subst (λ n. AsksOnly (IsInside first n) before s') ends (subst (λ n. AsksOnly (IsInside n (end_of begun)) before s') begins asks)

  -- asked for till now, where the next feature is fetched, or can't be
  pub goes_part : {p' : Pieces} {s' : Source} → FetchesPart p p' s s' → AsksOnly (IsInside first end) before s'
  goes_part part = within (front_only (front_inside (first_of begun) (end_of begun) (let f = fetches_part goes.fetches part in f.front)))

  pub goes_fetched : {p' : Pieces} {s' : Source} → Fetches p p' s s' → AsksOnly (IsInside first end) before s'
  goes_fetched fetches = within (reads_only (reads_inside (first_of begun) (end_of begun) (let f = fetches_on goes.fetches fetches in f.reads)))

  -- a size prefix is refused
  pub goes_prefix : (e : Broken) → IfTold s (λ image. end_of p ≡ length image → RefusesNext p e image) → IfTold before (IsNoFile header first end)
  goes_prefix e refused image told index pieces is shown begins_at whole =
      let next = refused image (goes.fetches.reads.keeps.image ∙ told) (ends_here ∙ whole) in
      stands_sound image header first (next_of p) file (goes.stands image told whole) index pieces is begins_at next.early (next_of p) e.rule (in_prefix next.breaks)

  -- the features are at an end
  pub goes_done : (p' : Pieces) → IsAtEnd p p' → IfTold before (λ image. (index : Option Shape) (pieces : List (List ℕ)) → IsFile image index pieces → header ≡ header_in image
      → first ≡ first_place image index → end ≡ length image → Owns image index pieces file)
  goes_done p' at_end image told index pieces is shown begins_at whole =
      stands_all image header first (next_of p) file (goes.stands image told whole) index pieces is begins_at (at_end.ended ∙ ends_here ∙ whole) goes.shown shown

  -- the next feature is lent
  module _ (p' : Pieces) (s' : Source) (fetches : Fetches p p' s s') (next : IsAtNext p p' s) where
    standing : IfTold before (λ image. end ≡ length image → Stands image header first (place_of p') file)
    standing image told whole = subst (λ n. Stands image header first n file) (sym next.place) (goes.stands image told whole)

    lent : IfTold before (λ image. end ≡ length image → StandsIn image p')
    lent image told whole = next.stands image (goes.fetches.reads.keeps.image ∙ told) (ends_here ∙ whole)

    -- its buffer is refused
    pub goes_broken : (e : Broken) → Names (place_of p' + 4) (BreaksBuffer (buffer_of p') (feature_root header)) e → IfTold before (IsNoFile header first end)
    goes_broken e named image told index pieces is shown begins_at whole =
        let there = lent image told whole in
        let at = place_of p' in
        let broken : BreaksBuffer (buffer_at image at) (feature_root (header_in image)) named.0 e.rule =
        subst (λ h. BreaksBuffer (buffer_at image at) (feature_root h) named.0 e.rule) shown (subst (λ b. BreaksBuffer b (feature_root header) named.0 e.rule) there.buffer named.2) in
        stands_sound image header first at file (standing image told whole) index pieces is begins_at (omega (arith, next.place, next.early, ends_here, whole))
        (at + 4 + named.0) e.rule (in_buffer there.framed broken)

    -- it is copied
    module _ (feature : Feature) (copies : feature ≡ feature_of header (buffer_of p')) (fits : Fits header feature) (place : ℕ) (at : place ≡ place_of p') where
      copied : (image : List ℕ) → StandsIn image p' → feature ≡ feature_in header (piece_at image (place_of p'))
      copied image there = copies ∙ ap (feature_of header) (there.buffer ∙ sym (piece_buffer image (place_of p') there.framed))

      pub goes_next : (file' : OwnedFile) → file'.header ≡ file.header → file'.features.items ≡ file.features.items ++ feature ∷ [] → file'.places.items ≡ file.places.items ++ place ∷ []
          → Goes header first end begun p' file' before s'
      goes_next file' held features places = record {
        fetches = fetches_on goes.fetches fetches;
        shown = held ∙ goes.shown;
        sound = record {
          each = ap length places ∙ length-append file.places.items (place ∷ []) ∙ ap (λ n. n + 1) goes.sound.each ∙ sym (length-append file.features.items (feature ∷ [])) ∙ sym (ap length features);
          fits = subst (λ h. AllByRecursion (Fits h) file'.features.items) (sym held)
              (subst (AllByRecursion (Fits file.header)) (sym features) (all-append (Fits file.header) file.features.items (feature ∷ []) goes.sound.fits (fits_held, tt)));
        };
        stands = λ image told whole. stands_next image (standing image told whole) (lent image told whole);
      }
        where
          fits_held : Fits file.header feature
          fits_held = subst (λ h. Fits h feature) (sym goes.shown) fits

          stands_next : (image : List ℕ) → Stands image header first (place_of p') file → StandsIn image p' → Stands image header first (next_of p') file'
          stands_next image stands there =
              let piece = piece_at image (place_of p') in
              let behind : place ≡ first + length (concat stands.pieces) = at ∙ sym (walk_offset image first stands.pieces (place_of p') stands.walks) in record {
                pieces = stands.pieces ++ piece ∷ [];
                walks = subst (Walks image first (stands.pieces ++ piece ∷ [])) (ap (λ n. place_of p' + n) (sym there.len)) (walk_step image first stands.pieces (place_of p') stands.walks there.framed);
                features = features ∙ ap (λ fs. fs ++ feature ∷ []) stands.features ∙ ap (λ f. map (feature_in header) stands.pieces ++ f ∷ []) (copied image there) ∙ sym (map-append (feature_in header) stands.pieces (piece ∷ []));
                places = places ∙ ap (λ ns. ns ++ place ∷ []) stands.places ∙ ap (λ n. places_from first stands.pieces ++ n ∷ []) behind ∙ sym (places_more first stands.pieces piece);
              }
