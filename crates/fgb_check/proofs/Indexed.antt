-- Going through the features of a source beside the leaves of its index.
use Rattle.std.proofs.Common.{◌≡◌, inl, inr, ℕ, ◌+◌, ◌-◌, ◌*◌, List, [], length, Some, Result, MatchResult, refl, sym, ap, subst, ◌∙◌, arith}
use Rattle.std.specs.Prelude.{min}
use Rattle.flat_layout.specs.declared.Broken.{Broken}
use Rattle.flat_layout.specs.Promises.{IsClean, Names}
use Rattle.order_keys.specs.declared.bounds.Bounds.{Bounds}
use Rattle.level_bounds.specs.Levels.{Shape, node_count}
use Rattle.node_items.specs.Nodes.{stored}
use Rattle.node_items.specs.Faults.{BreaksTree}
use Rattle.section_window.proofs.Reading.{reads_inside, front_inside}
use Rattle.section_window.proofs.Showing.{shows_later}
use Rattle.fgb_schema.specs.Paths.{feature_root}
use Rattle.fgb_schema.specs.Weights.{BreaksBuffer}
use Rattle.fgb_schema.specs.Headers.{Header}
use Rattle.fgb_schema.specs.Features.{feature_of, own_box}
use Rattle.fgb_outside.specs.Source.{Source, IfTold}
use Rattle.fgb_outside.specs.Asked.{IsInside}
use Rattle.read_stop.specs.Asks.{AsksOnly}
use Rattle.read_stop.proofs.Asking.{asks_then, asks_weaken, reads_only, front_only}
use Rattle.index_reader.specs.Going.{IsOver, given_of, Shows as ShowsLeaves}
use Rattle.index_reader.specs.declared.leaves.Leaves.{Leaves}
use Rattle.fgb_file.specs.File.{header_end, header_in, told_count, first_place, IsOpen, LeafAgrees, BreaksFirst}
use Rattle.fgb_reader.specs.Reading.{Shows, IsAtEnd, IsAtNext, RefusesNext, Fetches, FetchesPart, buffer_of, end_of, first_of, next_of, place_of}
use Rattle.fgb_reader.specs.Tallies.{Counts, seen_of}
use Rattle.fgb_reader.specs.declared.pieces.Pieces.{Pieces}
use Rattle.fgb_reader.specs.declared.tally.Tally.{Tally}
use Rattle.fgb_check.specs.Leaves.{RefusesLeaf}
use Rattle.fgb_check.specs.Verdicts.{IsFileWith}
use Rattle.fgb_check.specs.Walks.{IsBehind, IsOpened, GoesBeside, box_at}
use Rattle.fgb_check.proofs.Nodes.{nodes_clean, nodes_refused}
use Rattle.fgb_check.proofs.Walking.{beside}
use Rattle.fgb_check.proofs.Turns.{IsCounted, IsJudged, turn_none, turn_refused, turn_judged, turn_broken, turn_leaf, turn_next, turn_box}

-- ## What was asked for

pub behind_index : (place first end : ℕ) {s s' : Source} → AsksOnly (IsInside place first) s s' → AsksOnly (IsBehind place first end) s s'
behind_index place first end asks = asks_weaken (IsInside place first) (IsBehind place first end) (λ pair inside. inl inside) asks

behind_features : (place first end : ℕ) (p : Pieces) → first_of p ≡ first → end_of p ≡ end → {s s' : Source} → AsksOnly (IsInside (first_of p) (end_of p)) s s' → AsksOnly (IsBehind place first end) s s'
behind_features place first end p begins ends asks =
    asks_weaken (IsInside (first_of p) (end_of p)) (IsBehind place first end) (λ pair inside. inr (omega (arith, inside.0, begins), omega (arith, inside.1, ends))) asks

-- ## The number of a leaf

-- so many leaves were given as features were counted, or all
module _ (image : List ℕ) (t : Shape) (k seen offset : ℕ) (own : Bounds) (given : k ≡ min seen t.leaves) where
  agrees_seen : LeafAgrees image (Some t) k offset own → LeafAgrees image (Some t) seen offset own
  agrees_seen agrees = λ some.
      let same : k ≡ seen = omega (arith, given, some) in
      let here : LeafAgrees image (Some t) seen offset own = subst (λ n. LeafAgrees image (Some t) n offset own) same agrees in
      here some

  refuses_seen : {e : Broken} → RefusesLeaf image (Some t) k offset own e → RefusesLeaf image (Some t) seen offset own e
  refuses_seen {e = e} refuses =
      let tree : t ≡ refuses.tree = cc (refuses.indexed) in
      let same : k ≡ seen = omega (arith, given, refuses.some, ap (λ (u : Shape). u.leaves) tree) in
      subst (λ n. RefusesLeaf image (Some t) n offset own e) same refuses

-- ## Turns

module _ (place end : ℕ) (t : Shape) (header : Header) (before : Source) (opened : IfTold before (λ image. IsOpen image (Some t) × (header ≡ header_in image) × (place ≡ header_end image)))
    (whole : IfTold before (λ image. length image ≡ end)) where
  -- a node is refused
  pub index_refused : (e : Broken) → IfTold before (λ image. BreaksTree t (stored image place) place e.place e.rule) → IfTold before (λ image. BreaksFirst image e)
  index_refused e broken image told = let open_image = opened image told in nodes_refused image (Some t) t place refl open_image.2 open_image.0 (broken image told)

  -- none is, and no feature is passed yet
  index_opened : IfTold before (λ image. IsClean (BreaksTree t (stored image place) place)) → IfTold before (λ image. IsOpened image (Some t) header (place + 40 * node_count t))
  index_opened clean image told = let open_image = opened image told in record {
    opened = open_image.0;
    nodes = nodes_clean image (Some t) t place refl open_image.2 (clean image told);
    shown = open_image.1;
    begins = ap (λ n. n + 40 * node_count t) open_image.2;
  }

  shown : IfTold before (λ image. header ≡ header_in image)
  shown image told = let open_image = opened image told in open_image.1

  module _ (p : Pieces) (leaves : Leaves) (tally : Tally) (s : Source) where
    pub beside_none : (first count : ℕ) → AsksOnly (IsInside place (place + 40 * node_count t)) before s → IfTold before (λ image. IsClean (BreaksTree t (stored image place) place))
        → first ≡ place + 40 * node_count t → first_of p ≡ first → next_of p ≡ first → end_of p ≡ end → Shows p s → ShowsLeaves leaves s → IsOver leaves place t → given_of leaves ≡ 0 → seen_of tally ≡ 0
        → count ≡ header.features_count → ((image : List ℕ) (begun : ℕ) → count ≡ told_count image → Counts image begun [] tally) → GoesBeside place end t p leaves tally before s
    beside_none first count asks clean behind begins next ends shows shows_leaves over none counted told counts = record {
      asks = behind_index place (place + 40 * node_count t) end asks;
      shows = shows;
      begins = begins ∙ behind;
      ends = ends;
      shows_leaves = shows_leaves;
      over = over;
      beside = omega (arith, none, counted);
      few = omega (arith, counted);
      stands = turn_none (Some t) p tally before header (place + 40 * node_count t) (index_opened clean) count (next ∙ behind) told counts;
    }

    module _ (goes : GoesBeside place end t p leaves tally before s) where
      -- asked for till now, where the next feature is fetched, or can't be
      pub beside_part : {p' : Pieces} {s' : Source} → FetchesPart p p' s s' → AsksOnly (IsBehind place (place + 40 * node_count t) end) before s'
      beside_part part = asks_then goes.asks (behind_features place (place + 40 * node_count t) end p goes.begins goes.ends (front_only (front_inside (first_of p) (end_of p) part.front)))

      pub beside_fetched : {p' : Pieces} {s' : Source} → Fetches p p' s s' → AsksOnly (IsBehind place (place + 40 * node_count t) end) before s'
      beside_fetched fetches = asks_then goes.asks (behind_features place (place + 40 * node_count t) end p goes.begins goes.ends (reads_only (reads_inside (first_of p) (end_of p) fetches.reads)))

      -- and where its leaf is read
      pub beside_asked : {p' : Pieces} {s' s'' : Source} → Fetches p p' s s' → AsksOnly (IsInside place (place + 40 * node_count t)) s' s'' → AsksOnly (IsBehind place (place + 40 * node_count t) end) before s''
      beside_asked fetches asks = asks_then (beside_fetched fetches) (behind_index place (place + 40 * node_count t) end asks)

      -- the leaves that are held stay those of the source
      pub beside_shows : {p' : Pieces} {s' : Source} → Fetches p p' s s' → ShowsLeaves leaves s'
      beside_shows {s' = s'} fetches = shows_later leaves.window s s' fetches.reads.keeps goes.shows_leaves

      -- a size prefix is refused
      pub beside_refused : (e : Broken) → IfTold s (λ image. end_of p ≡ length image → RefusesNext p e image) → IfTold before (λ image. BreaksFirst image e)
      beside_refused = turn_refused (Some t) p tally before s end goes.stands goes.asks.keeps.image goes.ends whole

      -- the end is judged
      pub beside_judged : (p' : Pieces) (r : Result ℕ Broken) → IsAtEnd p p' → IsJudged tally end r → IfTold before (λ image. MatchResult r (IsFileWith image (Some t)) (BreaksFirst image))
      beside_judged = turn_judged (Some t) p tally before s end goes.stands goes.asks.keeps.image goes.ends whole

      -- the feature behind is lent
      module _ (p' : Pieces) (next : IsAtNext p p' s) where
        -- its buffer is refused
        pub beside_broken : (e : Broken) → Names (place_of p' + 4) (BreaksBuffer (buffer_of p') (feature_root header)) e → IfTold before (λ image. BreaksFirst image e)
        beside_broken = turn_broken (Some t) p tally before s end goes.stands goes.asks.keeps.image goes.ends whole p' next header shown

        -- its buffer breaks no rule, and the next leaf is judged by its offset and its own box
        module _ (clean : IsClean (BreaksBuffer (buffer_of p') (feature_root header))) (own : Bounds) (box : own ≡ own_box (feature_of header (buffer_of p'))) (s' : Source) (fetches : Fetches p p' s s')
            (offset first : ℕ) (from : offset ≡ place_of p' - first) (behind : first ≡ place + 40 * node_count t) where
          offset_is : IfTold before (λ image. offset ≡ place_of p' - first_place image (Some t))
          offset_is image told = let open_image = opened image told in omega (arith, from, behind, open_image.2)

          box_is : IfTold before (λ image. own ≡ box_at image (place_of p'))
          box_is = turn_box (Some t) p tally before s end goes.stands goes.asks.keeps.image goes.ends whole p' next header shown own box

          still : IfTold before (λ image. s'.image ≡ Some image)
          still image told = fetches.reads.keeps.image ∙ goes.asks.keeps.image ∙ told

          -- it is refused
          pub beside_leaf : (e : Broken) → IfTold s' (λ image. place ≡ header_end image → RefusesLeaf image (Some t) (given_of leaves) offset own e) → IfTold before (λ image. BreaksFirst image e)
          beside_leaf e refused = turn_leaf (Some t) p tally before s end goes.stands goes.asks.keeps.image goes.ends whole p' next header shown clean e (λ image told.
              let open_image = opened image told in
              beside (λ k n b. RefusesLeaf image (Some t) k n b e) refl (offset_is image told) (box_is image told)
              (refuses_seen image t (given_of leaves) (seen_of tally) offset own goes.beside (refused image (still image told) open_image.2)))

          -- it agrees with the feature, which is counted
          pub beside_next : (leaves' : Leaves) (tally' : Tally) (s'' : Source) → IfTold s' (λ image. place ≡ header_end image → LeafAgrees image (Some t) (given_of leaves) offset own)
              → given_of leaves' ≡ min (given_of leaves + 1) t.leaves → IsOver leaves' place t → ShowsLeaves leaves' s'' → AsksOnly (IsInside place (place + 40 * node_count t)) s' s''
              → seen_of tally' ≡ seen_of tally + 1 → IsCounted tally tally' (place_of p') → GoesBeside place end t p' leaves' tally' before s''
          beside_next leaves' tally' s'' agrees given over shows_leaves asks more counts = record {
            asks = beside_asked fetches asks;
            shows = shows_later p'.window s' s'' asks.keeps fetches.shows;
            begins = fetches.first ∙ goes.begins;
            ends = fetches.end ∙ goes.ends;
            shows_leaves = shows_leaves;
            over = over;
            beside = omega (arith, given, goes.beside, more);
            few = omega (arith, goes.few, more, next.place, next.some);
            stands = turn_next (Some t) p tally before s end goes.stands goes.asks.keeps.image goes.ends whole p' next header shown clean tally' (λ image told.
                let open_image = opened image told in
                beside (LeafAgrees image (Some t)) refl (offset_is image told) (box_is image told)
                (agrees_seen image t (given_of leaves) (seen_of tally) offset own goes.beside (agrees image (still image told) open_image.2))) counts;
          }
