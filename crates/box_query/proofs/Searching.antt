-- What a search of an index has done, from what its two halves have: the search for leaves, and the reading of their features.
use Rattle.std.proofs.Common.{◌≡◌, ℕ, ◌+◌, ◌*◌, ◌^◌, ◌<◌, ◌≤◌, ◌&&◌, Bool, true, false, List, [], ◌∷◌, ◌++◌, length, map, Option, Some, None, refl, sym, ap, subst, ◌∙◌, arith}
use Rattle.std.specs.Prelude.{nat_lt, if◌then◌else◌}
use Rattle.std.specs.List.{AllByRecursion}
use Rattle.std.proofs.lemmas.List.{length-map}
use Rattle.order_keys.specs.declared.bounds.Bounds.{Bounds}
use Rattle.flat_layout.specs.Promises.{IsClean}
use Rattle.flat_layout.specs.declared.Broken.{Broken}
use Rattle.level_bounds.specs.Levels.{Shape, node_count, place as place_of_node, width}
use Rattle.level_bounds.proofs.Widths.{ceil_one}
use Rattle.node_items.specs.Nodes.{stored}
use Rattle.fgb_outside.specs.Source.{Source}
use Rattle.fgb_outside.specs.Asked.{Ascends, IsInside, Reads, ReadsFront}
use Rattle.fgb_outside.proofs.Asking.{AllByRecursion-weaken, reads_reads, reads_weaken, reads_then_front, front_longer, front_weaken}
use Rattle.fgb_schema.specs.Headers.{Header}
use Rattle.fgb_header.specs.Views.{header_shown}
use Rattle.fgb_file.specs.File.{header_end, first_place, leaf_in, node_in, IsDeclared, of_index, of_features}
use Rattle.fgb_file.proofs.Opening.{open_inside}
use Rattle.gap_window.specs.Gaps.{bridged}
use Rattle.box_list.specs.Lists.{meets_any}
use Rattle.tree_search.specs.declared.search.Hit.{Hit as Plain}
use Rattle.tree_search.specs.Wanted.{BreaksWanted, hits, is_wanted, node_positions, wanted_nodes}
use Rattle.tree_search.specs.Searches.{hit_of}
use Rattle.box_search.specs.declared.nodes.Hit.{Hit}
use Rattle.box_search.specs.Following.{HaveNext, next_of}
use Rattle.box_search.specs.Hits.{plain, plains}
use Rattle.hit_reader.specs.declared.section.Section.{Section}
use Rattle.hit_reader.specs.Met.{IsMet, entry_at}
use Rattle.hit_reader.specs.Going.{IsSection}
use Rattle.hit_reader.specs.Asking.{AsksRising}
use Rattle.hit_runs.specs.Leaves.{AreLeaves, IsLeaf, TellsNext}
use Rattle.box_query.specs.Answers.{hit_leaves, met, IsSearched, Refuses, at_node}
use Rattle.box_query.specs.Needed.{AsksIndexed, IsIndexed, asked_nodes}
use Rattle.box_query.proofs.Rising.{hits_rise}

-- what holds of each hit as a search for one box gives it
all_plain : (P : Plain → Type 0) (found : List Hit) → AllByRecursion P (plains found) → AllByRecursion (λ hit. P (plain hit)) found
all_plain P [] all = tt
all_plain P (hit ∷ found) all = (all.0, all_plain P found all.1)

-- each leaf stands in front of this place
pub leaves_inside : (t : Shape) (place end from : ℕ) (found : List Hit) → place + 40 * node_count t ≤ end → end ≤ 2 ^ 48 → from ≡ place_of_node t 0 0
    → AllByRecursion (λ hit. hit.number < t.leaves) (plains found) → AllByRecursion (λ hit. place + 40 * from + 40 * hit.number ≤ 2 ^ 48) found
leaves_inside t place end from found inside small is within =
    AllByRecursion-weaken (λ (hit : Hit). hit.number < t.leaves) (λ hit. place + 40 * from + 40 * hit.number ≤ 2 ^ 48)
    (λ hit few. omega (arith, few, inside, small, is, ceil_one t.leaves t.node_size)) found (all_plain (λ hit. hit.number < t.leaves) found within)

-- what stands behind a leaf is told just where it is there
there_and_said : (p q : Bool) (x y : ℕ) → (if p && q then Some x else None) ≡ Some y → (p ≡ true) × (y ≡ x)
there_and_said true true x y is = (refl, cc (is))
there_and_said true false x y is = absurd (cc (is))
there_and_said false q x y is = absurd (cc (is))

less_of : (a b : ℕ) → nat_lt a b ≡ true → a < b
less_of a b is = grind (arith, is)

-- the hits of a search are the leaves that it finds, and know the leaves behind them
module _ (image : List ℕ) (t : Shape) (boxes : List Bounds) where
  abbrev next : ℕ → Option ℕ
  next = next_of t (node_in image) (meets_any boxes) 0

  tells_next : (hit : Hit) → hit.next ≡ next hit.number → TellsNext image t hit
  tells_next hit is said told =
      let both = there_and_said (nat_lt (hit.number + 1) (width t 0)) (is_wanted t (node_in image) (meets_any boxes) 0 (hit.number + 1)) (leaf_in image t (hit.number + 1)).offset said (sym is ∙ told) in
      (omega (arith, less_of (hit.number + 1) (width t 0) both.0, ceil_one t.leaves t.node_size), both.1)

  is_leaf : (hit : Hit) (k : ℕ) → plain hit ≡ hit_of t (node_in image) 0 k → IsLeaf image t hit k
  is_leaf hit k is = record { number = ap (λ (p : Plain). p.number) is; item = ap (λ (p : Plain). p.item) is }

  are_hits : (found : List Hit) (leaves : List ℕ) → plains found ≡ map (hit_of t (node_in image) 0) leaves → HaveNext next found → AreLeaves image t found leaves
  are_hits [] [] same follow = tt
  are_hits [] (k ∷ leaves) same follow = absurd (cc (same))
  are_hits (hit ∷ found) [] same follow = absurd (cc (same))
  are_hits (hit ∷ found) (k ∷ leaves) same follow =
      let first : plain hit ≡ hit_of t (node_in image) 0 k = cc (same) in
      let rest : plains found ≡ map (hit_of t (node_in image) 0) leaves = cc (same) in
      (is_leaf hit k first, tells_next hit follow.0, are_hits found leaves rest follow.1)

module _ (image : List ℕ) (t : Shape) (header : Header) (place end : ℕ) (boxes : List Bounds) (gap : ℕ) (is : IsIndexed image t header place end) where
  -- ## The leaves

  module _ (found : List Hit) (found_is : plains found ≡ map (hit_of t (stored image place) 0) (hits t (stored image place) (meets_any boxes) 0)) where
    found_here : plains found ≡ map (hit_of t (node_in image) 0) (hit_leaves image t boxes)
    found_here = subst (λ n. plains found ≡ map (hit_of t (stored image n) 0) (hits t (stored image n) (meets_any boxes) 0)) is.begins found_is

    are_leaves : HaveNext (next_of t (stored image place) (meets_any boxes) 0) found → AreLeaves image t found (hit_leaves image t boxes)
    are_leaves follow = are_hits image t boxes found (hit_leaves image t boxes) found_here (subst (λ n. HaveNext (next_of t (stored image n) (meets_any boxes) 0) found) is.begins follow)

    -- there are as many features as leaves
    pub as_many : (n : ℕ) → n ≡ length found → n ≡ length (met image t boxes)
    as_many n many =
        many ∙ sym (length-map found plain) ∙ ap length found_here
        ∙ length-map (hit_leaves image t boxes) (hit_of t (node_in image) 0)
        ∙ sym (length-map (hit_leaves image t boxes) (entry_at image t))

  -- the features of these leaves are read, which stand behind the index, under the header
  pub record Reading (section : Section) (found : List Hit) : Type 0 where
    pub within : IsSection image t section
    pub leaves : AreLeaves image t found (hit_leaves image t boxes)
    pub rise : Ascends 0 t.leaves (hit_leaves image t boxes)

  pub reading : (section : Section) (found : List Hit) → header_shown section.header.now ≡ header → section.leaves ≡ place + 40 * place_of_node t 0 0 → section.first ≡ place + 40 * node_count t → section.end ≡ end
      → plains found ≡ map (hit_of t (stored image place) 0) (hits t (stored image place) (meets_any boxes) 0) → HaveNext (next_of t (stored image place) (meets_any boxes) 0) found → Reading section found
  reading section found shown leaves first last found_is follow = record {
    within = record {
      shown = shown ∙ is.shown;
      leaves = leaves ∙ ap (λ n. n + 40 * place_of_node t 0 0) is.begins;
      first = first ∙ ap (λ n. n + 40 * node_count t) is.begins;
      end = last ∙ is.ends;
    };
    leaves = are_leaves found found_is follow;
    rise = hits_rise image t boxes;
  }

  pub is_searched : IsClean (BreaksWanted t (stored image place) (meets_any boxes) place) → AllByRecursion (IsMet image t) (hit_leaves image t boxes) → IsSearched image t boxes
  is_searched clean each = record {
    opened = is.opened;
    clean = subst (λ n. IsClean (BreaksWanted t (stored image n) (meets_any boxes) n)) is.begins clean;
    each = each;
  }

  pub node_refused : (broken : Broken) → BreaksWanted t (stored image place) (meets_any boxes) place broken.place broken.rule → Refuses image boxes broken []
  node_refused broken breaks = at_node is.opened (subst (λ n. BreaksWanted t (stored image n) (meets_any boxes) n broken.place broken.rule) is.begins breaks)

  -- ## What was asked for

  in_index : (pair : ℕ × ℕ) → IsInside (header_end image) (header_end image + 40 * node_count t) pair → IsDeclared image pair
  in_index pair inside = of_index is.opened inside

  in_features : (first : ℕ) → first ≡ first_place image (Some t) → (pair : ℕ × ℕ) → IsInside first end pair → IsDeclared image pair
  in_features first behind pair inside = of_features is.opened (subst (λ n. IsInside (first_place image (Some t)) n pair) is.ends (subst (λ n. IsInside n end pair) behind inside))

  behind_is : (nodes : ℕ) → nodes ≡ node_count t → place + 40 * nodes ≡ first_place image (Some t)
  behind_is nodes many = ap (λ n. n + 40 * nodes) is.begins ∙ ap (λ n. header_end image + 40 * n) many

  index_read : {a b : Source} → Reads (IsInside place (place + 40 * node_count t)) a b (bridged gap (node_positions place (wanted_nodes t (stored image place) (meets_any boxes))))
      → Reads (IsDeclared image) a b (asked_nodes image t boxes gap)
  index_read {a = a} {b = b} reads =
      reads_weaken (IsInside (header_end image) (header_end image + 40 * node_count t)) (IsDeclared image) in_index
      (subst (λ n. Reads (IsInside n (n + 40 * node_count t)) a b (bridged gap (node_positions n (wanted_nodes t (stored image n) (meets_any boxes))))) is.begins reads)

  index_front : {a b : Source} → ReadsFront (IsInside place (place + 40 * node_count t)) a b (bridged gap (node_positions place (wanted_nodes t (stored image place) (meets_any boxes))))
      → ReadsFront (IsDeclared image) a b (asked_nodes image t boxes gap)
  index_front {a = a} {b = b} reads =
      front_weaken (IsInside (header_end image) (header_end image + 40 * node_count t)) (IsDeclared image) in_index
      (subst (λ n. ReadsFront (IsInside n (n + 40 * node_count t)) a b (bridged gap (node_positions n (wanted_nodes t (stored image n) (meets_any boxes))))) is.begins reads)

  -- the search for leaves failed
  pub index_part : {a b : Source} (more : List ℕ) → ReadsFront (IsInside place (place + 40 * node_count t)) a b (bridged gap (node_positions place (wanted_nodes t (stored image place) (meets_any boxes))))
      → ReadsFront (IsDeclared image) a b (asked_nodes image t boxes gap ++ more)
  index_part more front = front_longer more (index_front front)

  pub index_rising : {a b : Source} → ReadsFront (IsInside place (place + 40 * node_count t)) a b (bridged gap (node_positions place (wanted_nodes t (stored image place) (meets_any boxes)))) → AsksIndexed image t boxes gap a b
  index_rising front = record { behind = []; rises = open_inside image (Some t) is.opened; reads = index_part [] front }

  -- then features were read
  module _ {a b c : Source} (nodes : ℕ) (many : nodes ≡ node_count t) (reads : Reads (IsInside place (place + 40 * node_count t)) a b (bridged gap (node_positions place (wanted_nodes t (stored image place) (meets_any boxes))))) where
    pub all_read : (positions : List ℕ) → Reads (IsInside (place + 40 * nodes) end) b c positions → Reads (IsDeclared image) a c (asked_nodes image t boxes gap ++ positions)
    all_read positions rest = reads_reads (index_read reads) (reads_weaken (IsInside (place + 40 * nodes) end) (IsDeclared image) (in_features (place + 40 * nodes) (behind_is nodes many)) rest)

    pub part_read : (positions : List ℕ) → ReadsFront (IsInside (place + 40 * nodes) end) b c positions → ReadsFront (IsDeclared image) a c (asked_nodes image t boxes gap ++ positions)
    part_read positions rest = reads_then_front (index_read reads) (front_weaken (IsInside (place + 40 * nodes) end) (IsDeclared image) (in_features (place + 40 * nodes) (behind_is nodes many)) rest)

    pub all_rising : AsksRising (place + 40 * nodes) end b c → AsksIndexed image t boxes gap a c
    all_rising asks = record {
      behind = asks.rising;
      rises = subst (λ n. Ascends n (length image) asks.rising) (behind_is nodes many) (subst (λ n. Ascends (place + 40 * nodes) n asks.rising) is.ends asks.rises);
      reads = part_read asks.rising asks.reads;
    }
