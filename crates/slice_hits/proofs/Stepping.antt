-- One step of a walk through an index: what stands behind it, what is refused at it, and that the walk comes nearer its end.
use Rattle.std.proofs.Common.{◌≡◌, ℕ, ◌+◌, ◌-◌, ◌*◌, ◌/◌, ◌^◌, ◌<◌, ◌≤◌, min, Bool, true, false, ◌&&◌, List, [], ◌∷◌, ◌++◌, map, Option, Some, None, refl, sym, ap, ◌∙◌, subst, inl, inr, append_assoc, arith}
use Rattle.std.specs.Option.{ForSome}
use Rattle.std.specs.List.{AllByRecursion, list_all, range_with_len}
use Rattle.std.proofs.Math.Nat.{mul-le-mul_right, pow-zero}
use Rattle.std.proofs.lemmas.List.{map-append}
use Rattle.fgb_outside.proofs.Asking.{AllByRecursion-append}
use Rattle.flat_layout.specs.declared.Broken.{Broken}
use Rattle.order_keys.specs.declared.bounds.Bounds.{Bounds}
use Rattle.box_list.specs.Lists.{meets_any}
use Rattle.level_bounds.specs.Levels.{Shape, IsShape, IsNode, width, place, node_count, first_child}
use Rattle.level_bounds.proofs.Places.{places_tell, root_first, width_some}
use Rattle.node_items.specs.declared.item.NodeItem.{NodeItem}
use Rattle.node_items.specs.Faults.{IsChild, group_faults, root_faults}
use Rattle.node_items.specs.Nodes.{stored}
use Rattle.fgb_file.specs.File.{header_end, node_in, first_place, leaf_target, size_at, IsOpen}
use Rattle.tree_search.specs.Wanted.{is_wanted, passes}
use Rattle.tree_search.proofs.Faults.{root_breaks}
use Rattle.tree_search.specs.Searches.{hit_of}
use Rattle.tree_search.specs.declared.search.Hit.{Hit}
use Rattle.found_features.specs.Entries.{Entry}
use Rattle.hit_reader.specs.Going.{IsBehind, at_first, at_end}
use Rattle.hit_reader.specs.Met.{BreaksHit, IsMet, entry_at}
use Rattle.box_query.specs.Answers.{Answers, AnswersPart, searched, searched as searched_part, hit_leaves, met}
use Rattle.slice_hits.specs.Preorder.{ComesBehind, nothing, sibling, first_leaf, leaf_behind, leaf_at, level_at}
use Rattle.slice_hits.specs.Judging.{IsJudged, hits_before}
use Rattle.slice_hits.specs.Answering.{Refuses, at_node, at_leaf}
use Rattle.slice_hits.specs.declared.search.Search.{Search}
use Rattle.slice_hits.specs.declared.search.Visit.{Visit}
use Rattle.slice_hits.specs.Searching.{HasCome, RefusesVisit, Stands, Visits, at_root, below, down, hit, passed_by, leaves_before, nodes_of, tree_of}
use Rattle.slice_hits.proofs.Numbers.{level_is, leaf_is, node_there}
use Rattle.slice_hits.proofs.Climbing.{child_leaf, child_there, first_before, first_there}
use Rattle.slice_hits.proofs.Passing.{before_none, before_one, before_all, before_rest, child_wanted, judged_on, judged_down, judged_none, judged_all, group_refused}

pub none_of : {X : Type 0} (o : Option X) → ((x : X) → o ≡ Some x → ⊥) → o ≡ None
none_of None never = refl
none_of (Some x) never = absurd (never x refl)

hit_both : (a b : Bool) → a ≡ true → b ≡ true → (a && b) ≡ true
hit_both a b one two = rw (one, two) refl

at_most : {a b : ℕ} → a < b → a ≤ b
at_most {a} {b} lt = omega arith

some_same : (a b : ℕ) → ◌≡◌ {A = Option ℕ} (Some a) (Some b) → a ≡ b
some_same a b e = cc

-- ## Where it stands then

module _ (t : Shape) (shape : IsShape t) (k i : ℕ) (is : IsNode t k i) where
  -- behind a node
  pub leaf_next : (next : Option ℕ) → ComesBehind t k i next → leaf_at t next ≡ leaf_behind t k i
  unfolding leaf_at
  leaf_next next (nothing all) = sym all
  leaf_next next (sibling l j there group edge too) = leaf_is t l (j + 1) there ∙ edge

  level_next : (next : Option ℕ) → ComesBehind t k i next → level_at t next ≤ t.top
  level_next next (nothing all) = omega arith
  level_next next (sibling l j there group edge too) = subst (λ n. n ≤ t.top) (sym (level_is t l (j + 1) there)) there.level

  -- the leaves go on
  pub leaf_on : (next : Option ℕ) → ComesBehind t k i next → leaf_at t (Some (place t k i)) < leaf_at t next
  leaf_on next comes =
      subst (λ n. leaf_at t (Some (place t k i)) < n) (sym (leaf_next next comes)) (subst (λ n. n < leaf_behind t k i) (sym (leaf_is t k i is)) (first_before t shape k i is.there))

  leaf_within : (next : Option ℕ) → ComesBehind t k i next → leaf_at t next ≤ t.leaves
  leaf_within next comes = subst (λ n. n ≤ t.leaves) (sym (leaf_next next comes)) (least ((i + 1) * t.node_size ^ k))
    where
      least : (p : ℕ) → min t.leaves p ≤ t.leaves
      least p = omega arith

  -- so it comes nearer the end
  pub nearer_on : (next : Option ℕ) → ComesBehind t k i next
      → (t.leaves - leaf_at t next) * (t.top + 1) + level_at t next < (t.leaves - leaf_at t (Some (place t k i))) * (t.top + 1) + level_at t (Some (place t k i))
  nearer_on next comes = nearer _ _ _ _ _ _ (leaf_on next comes) (leaf_within next comes) (level_next next comes)
    where
      nearer : (n a b u v w : ℕ) → a < b → b ≤ n → u ≤ w → (n - b) * (w + 1) + u < (n - a) * (w + 1) + v
      nearer n a b u v w lt le under =
          let x : (n - b + 1) * (w + 1) ≤ (n - a) * (w + 1) = mul-le-mul_right (w + 1) (omega arith) in
          omega arith

  pub fewer_on : (next : Option ℕ) → ComesBehind t k i next → t.leaves - leaf_at t next + 1 < t.leaves - leaf_at t (Some (place t k i)) + 1
  fewer_on next comes = omega (arith, leaf_on next comes, leaf_within next comes)

module _ (t : Shape) (shape : IsShape t) (l i : ℕ) (is : IsNode t (l + 1) i) where
  -- down to the children
  pub leaf_down : leaf_at t (Some (place t l (first_child t i))) ≡ leaf_at t (Some (place t (l + 1) i))
  leaf_down = leaf_is t l (first_child t i) (child_there t shape l i is) ∙ child_leaf t shape l i ∙ sym (leaf_is t (l + 1) i is)

  pub nearer_down : (t.leaves - leaf_at t (Some (place t l (first_child t i)))) * (t.top + 1) + level_at t (Some (place t l (first_child t i)))
      < (t.leaves - leaf_at t (Some (place t (l + 1) i))) * (t.top + 1) + level_at t (Some (place t (l + 1) i))
  nearer_down = nearer _ _ _ _ t.top leaf_down (level_is t l (first_child t i) (child_there t shape l i is)) (level_is t (l + 1) i is)
    where
      nearer : (a b u v w : ℕ) → a ≡ b → u ≡ l → v ≡ l + 1 → (t.leaves - a) * (w + 1) + u < (t.leaves - b) * (w + 1) + v
      nearer a b u v w same one other = let e : (t.leaves - a) * (w + 1) ≡ (t.leaves - b) * (w + 1) = ap (λ n. (t.leaves - n) * (w + 1)) same in omega arith

  pub fewer_down : t.leaves - leaf_at t (Some (place t l (first_child t i))) + 1 ≤ t.leaves - leaf_at t (Some (place t (l + 1) i)) + 1
  fewer_down = omega (arith, leaf_down)

-- ## What it has come to

wider : (image : List ℕ) (t : Shape) (k k' at : ℕ) → k ≤ k' → IsBehind image t k at → IsBehind image t k' at
wider image t k k' at le (at_first begins) = at_first begins
wider image t k k' at le (at_end j earlier fits ends) = at_end j (omega arith) fits ends

module _ (image : List ℕ) (t : Shape) (shape : IsShape t) (boxes : List Bounds) where
  first_within : (k i : ℕ) → IsNode t k i → leaf_at t (Some (place t k i)) ≤ t.leaves
  first_within k i is = let x = first_there t shape k i is.there in subst (λ n. n ≤ t.leaves) (sym (leaf_is t k i is)) (omega arith)

  -- the stand is wanted
  wanted_at : (l j : ℕ) → IsNode t l j → is_wanted t (node_in image) (meets_any boxes) l j ≡ true
      → (k i : ℕ) → IsNode t k i → ◌≡◌ {A = Option ℕ} (Some (place t l j)) (Some (place t k i)) → is_wanted t (node_in image) (meets_any boxes) k i ≡ true
  wanted_at l j there wanted k i is same =
      let tells = places_tell t l j k i there is (some_same _ _ same) in
      ap (λ n. is_wanted t (node_in image) (meets_any boxes) n i) (sym tells.0) ∙ ap (is_wanted t (node_in image) (meets_any boxes) l) (sym tells.1) ∙ wanted

  wanted_next : (k i : ℕ) (next : Option ℕ) → ComesBehind t k i next → is_wanted t (node_in image) (meets_any boxes) k i ≡ true
      → (m x : ℕ) → IsNode t m x → next ≡ Some (place t m x) → is_wanted t (node_in image) (meets_any boxes) m x ≡ true
  wanted_next k i next (nothing all) wanted m x is same = absurd (let e : ◌≡◌ {A = Option ℕ} None (Some (place t m x)) = same in cc)
  wanted_next k i next (sibling l j there group edge too) wanted m x is same = wanted_at l (j + 1) there (too (node_in image) (meets_any boxes) wanted) m x is same

  top_wanted : is_wanted t (node_in image) (meets_any boxes) t.top 0 ≡ true
  unfolding is_wanted
  top_wanted =
      let none : t.top - t.top ≡ 0 = omega arith in
      ap (λ n. list_all (λ d. passes t (node_in image) (meets_any boxes) (t.top + d) (0 / t.node_size ^ d)) (range_with_len 1 n)) none

  -- the same leaves are found in front
  moved : (stand next : Option ℕ) (reached : ℕ) (entries : List Entry) → leaves_before image t boxes next ≡ leaves_before image t boxes stand → leaf_at t stand ≤ leaf_at t next
      → ((k i : ℕ) → IsNode t k i → next ≡ Some (place t k i) → is_wanted t (node_in image) (meets_any boxes) k i ≡ true)
      → IsJudged t (node_in image) (meets_any boxes) (header_end image) next → HasCome image t boxes stand reached entries → HasCome image t boxes next reached entries
  moved stand next reached entries same on wanted judged come = record {
    wanted = wanted;
    judged = judged;
    met = subst (AllByRecursion (IsMet image t)) (sym same) come.met;
    given = come.given ∙ ap (map (entry_at image t)) (sym same);
    behind = wider image t (leaf_at t stand) (leaf_at t next) reached on come.behind;
  }

  -- in front of the root
  pub come_none : (first : ℕ) → first ≡ first_place image (Some t) → HasCome image t boxes (Some 0) first []
  come_none first begins =
      let root : IsNode t t.top 0 = record { level = omega arith; there = width_some t shape t.top } in
      let here : place t t.top 0 ≡ 0 = root_first t in
      let leaf : leaf_at t (Some 0) ≡ 0 = ap (λ n. leaf_at t (Some n)) (sym here) ∙ leaf_is t t.top 0 root ∙ nothing_times (t.node_size ^ t.top) in
      let none : leaves_before image t boxes (Some 0) ≡ [] = ap (hits_before t (node_in image) (meets_any boxes)) leaf in
      record {
        wanted = λ k i is same. wanted_at t.top 0 root top_wanted k i is (ap (λ n. Some n) here ∙ same);
        judged = judged_none t shape (node_in image) (meets_any boxes) (header_end image) (Some 0) (ap (λ n. Some n) (sym here)) root;
        met = subst (AllByRecursion (IsMet image t)) (sym none) tt;
        given = ap (map (entry_at image t)) (sym none);
        behind = at_first begins;
      }
    where
      nothing_times : (p : ℕ) → 0 * p ≡ 0
      nothing_times p = omega arith

  module _ (reached : ℕ) (entries : List Entry) where
    -- past a node whose box does not pass
    pub come_past : (k i : ℕ) → IsNode t k i → HasCome image t boxes (Some (place t k i)) reached entries → (k ≡ t.top → root_faults t (node_in image) (header_end image) ≡ [])
        → passes t (node_in image) (meets_any boxes) k i ≡ false → (next : Option ℕ) → ComesBehind t k i next → HasCome image t boxes next reached entries
    come_past k i is come root fails next comes =
        let nodes = node_in image in
        let test = meets_any boxes in
        let same : leaves_before image t boxes next ≡ leaves_before image t boxes (Some (place t k i)) =
        ap (hits_before t nodes test) (leaf_next t shape k i is next comes) ∙ before_none t shape nodes test k i is fails ∙ ap (hits_before t nodes test) (sym (leaf_is t k i is)) in
        let on = leaf_on t shape k i is next comes in
        moved (Some (place t k i)) next reached entries same (omega arith) (wanted_next k i next comes (come.wanted k i is refl))
        (judged_on t shape nodes test (header_end image) k i next is come.judged root comes (inr fails)) come

    -- down to children that were judged
    pub come_down : (l i : ℕ) → IsNode t (l + 1) i → HasCome image t boxes (Some (place t (l + 1) i)) reached entries → (l + 1 ≡ t.top → root_faults t (node_in image) (header_end image) ≡ [])
        → passes t (node_in image) (meets_any boxes) (l + 1) i ≡ true → group_faults t (node_in image) (header_end image) l i ≡ [] → HasCome image t boxes (Some (place t l (first_child t i))) reached entries
    come_down l i is come root pass clean =
        let nodes = node_in image in
        let test = meets_any boxes in
        let lower = leaf_down t shape l i is in
        let child = child_there t shape l i is in
        let first : IsChild t l i (first_child t i) = record { first = omega arith; end = ends t.node_size (width t l) shape.wide child.there } in
        let passed = hit_both (is_wanted t nodes test (l + 1) i) (passes t nodes test (l + 1) i) (come.wanted (l + 1) i is refl) pass in
        moved (Some (place t (l + 1) i)) (Some (place t l (first_child t i))) reached entries (ap (hits_before t nodes test) lower) (omega (arith, lower))
        (wanted_at l (first_child t i) child (child_wanted t shape nodes test l i (first_child t i) is passed first))
        (judged_down t shape nodes test (header_end image) l i is come.judged root clean) come
      where
        ends : (s w : ℕ) → 2 ≤ s → s * i < w → s * i < min (s * (i + 1)) w
        ends s w wide lt = omega arith

    -- past a leaf that is found
    module _ (i : ℕ) (is : IsNode t 0 i) (come : HasCome image t boxes (Some (place t 0 i)) reached entries) (pass : passes t (node_in image) (meets_any boxes) 0 i ≡ true)
        (next : Option ℕ) (comes : ComesBehind t 0 i next) where
      more : leaves_before image t boxes next ≡ leaves_before image t boxes (Some (place t 0 i)) ++ i ∷ []
      more =
          ap (hits_before t (node_in image) (meets_any boxes)) (leaf_next t shape 0 i is next comes)
          ∙ before_one t shape (node_in image) (meets_any boxes) i is (come.wanted 0 i is refl) pass
          ∙ ap (λ n. hits_before t (node_in image) (meets_any boxes) n ++ i ∷ []) (sym (leaf_is t 0 i is))

      pub come_found : (0 ≡ t.top → root_faults t (node_in image) (header_end image) ≡ []) → (e : Entry) → e ≡ entry_at image t i → IsMet image t i
          → (reached' : ℕ) → reached' ≡ leaf_target image t i + 4 + size_at image (leaf_target image t i) → HasCome image t boxes next reached' (entries ++ e ∷ [])
      come_found root e same met reached' ends =
          let before = leaves_before image t boxes (Some (place t 0 i)) in
          let make = entry_at image t in
          record {
            wanted = wanted_next 0 i next comes (come.wanted 0 i is refl);
            judged = judged_on t shape (node_in image) (meets_any boxes) (header_end image) 0 i next is come.judged root comes (inl refl);
            met = subst (AllByRecursion (IsMet image t)) (sym more) (AllByRecursion-append (IsMet image t) before (i ∷ []) come.met (met, tt));
            given =
                ap (λ (l : List Entry). entries ++ l) (ap (λ (x : Entry). x ∷ []) same) ∙ ap (λ (l : List Entry). l ++ make i ∷ []) come.given
                ∙ sym (map-append make before (i ∷ [])) ∙ ap (map make) (sym more);
            behind = at_end i (subst (λ n. n < leaf_at t next) (leaf_is t 0 i is ∙ once) (leaf_on t shape 0 i is next comes)) (omega (arith, met.framed.fits)) ends;
          }
        where
          once : first_leaf t 0 i ≡ i
          once = let x : i * 1 ≡ i = omega arith in ap (λ n. i * n) (pow-zero t.node_size) ∙ x

      -- the leaf or its feature is refused
      pub refused_leaf : IsOpen image (Some t) → (broken : Broken) → BreaksHit image t i broken.place broken.rule → Refuses image boxes broken entries
      refused_leaf opened broken breaks =
          let before = leaves_before image t boxes (Some (place t 0 i)) in
          let rest = before_rest t shape (node_in image) (meets_any boxes) (leaf_at t next) (leaf_within t shape 0 i is next comes) in
          let split : hit_leaves image t boxes ≡ before ++ i ∷ rest.0 = rest.1 ∙ ap (λ l. l ++ rest.0) more ∙ append_assoc before (i ∷ []) rest.0 in
          subst (Refuses image boxes broken) (sym come.given) (at_leaf before rest.0 i opened split breaks)

    -- a node is refused
    pub refused_visit : (k i : ℕ) → IsNode t k i → HasCome image t boxes (Some (place t k i)) reached entries → IsOpen image (Some t) → (broken : Broken)
        → RefusesVisit t (node_in image) (header_end image) boxes k i broken → Refuses image boxes broken entries
    refused_visit k i is come opened broken (at_root top rest begins) =
        let before = before_rest t shape (node_in image) (meets_any boxes) (leaf_at t (Some (place t k i))) (first_within k i is) in
        subst (Refuses image boxes broken) (sym come.given) (at_node _ before.0 opened before.1 (root_breaks t (node_in image) (meets_any boxes) (header_end image) shape broken (rest, begins)))
    refused_visit k i is come opened broken (below l level pass rest begins) =
        let before = before_rest t shape (node_in image) (meets_any boxes) (leaf_at t (Some (place t k i))) (first_within k i is) in
        let up : IsNode t (l + 1) i = subst (λ n. IsNode t n i) level is in
        let passed = hit_both _ _ (subst (λ n. is_wanted t (node_in image) (meets_any boxes) n i ≡ true) level (come.wanted k i is refl)) (subst (λ n. passes t (node_in image) (meets_any boxes) n i ≡ true) level pass) in
        subst (Refuses image boxes broken) (sym come.given) (at_node _ before.0 opened before.1 (group_refused t shape (node_in image) (meets_any boxes) (header_end image) l i broken up passed (rest, begins)))

    -- behind all
    pub come_all : IsOpen image (Some t) → HasCome image t boxes None reached entries → Answers image boxes entries
    unfolding leaf_at
    come_all opened come =
        let all : leaves_before image t boxes None ≡ hit_leaves image t boxes = before_all t shape (node_in image) (meets_any boxes) in
        subst (Answers image boxes) (sym (come.given ∙ ap (map (entry_at image t)) all)) (searched (record {
          opened = opened;
          clean = judged_all t shape (node_in image) (meets_any boxes) (header_end image) come.judged;
          each = subst (AllByRecursion (IsMet image t)) all come.met;
        }))

-- ## Of a walk

-- how much is left in front of a stand
abbrev pub way : Shape → Option ℕ → ℕ
way t stand = (t.leaves - leaf_at t stand) * (t.top + 1) + level_at t stand

module _ (t : Shape) (shape : IsShape t) (nodes : ℕ → NodeItem) (at : ℕ) (boxes : List Bounds) (k i : ℕ) (is : IsNode t k i) where
  pub visit_nearer : (visit : Visit) → Visits t nodes at boxes k i visit → way t visit.next < way t (Some (place t k i))
  visit_nearer visit (passed_by {next = next} fails comes) = nearer_on t shape k i is next comes
  visit_nearer visit (hit {next = next} leaf pass comes) = nearer_on t shape k i is next comes
  visit_nearer visit (down l level pass clean) =
      subst (λ n. way t (Some (place t l (first_child t i))) < way t (Some (place t n i))) (sym level) (nearer_down t shape l i (subst (λ n. IsNode t n i) level is))

  pub visit_no_farther : (visit : Visit) → Visits t nodes at boxes k i visit → t.leaves - leaf_at t visit.next + 1 ≤ t.leaves - leaf_at t (Some (place t k i)) + 1
  visit_no_farther visit (passed_by {next = next} fails comes) = at_most (fewer_on t shape k i is next comes)
  visit_no_farther visit (hit {next = next} leaf pass comes) = at_most (fewer_on t shape k i is next comes)
  visit_no_farther visit (down l level pass clean) =
      subst (λ n. t.leaves - leaf_at t (Some (place t l (first_child t i))) + 1 ≤ t.leaves - leaf_at t (Some (place t n i)) + 1) (sym level) (fewer_down t shape l i (subst (λ n. IsNode t n i) level is))

  -- where a leaf was found
  pub visit_fewer : (visit : Visit) (leaf : Hit) → visit.leaf ≡ Some leaf → Visits t nodes at boxes k i visit → t.leaves - leaf_at t visit.next + 1 < t.leaves - leaf_at t (Some (place t k i)) + 1
  visit_fewer visit leaf found (passed_by {next = next} fails comes) = absurd (let e : ◌≡◌ {A = Option Hit} None (Some leaf) = found in cc)
  visit_fewer visit leaf found (hit {next = next} is_leaf pass comes) = fewer_on t shape k i is next comes
  visit_fewer visit leaf found (down l level pass clean) = absurd (let e : ◌≡◌ {A = Option Hit} None (Some leaf) = found in cc)

  pub record IsLeafVisit (visit : Visit) (leaf : Hit) : Type 0 where
    pub level : k ≡ 0
    pub same : leaf ≡ hit_of t nodes 0 i
    pub pass : passes t nodes (meets_any boxes) k i ≡ true
    pub comes : ComesBehind t k i visit.next

  pub visit_leaf_is : (visit : Visit) (leaf : Hit) → visit.leaf ≡ Some leaf → Visits t nodes at boxes k i visit → IsLeafVisit visit leaf
  visit_leaf_is visit leaf found (passed_by {next = next} fails comes) = absurd (let e : ◌≡◌ {A = Option Hit} None (Some leaf) = found in cc)
  visit_leaf_is visit leaf found (hit {next = next} is_leaf pass comes) =
      let e : ◌≡◌ {A = Option Hit} (Some (hit_of t nodes 0 i)) (Some leaf) = found in
      let same : leaf ≡ hit_of t nodes 0 i = cc in
      record { level = is_leaf; same = same; pass = pass; comes = comes }
  visit_leaf_is visit leaf found (down l level pass clean) = absurd (let e : ◌≡◌ {A = Option Hit} None (Some leaf) = found in cc)

module _ (image : List ℕ) (boxes : List Bounds) (entries : List Entry) (search : Search) (stands : Stands image boxes entries search) where
  -- the nodes that it goes through are those of the file
  of_image : (P : (ℕ → NodeItem) → ℕ → List Bounds → Type 0) → P (nodes_of search) search.place search.boxes → P (node_in image) (header_end image) boxes
  of_image P holds =
      let over = stands.over in
      let nodes_same : nodes_of search ≡ node_in image = ap (λ b. stored b search.place) over.over.bytes ∙ ap (stored image) over.begins in
      subst (λ b. P (node_in image) (header_end image) b) over.sought (subst (λ n. P (node_in image) n search.boxes) over.begins (subst (λ f. P f search.place search.boxes) nodes_same holds))

  module _ (k i : ℕ) (is : IsNode (tree_of search) k i) (here : search.node ≡ Some (place (tree_of search) k i)) where
    come : HasCome image (tree_of search) boxes (Some (place (tree_of search) k i)) search.reached entries
    come = subst (λ s. HasCome image (tree_of search) boxes s search.reached entries) here stands.come

    shape : IsShape (tree_of search)
    shape = search.levels.shaped.shaped

    pub step_refused : (e : Broken) → RefusesVisit (tree_of search) (nodes_of search) search.place search.boxes k i e → Refuses image boxes e entries
    step_refused e refuses =
        refused_visit image (tree_of search) shape boxes search.reached entries k i is come stands.over.over.opened e (of_image (λ f n b. RefusesVisit (tree_of search) f n b k i e) refuses)

    rooted : (k ≡ (tree_of search).top → root_faults (tree_of search) (nodes_of search) search.place ≡ []) → k ≡ (tree_of search).top → root_faults (tree_of search) (node_in image) (header_end image) ≡ []
    rooted root = of_image (λ f n b. k ≡ (tree_of search).top → root_faults (tree_of search) f n ≡ []) root

    module _ (root : k ≡ (tree_of search).top → root_faults (tree_of search) (nodes_of search) search.place ≡ []) where
      on_by : (visit : Visit) → visit.leaf ≡ None → Visits (tree_of search) (node_in image) (header_end image) boxes k i visit → HasCome image (tree_of search) boxes visit.next search.reached entries
      on_by visit none (passed_by {next = next} fails comes) = come_past image (tree_of search) shape boxes search.reached entries k i is come (rooted root) fails next comes
      on_by visit none (hit {next = next} leaf pass comes) = absurd (let e : ◌≡◌ {A = Option Hit} (Some (hit_of (tree_of search) (node_in image) 0 i)) None = none in cc)
      on_by visit none (down l level pass clean) =
          let t = tree_of search in
          let all : (n : ℕ) → k ≡ n → IsNode t n i × HasCome image t boxes (Some (place t n i)) search.reached entries × (n ≡ t.top → root_faults t (node_in image) (header_end image) ≡ []) × (passes t (node_in image) (meets_any boxes) n i ≡ true) =
          λ n e. (subst (λ m. IsNode t m i) e is, subst (λ m. HasCome image t boxes (Some (place t m i)) search.reached entries) e come, subst (λ m. m ≡ t.top → root_faults t (node_in image) (header_end image) ≡ []) e (rooted root), subst (λ m. passes t (node_in image) (meets_any boxes) m i ≡ true) e pass) in
          let there = all (l + 1) level in
          come_down image t shape boxes search.reached entries l i there.0 there.1 there.2 there.3 clean

      pub step_on : (visit : Visit) → visit.leaf ≡ None → Visits (tree_of search) (nodes_of search) search.place search.boxes k i visit → HasCome image (tree_of search) boxes visit.next search.reached entries
      step_on visit none visits = on_by visit none (of_image (λ f n b. Visits (tree_of search) f n b k i visit) visits)

      module _ (visit : Visit) (leaf : Hit) (found : visit.leaf ≡ Some leaf) (visits : Visits (tree_of search) (nodes_of search) search.place search.boxes k i visit) where
        leaf_visit : IsLeafVisit (tree_of search) shape (node_in image) (header_end image) boxes k i is visit leaf
        leaf_visit = visit_leaf_is (tree_of search) shape (node_in image) (header_end image) boxes k i is visit leaf found (of_image (λ f n b. Visits (tree_of search) f n b k i visit) visits)

        pub leaf_here : leaf ≡ hit_of (tree_of search) (node_in image) 0 i
        leaf_here = leaf_visit.same

        record AtLeaf : Type 0 where
          pub node : IsNode (tree_of search) 0 i
          pub come : HasCome image (tree_of search) boxes (Some (place (tree_of search) 0 i)) search.reached entries
          pub pass : passes (tree_of search) (node_in image) (meets_any boxes) 0 i ≡ true
          pub comes : ComesBehind (tree_of search) 0 i visit.next
          pub judged : 0 ≡ (tree_of search).top → root_faults (tree_of search) (node_in image) (header_end image) ≡ []

        there : AtLeaf
        there = record {
          node = subst (λ m. IsNode (tree_of search) m i) leaf_visit.level is;
          come = subst (λ m. HasCome image (tree_of search) boxes (Some (place (tree_of search) m i)) search.reached entries) leaf_visit.level come;
          pass = subst (λ m. passes (tree_of search) (node_in image) (meets_any boxes) m i ≡ true) leaf_visit.level leaf_visit.pass;
          comes = subst (λ m. ComesBehind (tree_of search) m i visit.next) leaf_visit.level leaf_visit.comes;
          judged = subst (λ m. m ≡ (tree_of search).top → root_faults (tree_of search) (node_in image) (header_end image) ≡ []) leaf_visit.level (rooted root);
        }

        pub behind_here : IsBehind image (tree_of search) i search.reached
        behind_here = subst (λ n. IsBehind image (tree_of search) n search.reached) (leaf_is (tree_of search) 0 i there.node ∙ once) there.come.behind
          where
            once : first_leaf (tree_of search) 0 i ≡ i
            once = let x : i * 1 ≡ i = omega arith in ap (λ n. i * n) (pow-zero (tree_of search).node_size) ∙ x

        pub step_leaf_refused : (e : Broken) → BreaksHit image (tree_of search) i e.place e.rule → Refuses image boxes e entries
        step_leaf_refused e breaks =
            refused_leaf image (tree_of search) shape boxes search.reached entries i there.node there.come there.pass visit.next there.comes stands.over.over.opened e breaks

        pub step_found : (e : Entry) → e ≡ entry_at image (tree_of search) i → IsMet image (tree_of search) i → (reached' : ℕ)
            → reached' ≡ leaf_target image (tree_of search) i + 4 + size_at image (leaf_target image (tree_of search) i) → HasCome image (tree_of search) boxes visit.next reached' (entries ++ e ∷ [])
        step_found e same met reached' ends =
            come_found image (tree_of search) shape boxes search.reached entries i there.node there.come there.pass visit.next there.comes there.judged e same met reached' ends

  -- behind all
  pub search_answers : search.node ≡ None → Answers image boxes entries
  search_answers none = come_all image (tree_of search) search.levels.shaped.shaped boxes search.reached entries stands.over.over.opened (subst (λ s. HasCome image (tree_of search) boxes s search.reached entries) none stands.come)

number_within : (t : Shape) → IsShape t → (number : ℕ) → number < node_count t → leaf_at t (Some number) ≤ t.leaves
number_within t shape number within =
    let here = node_there t shape number within in
    let first = first_there t shape here.level here.index here.is.there in
    subst (λ m. leaf_at t (Some m) ≤ t.leaves) (sym here.stands) (subst (λ m. m ≤ t.leaves) (sym (leaf_is t here.level here.index here.is)) (at_most first))

stand_within : (t : Shape) → IsShape t → (stand : Option ℕ) → ForSome stand (λ n. n < node_count t) → leaf_at t stand ≤ t.leaves
unfolding leaf_at
stand_within t shape None there = omega arith
stand_within t shape (Some n) there = number_within t shape n (there n refl)

-- what was found is a front of all that is
pub before_search : (image : List ℕ) (boxes : List Bounds) (entries : List Entry) (search : Search) → Stands image boxes entries search → (rest : List Entry) × AnswersPart image boxes (entries ++ rest)
before_search image boxes entries search stands =
    let t = tree_of search in
    let shape = search.levels.shaped.shaped in
    let rest = before_rest t shape (node_in image) (meets_any boxes) (leaf_at t search.node) (stand_within t shape search.node search.there) in
    let same : met image t boxes ≡ entries ++ map (entry_at image t) rest.0 =
    ap (map (entry_at image t)) rest.1 ∙ map-append (entry_at image t) (leaves_before image t boxes search.node) rest.0 ∙ ap (λ (l : List Entry). l ++ map (entry_at image t) rest.0) (sym stands.come.given) in
    (map (entry_at image t) rest.0, subst (AnswersPart image boxes) same (searched_part stands.over.over.opened))
