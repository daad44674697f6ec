-- The nodes of a run, one after another.
use Rattle.std.proofs.Common.{◌≡◌, ℕ, zero, suc, ◌+◌, ◌-◌, ◌*◌, ◌<◌, ◌≤◌, Bool, true, false, List, [], ◌∷◌, ◌++◌, length, take, get_or, map, inl, inr, refl, sym, ap, subst, ◌∙◌, append_assoc, append-nil, arith}
use Rattle.std.specs.Prelude.{◌==◌, ◌&&◌, ◌||◌, nat_lt, Option, Some}
use Rattle.std.specs.List.{flat_map, range_with_len}
use Rattle.std.proofs.lemmas.Bool.{cases_lt}
use Rattle.std.proofs.lemmas.List.{map-append, take_more}
use Rattle.std.proofs.lemmas.List.Concat.{flat_map-append}
use Rattle.fgb_outside.specs.Asked.{Ascends}
use Rattle.flat_layout.specs.declared.Broken.{Broken}
use Rattle.section_window.specs.Window.{ahead}
use Rattle.gap_window.specs.Gaps.{behind, bridged_behind, hole}
use Rattle.gap_window.specs.Bridging.{Bridging, asks_from, is_near as near_place, last_asked}
use Rattle.gap_window.proofs.Near.{asks_far, asks_near, far_behind, near_behind as place_behind, near_within}
use Rattle.gap_window.proofs.Bridges.{asks_bridged}
use Rattle.level_bounds.specs.Levels.{Shape, IsShape, width, place, nodes_above, first_child, children_end}
use Rattle.node_items.specs.Nodes.{node_place}
use Rattle.node_items.proofs.Runs.{BeginsWith}
use Rattle.read_stop.specs.Stops.{AtRefusal}
use Rattle.read_stop.specs.declared.stop.ReadStop.{ReadStop}
use Rattle.read_stop.proofs.Stopping.{refusal_map}
use Rattle.tree_search.specs.declared.search.Hit.{Hit as Plain}
use Rattle.tree_search.specs.Descent.{all_children, children_before, level_positions}
use Rattle.tree_search.proofs.Neighbours.{before_under, place_order}
use Rattle.box_search.specs.Hits.{room_for}
use Rattle.box_search.specs.Runs.{AreNear, ends_at, hole_between, is_near}
use Rattle.box_search.proofs.Lists.{ends_is, rise_at, rise_between}
use Rattle.box_search.proofs.Bridges.{begins_at, begins_ends, ends_last, ends_of, ends_order, first_last, hole_is, near_behind, near_bridged}

-- parts along one more number
part_more : {A : Type 0} (f : ℕ → List A) (ns : List ℕ) (i : ℕ) → i < length ns → flat_map f (take (i + 1) ns) ≡ flat_map f (take i ns) ++ f (get_or ns i 0)
part_more f ns i under =
    ap (flat_map f) (take_more ns i 0 under) ∙ flat_map-append f (take i ns) (get_or ns i 0 ∷ []) ∙ ap (λ l. flat_map f (take i ns) ++ l) (append-nil (f (get_or ns i 0)))

pub found_take : (h : ℕ → Plain) (f : ℕ → List ℕ) (old now new : List Plain) (ns : List ℕ) (i : ℕ) → i < length ns → now ≡ old ++ map h (flat_map f (take i ns)) → new ≡ now ++ map h (f (get_or ns i 0))
    → new ≡ old ++ map h (flat_map f (take (i + 1) ns))
found_take h f old now new ns i under so_far more =
    more ∙ ap (λ l. l ++ map h (f (get_or ns i 0))) so_far ∙ append_assoc old (map h (flat_map f (take i ns))) (map h (f (get_or ns i 0)))
    ∙ ap (λ l. old ++ l) (sym (map-append h (flat_map f (take i ns)) (f (get_or ns i 0))) ∙ ap (map h) (sym (part_more f ns i under)))

pub clean_take : (f : ℕ → List Broken) (ns : List ℕ) (i : ℕ) → i < length ns → flat_map f (take i ns) ≡ [] → f (get_or ns i 0) ≡ [] → flat_map f (take (i + 1) ns) ≡ []
clean_take f ns i under none here = part_more f ns i under ∙ ap (λ l. l ++ f (get_or ns i 0)) none ∙ here

none_first : {A : Type 0} (xs ys : List A) → xs ++ ys ≡ [] → (xs ≡ []) × (ys ≡ [])
none_first [] ys e = (refl, e)
none_first (x ∷ xs) ys e = let no : ⊥ = cc in absurd no

begins_later : (f : ℕ → List Broken) (ns : List ℕ) (i : ℕ) (e : Broken) → i < length ns → flat_map f (take i ns) ≡ [] → BeginsWith (f (get_or ns i 0)) e → BeginsWith (flat_map f ns) e
begins_later f [] i e under none begins = absurd (omega arith)
begins_later f (n ∷ ns) zero e under none begins = (begins.0 ++ flat_map f ns, ap (λ l. l ++ flat_map f ns) begins.1)
begins_later f (n ∷ ns) (suc i) e under none begins =
    let both = none_first (f n) (flat_map f (take i ns)) none in
    let later = begins_later f ns i e (omega arith) both.1 begins in
    (later.0, ap (λ l. l ++ flat_map f ns) both.0 ∙ later.1)

pub refused_at : (f : ℕ → List Broken) (ns : List ℕ) (i : ℕ) (stop : ReadStop) → i < length ns → flat_map f (take i ns) ≡ [] → AtRefusal stop (BeginsWith (f (get_or ns i 0)))
    → AtRefusal stop (BeginsWith (flat_map f ns))
refused_at f ns i stop under none refused = refusal_map stop _ _ (λ e begins. begins_later f ns i e under none begins) refused

-- asking goes on behind what was asked for, or at the place itself
pub asks_least : (w : Bridging) (to : ℕ) → ahead w.held ≤ asks_from w to
asks_least w to = told (near_place w to) refl
  where
    told : (b : Bool) → near_place w to ≡ b → ahead w.held ≤ asks_from w to
    told true is = let e = asks_near w to is in omega (arith, e)
    told false is = let e = asks_far w to is in let lt = far_behind w to is in omega (arith, e, lt)

pub asks_within : (w : Bridging) (to : ℕ) → ahead w.held ≤ to → asks_from w to ≤ to
asks_within w to le = told (near_place w to) refl
  where
    told : (b : Bool) → near_place w to ≡ b → asks_from w to ≤ to
    told true is = let e = asks_near w to is in omega (arith, e, le)
    told false is = let e = asks_far w to is in omega (arith, e)

short : (h gap : ℕ) → (h == 0 || nat_lt h gap) ≡ true → 0 < h → h < gap
short h gap near some = grind (arith, near, some)

tests : (a b : ℕ) → a < b → nat_lt a b ≡ true
tests a b lt = grind (arith, lt)

-- where a window stands with no hole that is to stay in front of a place, it reads on
pub reads_on_to : (w : Bridging) (to at h : ℕ) → w.begun ≡ true → w.held.at ≡ at → h ≡ to - at → (h == 0 || nat_lt h w.gap) ≡ true → asks_from w to ≡ ahead w.held
reads_on_to w to at h begun stands is near = elim (cases_lt (ahead w.held) to) [
  | inl lt ↦
      let some : 0 < h = omega (arith, is, stands, lt) in
      let less : to - ahead w.held < w.gap = omega (arith, short h w.gap near some, is, stands) in
      asks_near w to (place_behind w to lt ∙ ap (λ b. b && nat_lt (to - ahead w.held) w.gap) begun ∙ tests (to - ahead w.held) w.gap less)
  | inr ge ↦ asks_near w to (near_within w to ge)
]

module _ (t : Shape) (shape : IsShape t) (k at low : ℕ) (ns : List ℕ) (rise : Ascends low (width t (k + 1)) ns) where
  there : (i : ℕ) → i < length ns → get_or ns i 0 < width t (k + 1)
  there i under = (rise_at low (width t (k + 1)) ns i rise under).1

  -- the children of each end where those of the last end, or in front of it
  pub ends_within : (i : ℕ) → i < length ns → ends_of t k at (get_or ns i 0) ≤ ends_last t k at ns
  ends_within i under =
      let last = length ns - 1 in
      let e : ends_last t k at ns ≡ ends_of t k at (get_or ns last 0) = ap (λ n. node_place at (place t k n)) (ends_is t k ns last (omega (arith, under))) in
      elim (cases_lt i last) [
        | inl before ↦
            let order = ends_order t shape k at (get_or ns i 0) (get_or ns last 0) (rise_between low (width t (k + 1)) ns i last rise before (omega (arith, under))) (there last (omega (arith, under))) in
            let some = begins_ends t shape k at (get_or ns last 0) (there last (omega (arith, under))) in
            omega (arith, e, order, some)
        | inr same ↦
            let is : i ≡ last = omega (arith, same, under) in
            let here : ends_of t k at (get_or ns i 0) ≡ ends_of t k at (get_or ns last 0) = ap (λ n. ends_of t k at (get_or ns n 0)) is in
            omega (arith, e, here)
      ]

  -- and there is room for one more node, where the next group follows
  pub room_within : (i : ℕ) (b : Bool) → i < length ns → (b ≡ true → (i + 1 < length ns) × (get_or ns (i + 1) 0 ≡ get_or ns i 0 + 1)) → ends_of t k at (get_or ns i 0) + room_for b ≤ ends_last t k at ns
  room_within i false under follows = omega (arith, ends_within i under)
  room_within i true under follows =
      let next = follows refl in
      let order = ends_order t shape k at (get_or ns i 0) (get_or ns (i + 1) 0) (omega (arith, next.1)) (there (i + 1) next.0) in
      let some = begins_ends t shape k at (get_or ns (i + 1) 0) (there (i + 1) next.0) in
      omega (arith, order, some, ends_within (i + 1) next.0)

  -- the children of the next one stand behind those of this one
  pub next_behind : (i : ℕ) → i + 1 < length ns → ends_of t k at (get_or ns i 0) ≤ begins_at t k at (get_or ns (i + 1) 0)
  next_behind i under =
      ends_order t shape k at (get_or ns i 0) (get_or ns (i + 1) 0) (rise_between low (width t (k + 1)) ns i (i + 1) rise (omega arith) under) (there (i + 1) under)

  pub next_child : (i : ℕ) → i + 1 < length ns → children_end t k (get_or ns i 0) ≤ first_child t (get_or ns (i + 1) 0)
  next_child i under = back (nodes_above t k) (next_behind i under)
    where
      back : (a : ℕ) {x y : ℕ} → at + 40 * (a + x) ≤ at + 40 * (a + y) → x ≤ y
      back a le = omega (arith, le)

  pub first_before_last : 0 < length ns → begins_at t k at (get_or ns 0 0) ≤ ends_last t k at ns
  first_before_last some =
      let less = begins_ends t shape k at (get_or ns 0 0) (there 0 some) in omega (arith, less, ends_within 0 some)

  -- a window that asked for nothing behind what is wanted before
  pub behind_first : (a : ℕ) → 0 < length ns → a ≤ node_place at (place t k (children_before t k low)) → a ≤ begins_at t k at (get_or ns 0 0)
  behind_first a some le =
      let order = place_order t k (children_before t k low) (first_child t (get_or ns 0 0)) at (before_under t k low (get_or ns 0 0) (rise_at low (width t (k + 1)) ns 0 rise some).0) in
      omega (arith, le, order)

  pub asked_run : (gap : ℕ) (w : Bridging) → AreNear t k gap ns → 0 < length ns → w.gap ≡ gap → ahead w.held ≤ begins_at t k at (get_or ns 0 0)
      → range_with_len (asks_from w (begins_at t k at (get_or ns 0 0))) (ends_last t k at ns - asks_from w (begins_at t k at (get_or ns 0 0)))
      ≡ bridged_behind gap (last_asked w) (level_positions at t k (all_children t k ns))
  asked_run gap w near some is le =
      asks_bridged w (begins_at t k at (get_or ns 0 0)) (ends_last t k at ns) le (first_before_last some)
      ∙ ap (λ g. hole g (last_asked w) (begins_at t k at (get_or ns 0 0)) ++ range_with_len (begins_at t k at (get_or ns 0 0)) (ends_last t k at ns - begins_at t k at (get_or ns 0 0))) is
      ∙ sym (whole ns near some rise)
    where
      whole : (js : List ℕ) → AreNear t k gap js → 0 < length js → Ascends low (width t (k + 1)) js
          → bridged_behind gap (last_asked w) (level_positions at t k (all_children t k js)) ≡ hole gap (last_asked w) (begins_at t k at (get_or js 0 0)) ++ range_with_len (begins_at t k at (get_or js 0 0)) (ends_last t k at js - begins_at t k at (get_or js 0 0))
      whole [] near some rise = absurd (omega arith)
      whole (j ∷ js) near some rise = near_bridged t shape k at gap low (last_asked w) j js near rise

pub behind_run : (t : Shape) (shape : IsShape t) (k at low : ℕ) (ns : List ℕ) (last : Option ℕ) → Ascends low (width t (k + 1)) ns → 0 < length ns
    → behind last (level_positions at t k (all_children t k ns)) ≡ Some (ends_last t k at ns)
behind_run t shape k at low [] last rise some = absurd (omega arith)
behind_run t shape k at low (j ∷ js) last rise some = near_behind t shape k at low last j js rise
