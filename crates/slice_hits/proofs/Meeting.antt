-- The own boxes of what was found meet one of the boxes.
use Rattle.std.proofs.Common.{◌≡◌, ℕ, Bool, true, false, ◌&&◌, ◌||◌, inl, inr, List, [], ◌∷◌, ◌++◌, map, IsTrue, refl, sym, subst, arith}
use Rattle.std.specs.Prelude.{cond}
use Rattle.std.specs.List.{AllByRecursion, filter, range_with_len}
use Rattle.std.proofs.lemmas.Bool.{cases_Bool}
use Rattle.order_keys.specs.declared.bounds.Bounds.{Bounds}
use Rattle.order_keys.specs.Keys.{same_key, IsAtMost}
use Rattle.order_keys.specs.Boxes.{meets, same as same_box}
use Rattle.order_keys.proofs.Order.{at_most_is, at_most_through, meets_is}
use Rattle.box_list.specs.Lists.{meets_any}
use Rattle.level_bounds.specs.Levels.{Shape}
use Rattle.fgb_file.specs.File.{header_in, node_in, leaf_in}
use Rattle.tree_search.specs.Wanted.{is_wanted}
use Rattle.found_features.specs.Entries.{Entry, entries}
use Rattle.hit_reader.specs.Met.{entry_at, IsMet}
use Rattle.slice_hits.specs.declared.walk.Walk.{Walk}
use Rattle.slice_hits.specs.declared.walk.Walk.TheVariants.{Over, Scanning, Searching}
use Rattle.slice_hits.specs.Preorder.{leaf_at}
use Rattle.slice_hits.specs.Judging.{is_hit}
use Rattle.slice_hits.specs.Searching.{leaves_before, tree_of}
use Rattle.slice_hits.specs.Giving.{WalkStands}

each_of : (p q r s : Bool) → IsTrue (p && q && r && s) → IsTrue p × IsTrue q × IsTrue r × IsTrue s
each_of p q r s h = grind arith

both_of : (p q : Bool) → IsTrue (p && q) → IsTrue p × IsTrue q
both_of p q h = grind arith

second_of : (a b : Bool) → (a && b) ≡ true → b ≡ true
second_of true b h = h
second_of false b h = cc

first_or : (a b : Bool) → b ≡ true → (a || b) ≡ true
first_or a b h = grind arith

or_false : (a b : Bool) → a ≡ false → (a || b) ≡ true → b ≡ true
or_false a b none h = grind arith

-- two patterns with one key
equal_keys : (p q : ℕ) → IsTrue (same_key p q) → IsAtMost p q × IsAtMost q p
equal_keys p q h = let both = both_of _ _ h in ((at_most_is p q).0 both.0, (at_most_is q p).0 both.1)

-- of two boxes with equal keys, where the one meets a box the other does
still_meets : (a b box : Bounds) → same_box a b ≡ true → meets a box ≡ true → meets b box ≡ true
still_meets a b box same meet =
    let each = each_of _ _ _ _ same in
    let met = (meets_is a box).0 meet in
    (meets_is b box).1 (record {
      left = at_most_through b.min_x.0 a.min_x.0 box.max_x.0 (equal_keys a.min_x.0 b.min_x.0 each.0).1 met.left;
      right = at_most_through box.min_x.0 a.max_x.0 b.max_x.0 met.right (equal_keys a.max_x.0 b.max_x.0 each.2).0;
      below = at_most_through b.min_y.0 a.min_y.0 box.max_y.0 (equal_keys a.min_y.0 b.min_y.0 each.1).1 met.below;
      above = at_most_through box.min_y.0 a.max_y.0 b.max_y.0 met.above (equal_keys a.max_y.0 b.max_y.0 each.3).0;
    })

-- and so with several boxes
still_meets_any : (a b : Bounds) (boxes : List Bounds) → same_box a b ≡ true → meets_any boxes a ≡ true → meets_any boxes b ≡ true
still_meets_any a b [] same meet = meet
still_meets_any a b (box ∷ rest) same meet = elim (cases_Bool (meets a box)) [
  | inl here ↦ let there : meets b box ≡ true = still_meets a b box same here in rw there refl
  | inr missed ↦
      let later : meets_any rest a ≡ true = or_false (meets a box) (meets_any rest a) missed meet in
      first_or (meets b box) (meets_any rest b) (still_meets_any a b rest same later)
]

-- what a filter keeps
kept_step : {X : Type 0} (p : X → Bool) (x : X) (xs : List X) (b : Bool) → p x ≡ b → AllByRecursion (λ y. p y ≡ true) xs → AllByRecursion (λ y. p y ≡ true) (cond b (x ∷ xs) xs)
kept_step p x xs true e rest = (e, rest)
kept_step p x xs false e rest = rest

kept_all : {X : Type 0} (p : X → Bool) (xs : List X) → AllByRecursion (λ y. p y ≡ true) (filter p xs)
kept_all p [] = tt
kept_all p (x ∷ xs) = kept_step p x (filter p xs) (p x) refl (kept_all p xs)

module _ (image : List ℕ) (boxes : List Bounds) where
  met_meets : (t : Shape) (ks : List ℕ) → AllByRecursion (IsMet image t) ks → AllByRecursion (λ k. is_hit t (node_in image) (meets_any boxes) 0 k ≡ true) ks
      → AllByRecursion (λ (e : Entry). meets_any boxes e.own ≡ true) (map (entry_at image t) ks)
  met_meets t [] met hit = tt
  met_meets t (k ∷ ks) met hit =
      (still_meets_any (leaf_in image t k).bounds (entry_at image t k).own boxes met.0.same (second_of (is_wanted t (node_in image) (meets_any boxes) 0 k) _ hit.0), met_meets t ks met.1 hit.1)

  -- each of the entries so far
  pub walk_meets : (given : List Entry) (walk : Walk) → WalkStands image boxes given walk → AllByRecursion (λ (e : Entry). meets_any boxes e.own ≡ true) given
  walk_meets given Over stands = absurd stands
  walk_meets given (Scanning scan) stands =
      subst (AllByRecursion (λ (e : Entry). meets_any boxes e.own ≡ true)) (sym stands.given) (kept_all (λ (e : Entry). meets_any boxes e.own) (entries (header_in image) 0 0 stands.pieces))
  walk_meets given (Searching through) stands =
      let t = tree_of through in
      subst (AllByRecursion (λ (e : Entry). meets_any boxes e.own ≡ true)) (sym stands.come.given)
      (met_meets t (leaves_before image t boxes through.node) stands.come.met (kept_all (is_hit t (node_in image) (meets_any boxes) 0) (range_with_len 0 (leaf_at t through.node))))

  -- so the last of them
  last_of : {X : Type 0} (P : X → Type 0) (xs : List X) (x : X) → AllByRecursion P (xs ++ x ∷ []) → P x
  last_of P [] x all = all.0
  last_of P (y ∷ xs) x all = last_of P xs x all.1

  pub last_meets : (given : List Entry) (e : Entry) (walk : Walk) → WalkStands image boxes (given ++ e ∷ []) walk → meets_any boxes e.own ≡ true
  last_meets given e walk stands = last_of (λ (x : Entry). meets_any boxes x.own ≡ true) given e (walk_meets (given ++ e ∷ []) walk stands)
