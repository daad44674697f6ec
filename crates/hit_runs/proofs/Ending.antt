-- Where runs end.
use Rattle.std.proofs.Common.{◌≡◌, ⊎_elim, ℕ, ◌+◌, ◌-◌, ◌<◌, ◌≤◌, max, Bool, true, false, List, [], ◌∷◌, ◌++◌, length, get_or, drop, zero, suc, refl, sym, ap, subst, ◌∙◌, append_assoc, arith}
use Rattle.std.specs.Prelude.{nat_lt, if◌then◌else◌, Option, Some}
use Rattle.std.specs.List.{AllByRecursion, range_with_len}
use Rattle.std.proofs.lemmas.Bool.{lt-ltb, ltb-true, ltb-false, le-ltb, cases_lt}
use Rattle.section_window.proofs.Parts.{range_join}
use Rattle.fgb_file.specs.File.{size_at}
use Rattle.gap_window.specs.Gaps.{hole, bridged_behind, behind}
use Rattle.gap_window.proofs.Bridges.{behind_append, behind_range, range_ends}
use Rattle.box_search.specs.declared.nodes.Hit.{Hit}
use Rattle.hit_runs.specs.Laid.{place_said, end_there, hit_positions, is_joined, run_end, AreLaid, SaysEnd}

-- joined features elsewhere
pub joined_shift : (gap end place first : ℕ) → is_joined gap end place ≡ true → is_joined gap (first + end) (first + place) ≡ true
joined_shift gap end place first is = let lt = ltb-true place (end + max gap 1) is in lt-ltb (first + place) (first + end + max gap 1) (omega (arith, lt))

pub parted_shift : (gap end place first : ℕ) → is_joined gap end place ≡ false → is_joined gap (first + end) (first + place) ≡ false
parted_shift gap end place first is = let le = ltb-false place (end + max gap 1) is in le-ltb (first + place) (first + end + max gap 1) (omega (arith, le))

holed : (b : Bool) (l : List ℕ) → b ≡ true → (if b then l else []) ≡ l
holed b l is = ap (λ c. if c then l else []) is

whole : (b : Bool) (l : List ℕ) → b ≡ false → (if b then l else []) ≡ []
whole b l is = ap (λ c. if c then l else []) is

pub hole_joined : (gap end place : ℕ) → end ≤ place → is_joined gap end place ≡ true → hole gap (Some end) place ≡ range_with_len end (place - end)
hole_joined gap end place le is =
    let lt = ltb-true place (end + max gap 1) is in
    ⊎_elim
    (λ (short : place - end < gap). holed (nat_lt (place - end) gap) (range_with_len end (place - end)) (lt-ltb (place - end) gap short))
    (λ (long : gap ≤ place - end).
    let none : place - end ≡ 0 = omega (arith, lt, long, le) in
    whole (nat_lt (place - end) gap) (range_with_len end (place - end)) (le-ltb (place - end) gap long) ∙ sym (ap (range_with_len end) none))
    (cases_lt (place - end) gap)

pub hole_parted : (gap end place : ℕ) → is_joined gap end place ≡ false → hole gap (Some end) place ≡ []
hole_parted gap end place is =
    let le = ltb-false place (end + max gap 1) is in
    whole (nat_lt (place - end) gap) (range_with_len end (place - end)) (le-ltb (place - end) gap (omega (arith, le)))

at_if : (b : Bool) (m x y : ℕ) → m ≤ x → m ≤ y → m ≤ (if b then x else y)
at_if true m x y p q = p
at_if false m x y p q = q

module _ (image : List ℕ) (first gap : ℕ) where
  len : Hit → ℕ
  len h = 4 + size_at image (place_said first h)

  pub run_joins : (h g : Hit) (hits : List Hit) → is_joined gap (end_there image first h) (place_said first g) ≡ true → run_end image first gap (h ∷ (g ∷ hits)) ≡ run_end image first gap (g ∷ hits)
  run_joins h g hits is = ap (λ b. if b then run_end image first gap (g ∷ hits) else end_there image first h) is

  pub run_parts : (h g : Hit) (hits : List Hit) → is_joined gap (end_there image first h) (place_said first g) ≡ false → run_end image first gap (h ∷ (g ∷ hits)) ≡ end_there image first h
  run_parts h g hits is = ap (λ b. if b then run_end image first gap (g ∷ hits) else end_there image first h) is

  -- no feature of a run ends behind it
  pub end_in_run : (h : Hit) (hits : List Hit) → AreLaid image first (h ∷ hits) → end_there image first h ≤ run_end image first gap (h ∷ hits)
  end_in_run h [] laid = omega arith
  end_in_run h (g ∷ hits) laid =
      at_if (is_joined gap (end_there image first h) (place_said first g)) (end_there image first h) (run_end image first gap (g ∷ hits)) (end_there image first h)
      (omega (arith, laid.1, end_in_run g hits laid.2)) (omega arith)

  pub says_end : (h : Hit) (hits : List Hit) → AreLaid image first (h ∷ hits) → SaysEnd image first h
  says_end h [] laid = laid
  says_end h (g ∷ hits) laid = laid.0

  -- the positions of a feature and of those behind it, from the hole in front of it on
  pub one_more : (last : Option ℕ) (h : Hit) (hits : List Hit)
      → bridged_behind gap last (hit_positions image first (h ∷ hits))
      ≡ hole gap last (place_said first h) ++ range_with_len (place_said first h) (4 + size_at image (place_said first h)) ++ bridged_behind gap (Some (end_there image first h)) (hit_positions image first hits)
  one_more last h hits =
      let p = place_said first h in
      let n = 4 + size_at image (place_said first h) in
      let e : p + n ≡ end_there image first h = omega arith in
      behind_append gap last (range_with_len p n) (hit_positions image first hits)
      ∙ ap (λ l. l ++ bridged_behind gap (behind last (range_with_len p n)) (hit_positions image first hits)) (behind_range gap last p n (omega arith))
      ∙ ap (λ (k : Option ℕ). hole gap last p ++ range_with_len p n ++ bridged_behind gap k (hit_positions image first hits)) (range_ends last p n (omega arith) ∙ ap Some e)

  -- a run up to here, and what comes behind it
  abbrev pub Splits : Hit → List Hit → ℕ → Type 0
  Splits h hits stop = (more : List ℕ) × (range_with_len (place_said first h) (4 + size_at image (place_said first h)) ++ bridged_behind gap (Some (end_there image first h)) (hit_positions image first hits)
      ≡ range_with_len (place_said first h) (stop - place_said first h) ++ more)

  run_more : (h g : Hit) (hits : List Hit) → end_there image first h ≤ place_said first g → end_there image first g ≤ run_end image first gap (g ∷ hits) → Splits g hits (run_end image first gap (g ∷ hits))
      → (b : Bool) → is_joined gap (end_there image first h) (place_said first g) ≡ b → Splits h (g ∷ hits) (if b then run_end image first gap (g ∷ hits) else end_there image first h)
  run_more h g hits there far rest false is =
      let n : 4 + size_at image (place_said first h) ≡ end_there image first h - place_said first h = omega arith in
      (bridged_behind gap (Some (end_there image first h)) (hit_positions image first (g ∷ hits)), ap (λ k. range_with_len (place_said first h) k ++ bridged_behind gap (Some (end_there image first h)) (hit_positions image first (g ∷ hits))) n)
  run_more h g hits there far rest true is =
      let p = place_said first h in
      let e = end_there image first h in
      let q = place_said first g in
      let till = run_end image first gap (g ∷ hits) in (
        rest.0,
        ap (λ l. range_with_len p (4 + size_at image p) ++ l)
            (one_more (Some e) g hits
            ∙ ap (λ l. l ++ range_with_len q (4 + size_at image q) ++ bridged_behind gap (Some (end_there image first g)) (hit_positions image first hits)) (hole_joined gap e q there is)
            ∙ append_assoc (range_with_len e (q - e)) (range_with_len q (4 + size_at image q)) (bridged_behind gap (Some (end_there image first g)) (hit_positions image first hits))
            ∙ ap (λ l. range_with_len e (q - e) ++ l) rest.1
            ∙ sym (append_assoc (range_with_len e (q - e)) (range_with_len q (till - q)) rest.0)
            ∙ ap (λ l. l ++ rest.0) (range_join e (q - e) q (till - q) (till - e) (omega (arith, there)) (omega (arith, there, far))))
            ∙ sym (append_assoc (range_with_len p (4 + size_at image p)) (range_with_len e (till - e)) rest.0)
            ∙ ap (λ l. l ++ rest.0) (range_join p (4 + size_at image p) e (till - e) (till - p) (omega arith) (omega (arith, there, far))),
      )

  pub run_first : (h : Hit) (hits : List Hit) → AreLaid image first (h ∷ hits) → Splits h hits (run_end image first gap (h ∷ hits))
  run_first h [] laid =
      let e : 4 + size_at image (place_said first h) ≡ end_there image first h - place_said first h = omega arith in
      ([], ap (λ n. range_with_len (place_said first h) n ++ []) e)
  run_first h (g ∷ hits) laid = run_more h g hits laid.1 (end_in_run g hits laid.2) (run_first g hits laid.2) (is_joined gap (end_there image first h) (place_said first g)) refl

-- ## A walk over the leaves of a run

-- the run that begins with this leaf is known to go on up to the last one, behind which so many were passed
abbrev pub GoesTo : List ℕ → ℕ → ℕ → Hit → List Hit → Hit → ℕ → Type 0
GoesTo image first gap hit later last i = AreLaid image first (hit ∷ later)
    → AreLaid image first (last ∷ drop i later) × (run_end image first gap (hit ∷ later) ≡ run_end image first gap (last ∷ drop i later))

pub goes_on : (image : List ℕ) (first gap : ℕ) (hit last next : Hit) (later : List Hit) (i : ℕ) → drop i later ≡ next ∷ drop (i + 1) later
    → (end : ℕ) × (last.next ≡ Some end) × (is_joined gap end next.item.offset ≡ true) → GoesTo image first gap hit later last i → GoesTo image first gap hit later next (i + 1)
goes_on image first gap hit last next later i more leads known laid =
    let so_far = known laid in
    let now : AreLaid image first (last ∷ (next ∷ drop (i + 1) later)) = subst (λ l. AreLaid image first (last ∷ l)) more so_far.0 in
    let ends : first + leads.0 ≡ end_there image first last = now.0 leads.0 leads.1 in
    let joins : is_joined gap (end_there image first last) (place_said first next) ≡ true = ap (λ e. is_joined gap e (place_said first next)) (sym ends) ∙ joined_shift gap leads.0 next.item.offset first leads.2 in
    (now.2, so_far.1 ∙ ap (λ l. run_end image first gap (last ∷ l)) more ∙ run_joins image first gap last next (drop (i + 1) later) joins)

-- what is known of the last one bounds the run
pub known_in_run : (image : List ℕ) (first gap : ℕ) (hit last : Hit) (later : List Hit) (i known : ℕ) → GoesTo image first gap hit later last i
    → (SaysEnd image first last → known ≤ end_there image first last) → AreLaid image first (hit ∷ later) → known ≤ run_end image first gap (hit ∷ later)
known_in_run image first gap hit last later i known goes bound laid =
    let so_far = goes laid in
    omega (arith, so_far.1, bound (says_end image first gap last (drop i later) so_far.0), end_in_run image first gap last (drop i later) so_far.0)

-- what holds of all of a list holds at a place of it, and of all behind a place
pub all_at : (P : Hit → Type 0) (hits : List Hit) (i : ℕ) (other : Hit) → i < length hits → AllByRecursion P hits → P (get_or hits i other)
all_at P [] i other within all = absurd (omega (arith, within))
all_at P (h ∷ hits) zero other within all = all.0
all_at P (h ∷ hits) (suc i) other within all = all_at P hits i other (omega (arith, within)) all.1

pub all_behind : (P : Hit → Type 0) (hits : List Hit) (i : ℕ) → AllByRecursion P hits → AllByRecursion P (drop i hits)
all_behind P hits zero all = all
all_behind P [] (suc i) all = all
all_behind P (h ∷ hits) (suc i) all = all_behind P hits i all.1

-- a feature that is joined to the one before is in one run with it
pub joined_known : (image : List ℕ) (first gap end known : ℕ) (hit g : Hit) (later rest : List Hit) → later ≡ g ∷ rest → first ≤ end → end_there image first hit ≡ end → is_joined gap (end - first) g.item.offset ≡ true
    → (AreLaid image first (g ∷ rest) → known ≤ max end (run_end image first gap (g ∷ rest))) → AreLaid image first (hit ∷ later) → known ≤ run_end image first gap (hit ∷ later)
joined_known image first gap end known hit g later rest is order ends joined bound laid =
    let now : AreLaid image first (hit ∷ (g ∷ rest)) = subst (λ l. AreLaid image first (hit ∷ l)) is laid in
    let there : first + (end - first) ≡ end_there image first hit = omega (arith, order, ends) in
    let joins : is_joined gap (end_there image first hit) (place_said first g) ≡ true = ap (λ e. is_joined gap e (place_said first g)) (sym there) ∙ joined_shift gap (end - first) g.item.offset first joined in
    let same : run_end image first gap (hit ∷ later) ≡ run_end image first gap (g ∷ rest) = ap (λ l. run_end image first gap (hit ∷ l)) is ∙ run_joins image first gap hit g rest joins in
    omega (arith, same, bound now.2, now.1, ends, end_in_run image first gap g rest now.2)
