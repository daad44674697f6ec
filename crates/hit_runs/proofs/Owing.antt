-- What is left to be asked for where one more feature was read.
use Rattle.std.proofs.Common.{◌≡◌, ⊎_elim, ℕ, ◌+◌, ◌-◌, ◌<◌, ◌≤◌, max, Bool, true, false, List, [], ◌∷◌, ◌++◌, zero, suc, refl, sym, ap, subst, ◌∙◌, append_assoc, arith}
use Rattle.std.specs.Prelude.{◌&&◌, nat_lt, if◌then◌else◌, Option, Some, None}
use Rattle.std.specs.List.{range_with_len}
use Rattle.std.proofs.lemmas.Bool.{lt-ltb, ltb-true, ltb-false, le-ltb, cases_lt}
use Rattle.fgb_outside.specs.Source.{Source}
use Rattle.fgb_outside.specs.Asked.{ReadsFront}
use Rattle.fgb_outside.proofs.Asking.{front_along, front_longer}
use Rattle.section_window.specs.Window.{ahead}
use Rattle.section_window.proofs.Parts.{range_join}
use Rattle.fgb_file.specs.File.{size_at}
use Rattle.gap_window.specs.Bridging.{Bridging, asks_from}
use Rattle.gap_window.specs.Gaps.{hole, bridged_behind}
use Rattle.gap_window.proofs.Bridges.{no_hole}
use Rattle.gap_window.proofs.Near.{near_within, near_behind, asks_near, asks_far}
use Rattle.box_search.specs.declared.nodes.Hit.{Hit}
use Rattle.hit_runs.specs.Laid.{place_said, end_there, hit_positions, is_joined, run_end, AreLaid}
use Rattle.hit_runs.proofs.Ending.{one_more, run_first, end_in_run, hole_joined, hole_parted}

tail_is : (x : ℕ) (xs ys : List ℕ) → x ∷ xs ≡ x ∷ ys → xs ≡ ys
tail_is x xs ys e = cc

head_is : (x y : ℕ) (xs ys : List ℕ) → x ∷ xs ≡ y ∷ ys → x ≡ y
head_is x y xs ys e = cc

cancel : (a n : ℕ) (xs ys : List ℕ) → range_with_len a n ++ xs ≡ range_with_len a n ++ ys → xs ≡ ys
cancel a zero xs ys e = e
cancel a (suc n) xs ys e = cancel (a + 1) n xs ys (tail_is a (range_with_len (a + 1) n ++ xs) (range_with_len (a + 1) n ++ ys) e)

-- a range and more, split at a place in it
split_at : (a b c : ℕ) (xs : List ℕ) → a ≤ b → b ≤ c → range_with_len a (c - a) ++ xs ≡ range_with_len a (b - a) ++ (range_with_len b (c - b) ++ xs)
split_at a b c xs ab bc = ap (λ l. l ++ xs) (sym (range_join a (b - a) b (c - b) (c - a) (omega arith) (omega arith))) ∙ append_assoc (range_with_len a (b - a)) (range_with_len b (c - b)) xs

nothing : (a n : ℕ) (xs : List ℕ) → n ≡ 0 → range_with_len a n ++ xs ≡ xs
nothing a n xs e = ap (λ k. range_with_len a k ++ xs) e

-- what is asked for up to a place, and left, of what is owed; and what is held then, and left, of what comes behind
abbrev pub Left : (asks till end : ℕ) → List ℕ → List ℕ → Type 0
Left asks till end due behind = (left : List ℕ) × (range_with_len asks (till - asks) ++ left ≡ due) × (range_with_len end (till - end) ++ left ≡ behind)

-- what is held from `at` on is a front of what is owed
joined_left : (at held till end stop : ℕ) (due behind more : List ℕ) → at ≤ held → at ≤ end → held ≤ till → end ≤ till → end ≤ stop → till ≤ max held stop
    → range_with_len at (held - at) ++ due ≡ range_with_len at (end - at) ++ behind
    → range_with_len at (end - at) ++ behind ≡ range_with_len at (stop - at) ++ more
    → Left held till end due behind
joined_left at held till end stop due behind more l1 l2 l3 l4 l5 l6 owed run = ⊎_elim
    (λ (past : stop < till).
    let same : held ≡ till = omega (arith, past, l3, l6) in (
      due,
      nothing held (till - held) due (omega arith),
      cancel at (end - at) (range_with_len end (till - end) ++ due) behind
          (sym (split_at at end till due l2 l4) ∙ ap (λ k. range_with_len at (k - at) ++ due) (sym same) ∙ owed),
    ))
    (λ (inside : till ≤ stop). (
      range_with_len till (stop - till) ++ more,
      sym (split_at held till stop more l3 inside)
          ∙ sym (cancel at (held - at) due (range_with_len held (stop - held) ++ more) (owed ∙ run ∙ split_at at held stop more l1 (omega (arith, l3, inside)))),
      sym (split_at end till stop more l4 inside)
          ∙ sym (cancel at (end - at) behind (range_with_len end (stop - end) ++ more) (run ∙ split_at at end stop more l2 l5)),
    ))
    (cases_lt stop till)

parted_left : (place till end stop : ℕ) (due behind more : List ℕ) → place ≤ end → end ≤ till → till ≤ stop
    → due ≡ range_with_len place (end - place) ++ behind
    → range_with_len place (end - place) ++ behind ≡ range_with_len place (stop - place) ++ more
    → Left place till end due behind
parted_left place till end stop due behind more l1 l2 l3 owed run = (
  range_with_len till (stop - till) ++ more,
  sym (split_at place till stop more (omega arith) l3) ∙ sym (owed ∙ run),
  sym (split_at end till stop more l2 l3)
      ∙ sym (cancel place (end - place) behind (range_with_len end (stop - end) ++ more) (run ∙ split_at place end stop more l1 (omega arith))),
)

-- nothing is held where what is owed begins elsewhere
starts_apart : (at n place m : ℕ) (due rest : List ℕ) → at < place → 0 < m → range_with_len at n ++ due ≡ range_with_len place m ++ rest → n ≡ 0
starts_apart at zero place m due rest lt some e = refl
starts_apart at (suc n) place zero due rest lt some e = absurd (omega arith)
starts_apart at (suc n) place (suc m) due rest lt some e =
    let same : at ≡ place = head_is at place (range_with_len (at + 1) n ++ due) (range_with_len (place + 1) m ++ rest) e in
    absurd (omega (arith, same, lt))

front_joined : {P : ℕ × ℕ → Type 0} {s s' : Source} (at held stop : ℕ) (due more : List ℕ) → at ≤ held
    → range_with_len at (held - at) ++ due ≡ range_with_len at (stop - at) ++ more
    → ReadsFront P s s' (range_with_len held (stop - held)) → ReadsFront P s s' due
front_joined at held stop due more le owed front = ⊎_elim
    (λ (past : stop < held). front_along _ _ (nothing held (stop - held) due (omega arith)) (front_longer due front))
    (λ (inside : held ≤ stop). front_along _ _ (sym (cancel at (held - at) due (range_with_len held (stop - held) ++ more) (owed ∙ split_at at held stop more le inside))) (front_longer more front))
    (cases_lt stop held)

-- ## A window in front of a feature

module _ (image : List ℕ) (first : ℕ) (w : Bridging) (h : Hit) (hits : List Hit) (onward : w.held.at ≤ place_said first h) (laid : AreLaid image first (h ∷ hits)) where
  -- what it owes
  abbrev owed : List ℕ → Type 0
  owed due = range_with_len w.held.at (ahead w.held - w.held.at) ++ due ≡ bridged_behind w.gap (if w.begun then Some w.held.at else None) (hit_positions image first (h ∷ hits))

  abbrev stop : ℕ
  stop = run_end image first w.gap (h ∷ hits)

  -- whether the feature is joined to what was read
  data Joined : Type 0 where
    joined : asks_from w (place_said first h) ≡ ahead w.held
        → bridged_behind w.gap (if w.begun then Some w.held.at else None) (hit_positions image first (h ∷ hits))
        ≡ range_with_len w.held.at (end_there image first h - w.held.at) ++ bridged_behind w.gap (Some (end_there image first h)) (hit_positions image first hits) → Joined
    parted : ahead w.held ≡ w.held.at → asks_from w (place_said first h) ≡ place_said first h
        → bridged_behind w.gap (if w.begun then Some w.held.at else None) (hit_positions image first (h ∷ hits))
        ≡ range_with_len (place_said first h) (end_there image first h - place_said first h) ++ bridged_behind w.gap (Some (end_there image first h)) (hit_positions image first hits) → Joined

  abbrev behind_it : List ℕ
  behind_it = bridged_behind w.gap (Some (end_there image first h)) (hit_positions image first hits)

  size : 4 + size_at image (place_said first h) ≡ end_there image first h - place_said first h
  size = omega arith

  -- behind a hole of these positions
  after_hole : (last : Option ℕ) (l : List ℕ) → hole w.gap last (place_said first h) ≡ l
      → bridged_behind w.gap last (hit_positions image first (h ∷ hits))
      ≡ l ++ range_with_len (place_said first h) (end_there image first h - place_said first h) ++ bridged_behind w.gap (Some (end_there image first h)) (hit_positions image first hits)
  after_hole last l is =
      one_more image first w.gap last h hits
      ∙ ap (λ k. k ++ range_with_len (place_said first h) (4 + size_at image (place_said first h)) ++ bridged_behind w.gap (Some (end_there image first h)) (hit_positions image first hits)) is
      ∙ ap (λ n. l ++ range_with_len (place_said first h) n ++ bridged_behind w.gap (Some (end_there image first h)) (hit_positions image first hits)) size

  from_here : (b : Bool) → w.begun ≡ b → (due : List ℕ) → owed due → w.held.at < place_said first h → Joined
  from_here false begun due owes lt =
      let is : bridged_behind w.gap (if w.begun then Some w.held.at else None) (hit_positions image first (h ∷ hits))
      ≡ range_with_len (place_said first h) (end_there image first h - place_said first h) ++ bridged_behind w.gap (Some (end_there image first h)) (hit_positions image first hits) =
      ap (λ (c : Bool). bridged_behind w.gap (if c then Some w.held.at else None) (hit_positions image first (h ∷ hits))) begun ∙ after_hole None [] refl in
      let none = starts_apart w.held.at (ahead w.held - w.held.at) (place_said first h) (end_there image first h - place_said first h) due behind_it lt (omega arith) (owes ∙ is) in
      let same : ahead w.held ≡ w.held.at = omega (arith, none) in
      parted same (asks_far w (place_said first h) (near_behind w (place_said first h) (omega (arith, same, lt)) ∙ ap (λ c. c && nat_lt (place_said first h - ahead w.held) w.gap) begun)) is
  from_here true begun due owes lt = by_join (is_joined w.gap w.held.at (place_said first h)) refl
    where
      last_is : bridged_behind w.gap (if w.begun then Some w.held.at else None) (hit_positions image first (h ∷ hits)) ≡ bridged_behind w.gap (Some w.held.at) (hit_positions image first (h ∷ hits))
      last_is = ap (λ (c : Bool). bridged_behind w.gap (if c then Some w.held.at else None) (hit_positions image first (h ∷ hits))) begun

      by_join : (b : Bool) → is_joined w.gap w.held.at (place_said first h) ≡ b → Joined
      by_join true is =
          let near = ltb-true (place_said first h) (w.held.at + max w.gap 1) is in
          joined (near_it near)
          (last_is ∙ after_hole (Some w.held.at) _ (hole_joined w.gap w.held.at (place_said first h) onward is)
          ∙ ap (λ l. l ++ behind_it) (range_join w.held.at (place_said first h - w.held.at) (place_said first h) (end_there image first h - place_said first h) (end_there image first h - w.held.at) (omega (arith, lt)) (omega (arith, lt))))
        where
          near_it : place_said first h < w.held.at + max w.gap 1 → asks_from w (place_said first h) ≡ ahead w.held
          near_it near = ⊎_elim
              (λ (far : ahead w.held < place_said first h).
              asks_near w (place_said first h) (near_behind w (place_said first h) far
              ∙ ap (λ c. c && nat_lt (place_said first h - ahead w.held) w.gap) begun
              ∙ lt-ltb (place_said first h - ahead w.held) w.gap (omega (arith, near, lt, far))))
              (λ (le : place_said first h ≤ ahead w.held). asks_near w (place_said first h) (near_within w (place_said first h) le))
              (cases_lt (ahead w.held) (place_said first h))
      by_join false is =
          let far = ltb-false (place_said first h) (w.held.at + max w.gap 1) is in
          let whole = last_is ∙ after_hole (Some w.held.at) [] (hole_parted w.gap w.held.at (place_said first h) is) in
          let none = starts_apart w.held.at (ahead w.held - w.held.at) (place_said first h) (end_there image first h - place_said first h) due behind_it lt (omega arith) (owes ∙ whole) in
          let same : ahead w.held ≡ w.held.at = omega (arith, none) in
          parted same
          (asks_far w (place_said first h) (near_behind w (place_said first h) (omega (arith, same, lt))
          ∙ ap (λ c. c && nat_lt (place_said first h - ahead w.held) w.gap) begun
          ∙ le-ltb (place_said first h - ahead w.held) w.gap (omega (arith, far, same))))
          whole

  no_hole_here : (b : Bool) → w.held.at ≡ place_said first h → hole w.gap (if b then Some w.held.at else None) (place_said first h) ≡ []
  no_hole_here true same = ap (λ k. hole w.gap (Some k) (place_said first h)) same ∙ no_hole w.gap (place_said first h)
  no_hole_here false same = refl

  joins : (due : List ℕ) → owed due → Joined
  joins due owes = ⊎_elim
      (λ (lt : w.held.at < place_said first h). from_here w.begun refl due owes lt)
      (λ (ge : place_said first h ≤ w.held.at).
      let same : w.held.at ≡ place_said first h = omega (arith, onward, ge) in
      joined (asks_near w (place_said first h) (near_within w (place_said first h) (omega (arith, same))))
      (after_hole (if w.begun then Some w.held.at else None) [] (no_hole_here w.begun same)
      ∙ ap (λ k. range_with_len k (end_there image first h - k) ++ behind_it) (sym same)))
      (cases_lt w.held.at (place_said first h))

  run : (more : List ℕ) × (range_with_len (place_said first h) (end_there image first h - place_said first h) ++ behind_it ≡ range_with_len (place_said first h) (stop - place_said first h) ++ more)
  run =
      let r = run_first image first w.gap h hits laid in
      (r.0, ap (λ n. range_with_len (place_said first h) n ++ behind_it) (sym size) ∙ r.1)

  in_run : end_there image first h ≤ stop
  in_run = end_in_run image first w.gap h hits laid

  run_from : range_with_len w.held.at (end_there image first h - w.held.at) ++ behind_it ≡ range_with_len w.held.at (stop - w.held.at) ++ run.0
  run_from =
      split_at w.held.at (place_said first h) (end_there image first h) behind_it onward (omega arith)
      ∙ ap (λ l. range_with_len w.held.at (place_said first h - w.held.at) ++ l) run.1
      ∙ sym (split_at w.held.at (place_said first h) stop run.0 onward (omega (arith, in_run)))

  -- the feature was read, and what lies up to `till`
  left_of : (till : ℕ) (due : List ℕ) → Joined → owed due → ahead w.held ≤ till → end_there image first h ≤ till → till ≤ max (ahead w.held) stop
      → Left (asks_from w (place_said first h)) till (end_there image first h) due behind_it
  left_of till due (joined asks is) owes l1 l2 l3 =
      subst (λ (k : ℕ). Left k till (end_there image first h) due behind_it) (sym asks)
      (joined_left w.held.at (ahead w.held) till (end_there image first h) stop due behind_it run.0 (omega arith) (omega (arith, onward)) l1 l2 in_run l3 (owes ∙ is) run_from)
  left_of till due (parted same asks is) owes l1 l2 l3 =
      subst (λ (k : ℕ). Left k till (end_there image first h) due behind_it) (sym asks)
      (parted_left (place_said first h) till (end_there image first h) stop due behind_it run.0 (omega arith) l2 (omega (arith, same, onward, in_run, l3))
      (sym (nothing w.held.at (ahead w.held - w.held.at) due (omega (arith, same))) ∙ owes ∙ is) run.1)

  pub pays_one : (till : ℕ) (due : List ℕ) → range_with_len w.held.at (ahead w.held - w.held.at) ++ due ≡ bridged_behind w.gap (if w.begun then Some w.held.at else None) (hit_positions image first (h ∷ hits))
      → ahead w.held ≤ till → end_there image first h ≤ till → till ≤ max (ahead w.held) (run_end image first w.gap (h ∷ hits))
      → Left (asks_from w (place_said first h)) till (end_there image first h) due (bridged_behind w.gap (Some (end_there image first h)) (hit_positions image first hits))
  pays_one till due owes l1 l2 l3 = left_of till due (joins due owes) owes l1 l2 l3

  front_of : {P : ℕ × ℕ → Type 0} {s s' : Source} (due : List ℕ) → Joined → owed due
      → ReadsFront P s s' (range_with_len (asks_from w (place_said first h)) (stop - asks_from w (place_said first h))) → ReadsFront P s s' due
  front_of {P = P} {s = s} {s' = s'} due (joined asks is) owes front =
      front_joined w.held.at (ahead w.held) stop due run.0 (omega arith) (owes ∙ is ∙ run_from) (subst (λ (k : ℕ). ReadsFront P s s' (range_with_len k (stop - k))) asks front)
  front_of {P = P} {s = s} {s' = s'} due (parted same asks is) owes front =
      front_along _ _ (sym (sym (nothing w.held.at (ahead w.held - w.held.at) due (omega (arith, same))) ∙ owes ∙ is ∙ run.1))
      (front_longer run.0 (subst (λ (k : ℕ). ReadsFront P s s' (range_with_len k (stop - k))) asks front))

  pub pays_front : {P : ℕ × ℕ → Type 0} {s s' : Source} (due : List ℕ)
      → range_with_len w.held.at (ahead w.held - w.held.at) ++ due ≡ bridged_behind w.gap (if w.begun then Some w.held.at else None) (hit_positions image first (h ∷ hits))
      → ReadsFront P s s' (range_with_len (asks_from w (place_said first h)) (run_end image first w.gap (h ∷ hits) - asks_from w (place_said first h))) → ReadsFront P s s' due
  pays_front due owes front = front_of due (joins due owes) owes front
