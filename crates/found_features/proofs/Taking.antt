-- What a visitor has taken, entry by entry.
use Rattle.std.proofs.Common.{◌≡◌, List, [], ◌∷◌, ◌++◌, refl, sym, ap, subst, ◌∙◌}
use Rattle.std.proofs.lemmas.List.{append-nil, append_assoc}
use Rattle.found_features.specs.Entries.{Entry}
use Rattle.found_features.specs.Visits.{Takes, TakesPart, some, some_and_failed, TakesSome, Handed}

module _ {V : Type 0} (step : V → Entry → V → Type 0) where
  pub takes_nothing : (v : V) → Takes step v [] v
  takes_nothing v = refl

  -- some, and then more
  pub takes-append : (v u w : V) (xs ys : List Entry) → Takes step v xs u → Takes step u ys w → Takes step v (xs ++ ys) w
  takes-append v u w [] ys first second = subst (λ t. Takes step t ys w) (sym first) second
  takes-append v u w (x ∷ xs) ys first second = (first.0, first.1, takes-append first.0 u w xs ys first.2 second)

  -- one more at the end
  pub takes_more : (v u w : V) (xs : List Entry) (e : Entry) → Takes step v xs u → step u e w → Takes step v (xs ++ e ∷ []) w
  takes_more v u w xs e first last = takes-append v u w xs (e ∷ []) first (w, last, refl)

  -- whatever they are
  pub some_nothing : (v : V) → TakesSome step v v
  some_nothing v = ([], takes_nothing v)

  pub some_same : (v w : V) → w ≡ v → TakesSome step v w
  some_same v w same = ([], sym same)

  pub some_one : (v w : V) (e : Entry) → step v e w → TakesSome step v w
  some_one v w e one = (e ∷ [], takes_more v v w [] e (takes_nothing v) one)

  pub some_then : (v u w : V) → TakesSome step v u → TakesSome step u w → TakesSome step v w
  some_then v u w first second = (first.0 ++ second.0, takes-append v u w first.0 second.0 first.1 second.1)

  module _ (failed_step : V → Entry → V → Type 0) where
    -- all that are due, or a front of them
    pub part_all : (v w : V) (xs : List Entry) → Takes step v xs w → TakesPart step failed_step v xs w
    part_all v w xs takes = some xs [] (append-nil xs) takes

    pub part_front : (v w : V) (xs rest : List Entry) → Takes step v xs w → TakesPart step failed_step v (xs ++ rest) w
    part_front v w xs rest takes = some xs rest refl takes

    -- it fails at the one behind them
    pub part_failed : (v u w : V) (xs : List Entry) (e : Entry) (rest : List Entry) → Takes step v xs u → failed_step u e w → TakesPart step failed_step v (xs ++ e ∷ rest) w
    part_failed v u w xs e rest takes fails = some_and_failed xs rest e u refl takes fails

    -- more are due
    pub part_longer : (v w : V) (due more : List Entry) → TakesPart step failed_step v due w → TakesPart step failed_step v (due ++ more) w
    part_longer v w due more (some taken rest is takes) = some taken (rest ++ more) (sym (append_assoc taken rest more) ∙ ap (λ es. es ++ more) is) takes
    part_longer v w due more (some_and_failed taken rest e u is takes fails) = some_and_failed taken (rest ++ more) e u (sym (append_assoc taken (e ∷ rest) more) ∙ ap (λ es. es ++ more) is) takes fails

    -- some were taken, and then a part of more
    pub part_then : (v u w : V) (xs ys : List Entry) → Takes step v xs u → TakesPart step failed_step u ys w → TakesPart step failed_step v (xs ++ ys) w
    part_then v u w xs ys first (some taken rest is takes) =
        some (xs ++ taken) rest (append_assoc xs taken rest ∙ ap (λ es. xs ++ es) is) (takes-append v u w xs taken first takes)
    part_then v u w xs ys first (some_and_failed taken rest e t is takes fails) =
        some_and_failed (xs ++ taken) rest e t (append_assoc xs taken (e ∷ rest) ∙ ap (λ es. xs ++ es) is) (takes-append v u t xs taken first takes) fails

    -- whatever they are
    pub handed_some : (v w : V) → TakesSome step v w → Handed step failed_step v w
    handed_some v w so = (so.0, part_all v w so.0 so.1)

    pub handed_same : (v w : V) → w ≡ v → Handed step failed_step v w
    handed_same v w same = handed_some v w (some_same v w same)

    pub handed_then : (v u w : V) → TakesSome step v u → Handed step failed_step u w → Handed step failed_step v w
    handed_then v u w first second = (first.0 ++ second.0, part_then v u w first.0 second.0 first.1 second.1)

    pub handed_fails : (v w : V) (e : Entry) → failed_step v e w → Handed step failed_step v w
    handed_fails v w e fails = (e ∷ [], part_failed v v w [] e [] (takes_nothing v) fails)
