-- The walk from key to key: what is broken behind a whole pair is what is broken in the bytes behind it.
use Rattle.std.proofs.Common.{◌≡◌, ◌⊎◌, inl, inr, ⊎_elim, ℕ, ◌+◌, ◌<◌, ◌≤◌, true, List, length, drop, refl, sym, ap, subst, ◌∙◌, zero-add, arith}
use Rattle.std.proofs.lemmas.List.{length-drop, drop-drop}
use Rattle.flat_layout.specs.declared.Rule.{Rule}
use Rattle.flat_layout.specs.Promises.{IsClean}
use Rattle.fgb_schema.specs.Properties.{is_pair, pair_size, IsKeyPlace, front, behind, BreaksPair, BreaksProperties}
use Rattle.fgb_feature.proofs.Pairs.{further, nearer, unbroken, size_most}

module _ (kinds : List ℕ) where
  -- a key place of the bytes from a key place on
  key_further : (b : List ℕ) (n : ℕ) → IsKeyPlace kinds b n → (q : ℕ) → IsKeyPlace kinds (drop n b) q → IsKeyPlace kinds b (n + q)
  key_further b n here q front = subst (IsKeyPlace kinds b) (omega arith) here
  key_further b n here q (behind {at} place is) =
      let whole : is_pair kinds (drop (n + at) b) ≡ true = subst (λ rest. is_pair kinds rest ≡ true) (drop-drop at n b) is in
      let sizes : pair_size kinds (drop at (drop n b)) ≡ pair_size kinds (drop (n + at) b) = ap (pair_size kinds) (drop-drop at n b) in
      subst (IsKeyPlace kinds b) (omega (arith, sizes)) (behind (key_further b n here at place) whole)

  -- a key place is at the front, or one of the bytes behind the first pair, which is whole
  record IsBehind (b : List ℕ) (q : ℕ) : Type 0 where
    pub whole : is_pair kinds b ≡ true
    pub rest : ℕ
    pub place : q ≡ pair_size kinds b + rest
    pub keyed : IsKeyPlace kinds (drop (pair_size kinds b) b) rest

  next_behind : (b : List ℕ) (at : ℕ) → is_pair kinds (drop at b) ≡ true → (at ≡ 0) ⊎ IsBehind b at → IsBehind b (at + pair_size kinds (drop at b))
  next_behind b at is (inl first) =
      let here : drop at b ≡ b = ap (λ n. drop n b) first in
      let sizes : pair_size kinds (drop at b) ≡ pair_size kinds b = ap (pair_size kinds) here in
      record { whole = subst (λ rest. is_pair kinds rest ≡ true) here is; rest = 0; place = omega (arith, first, sizes); keyed = front }
  next_behind b at is (inr before) =
      let s = pair_size kinds b in
      let here : drop at b ≡ drop before.rest (drop s b) = ap (λ n. drop n b) before.place ∙ sym (drop-drop before.rest s b) in
      let sizes : pair_size kinds (drop at b) ≡ pair_size kinds (drop before.rest (drop s b)) = ap (pair_size kinds) here in
      record {
        whole = before.whole;
        rest = before.rest + pair_size kinds (drop before.rest (drop s b));
        place = omega (arith, before.place, sizes);
        keyed = behind before.keyed (subst (λ rest. is_pair kinds rest ≡ true) here is);
      }

  first_or_behind : (b : List ℕ) (q : ℕ) → IsKeyPlace kinds b q → (q ≡ 0) ⊎ IsBehind b q
  first_or_behind b q front = inl refl
  first_or_behind b q (behind {at} place is) = inr (next_behind b at is (first_or_behind b at place))

  -- what is broken behind a key place, in the bytes from there on
  broken_further : (b : List ℕ) (n : ℕ) → IsKeyPlace kinds b n → (q : ℕ) (r : Rule) → BreaksProperties kinds (drop n b) q r → BreaksProperties kinds b (n + q) r
  broken_further b n here q r broken = record {
    keyed = key_further b n here q broken.keyed;
    early = omega (arith, broken.early, length-drop n b);
    broken = further kinds b n q r broken.broken;
  }

  -- the key at the front
  pub broken_front : (b : List ℕ) (r : Rule) → 0 < length b → BreaksPair kinds b 0 r → BreaksProperties kinds b 0 r
  broken_front b r some broken = record { keyed = front; early = some; broken = broken }

  -- what a key place breaks whose pair is broken
  pub broken_at : (b : List ℕ) (n : ℕ) (r : Rule) → IsKeyPlace kinds b n → n < length b → BreaksPair kinds (drop n b) 0 r → BreaksProperties kinds b n r
  broken_at b n r here early broken =
      subst (λ q. BreaksProperties kinds b q r) (omega arith)
      (broken_further b n here 0 r (broken_front (drop n b) r (omega (arith, early, length-drop n b)) broken))

  -- nothing is broken where there are no bytes
  clean_end : (b : List ℕ) → length b ≡ 0 → IsClean (BreaksProperties kinds b)
  clean_end b none q r broken = omega (arith, none, broken.early)

  -- a key stands behind the first pair
  second : (b : List ℕ) → is_pair kinds b ≡ true → IsKeyPlace kinds b (pair_size kinds b)
  second b is = subst (IsKeyPlace kinds b) (zero-add (pair_size kinds b)) (behind front is)

  -- behind the first pair as in the whole, and the other way round
  pub clean_behind : (b : List ℕ) → is_pair kinds b ≡ true → IsClean (BreaksProperties kinds b) → IsClean (BreaksProperties kinds (drop (pair_size kinds b) b))
  clean_behind b is clean q r broken = clean (pair_size kinds b + q) r (broken_further b (pair_size kinds b) (second b is) q r broken)

  clean_with : (b : List ℕ) → is_pair kinds b ≡ true → IsClean (BreaksProperties kinds (drop (pair_size kinds b) b)) → IsClean (BreaksProperties kinds b)
  clean_with b is clean q r broken = ⊎_elim
      (λ first. unbroken kinds b r is (subst (λ n. BreaksPair kinds b n r) first broken.broken))
      (λ next. clean next.rest r (record {
        keyed = next.keyed;
        early = omega (arith, broken.early, next.place, length-drop (pair_size kinds b) b);
        broken = nearer kinds b (pair_size kinds b) next.rest r (subst (λ n. BreaksPair kinds b n r) next.place broken.broken);
      }))
      (first_or_behind b q broken.keyed)

  -- the walk has come to a key place: what it has passed breaks nothing
  pub record Walked (b : List ℕ) (at : ℕ) : Type 0 where
    pub within : at ≤ length b
    pub keyed : IsKeyPlace kinds b at
    pub clean : IsClean (BreaksProperties kinds (drop at b)) → IsClean (BreaksProperties kinds b)

  pub walked_none : (b : List ℕ) → Walked b 0
  walked_none b = record { within = omega arith; keyed = front; clean = λ clean. clean }

  pub walked_more : (b : List ℕ) (at size : ℕ) → Walked b at → is_pair kinds (drop at b) ≡ true → size ≡ pair_size kinds (drop at b) → Walked b (at + size)
  walked_more b at size walked is sized = record {
    within = omega (arith, walked.within, sized, size_most kinds (drop at b) is, length-drop at b);
    keyed = subst (λ n. IsKeyPlace kinds b (at + n)) (sym sized) (behind walked.keyed is);
    clean = λ clean. walked.clean (clean_with (drop at b) is (subst (λ rest. IsClean (BreaksProperties kinds rest)) (ap (λ n. drop (at + n) b) sized ∙ sym (drop-drop (pair_size kinds (drop at b)) at b)) clean));
  }

  pub walked_all : (b : List ℕ) (at : ℕ) → Walked b at → length b ≤ at → IsClean (BreaksProperties kinds b)
  walked_all b at walked whole = walked.clean (clean_end (drop at b) (omega (arith, whole, length-drop at b)))
