-- How what several visits did follows from what each did.
use Rattle.std.proofs.Common.{◌≡◌, ℕ, ◌*◌, Bool, true, false, List, [], ◌∷◌, ◌++◌, length, refl, sym, ap, subst, ◌∙◌, inl, inr, append_assoc}
use Rattle.std.specs.Prelude.{Result, Ok, IsErrOf, OnOk, Option, if◌then◌else◌}
use Rattle.std.proofs.lemmas.List.{map-append}
use Rattle.fgb_outside.specs.declared.sources.SourceError.{SourceError}
use Rattle.fgb_outside.specs.declared.sources.SourceError.TheVariants.{Failed, Memory}
use Rattle.fgb_outside.specs.Source.{Source, ReadsAt, added}
use Rattle.fgb_outside.proofs.Shown.{added-added, added-none, keeps_same, keeps_trans}
use Rattle.block_source.specs.Blocks.{block_length, block_pair, block_pairs, visits}
use Rattle.block_source.specs.Misses.{is_kept, kept_after, kept_from, misses, misses_from}
use Rattle.block_source.specs.Cached.{Answered, Asks, Cached, Fetches, Stops, Visits, all_visits}

-- what of several visits misses

pub misses_from-append : (kept front rest : List ℕ) (n : ℕ) → misses_from kept (front ++ rest) n ≡ misses_from kept front n ++ misses_from (kept_from kept front n) rest n
misses_from-append kept [] rest n = refl
misses_from-append kept (b ∷ front) rest n =
    let first : List ℕ = if is_kept b kept then [] else b ∷ [] in
    ap (λ (l : List ℕ). first ++ l) (misses_from-append (kept_after kept b n) front rest n)
    ∙ sym (append_assoc first (misses_from (kept_after kept b n) front n) (misses_from (kept_from (kept_after kept b n) front n) rest n))

pub kept_from-append : (kept front rest : List ℕ) (n : ℕ) → kept_from kept (front ++ rest) n ≡ kept_from (kept_from kept front n) rest n
kept_from-append kept [] rest n = refl
kept_from-append kept (b ∷ front) rest n = kept_from-append (kept_after kept b n) front rest n

miss_of_one : (kept : List ℕ) (b n : ℕ) → is_kept b kept ≡ false → misses_from kept (b ∷ []) n ≡ b ∷ []
miss_of_one kept b n e = ap (λ (t : Bool). (if t then [] else b ∷ []) ++ []) e

hit_of_one : (kept : List ℕ) (b n : ℕ) → is_kept b kept ≡ true → misses_from kept (b ∷ []) n ≡ []
hit_of_one kept b n e = ap (λ (t : Bool). (if t then [] else b ∷ []) ++ []) e

-- one call asks for a block

asks_pair : {T : Type 0} (old new : Source) (b at len : ℕ) (bytes : List ℕ) (result : Result T SourceError) → at ≡ 4096 * b → length bytes ≡ block_length old.size b → (at, length bytes) ≡ block_pair old.size b
asks_pair old new b at len bytes result e l = ap (λ (a : ℕ). (a, length bytes)) e ∙ ap (λ (n : ℕ). (4096 * b, n)) l

pub asks_read : {T : Type 0} (old new : Source) (b : ℕ) (bytes : List ℕ) (result : Result T SourceError) → length bytes ≡ block_length old.size b → ReadsAt old new (4096 * b) bytes result → Asks old new b result
asks_read old new b bytes result len r =
    let same : added old.asked ((4096 * b, length bytes) ∷ []) ≡ added old.asked (block_pairs old.size (b ∷ [])) = ap (λ (n : ℕ). added old.asked ((4096 * b, n) ∷ [])) len in
    record {
      keeps = r.keeps;
      fetched = b ∷ [];
      fetches = inl refl;
      asked = subst (λ (l : Option (List (ℕ × ℕ))). OnOk result (new.asked ≡ l)) same r.asked;
      asked_failed = λ is. r.asked_failed is ∙ same;
      asked_told = λ is. r.asked_told is ∙ same;
      failed = r.failed;
    }

-- one visit

pub visits_kept : (n : ℕ) (s : Source) (before after : List ℕ) (b : ℕ) → is_kept b before ≡ true → after ≡ kept_after before b n → Visits n s s before after (b ∷ [])
visits_kept n s before after b is e = record {
  keeps = keeps_same s;
  asked = sym (added-none s.asked) ∙ ap (λ (l : List ℕ). added s.asked (block_pairs s.size l)) (sym (hit_of_one before b n is));
  kept = e;
}

pub visits_missed : {T : Type 0} (n : ℕ) (old new : Source) (before after : List ℕ) (b : ℕ) (value : T) → is_kept b before ≡ false → after ≡ kept_after before b n → Asks old new b (Ok value) → Visits n old new before after (b ∷ [])
visits_missed n old new before after b value is e asks = record {
  keeps = asks.keeps;
  asked = asks.asked ∙ ap (λ (l : List ℕ). added old.asked (block_pairs old.size l)) (sym (miss_of_one before b n is));
  kept = e;
}

-- an error at the call
pub stops_at_call : {T : Type 0} (n : ℕ) (old new : Source) (before after : List ℕ) (b : ℕ) (result : Result T SourceError) → is_kept b before ≡ false → after ≡ before → Asks old new b result → Stops n old new before after (b ∷ []) result
stops_at_call n old new before after b result is e asks = record {
  keeps = asks.keeps;
  front = [];
  block = b;
  rest = [];
  parts = refl;
  kept = e;
  missed = ap (is_kept b) e ∙ is;
  fetched = asks.fetched;
  fetches = elim asks.fetches [ inl f ↦ inl (f ∙ sym (miss_of_one before b n is)) | inr f ↦ inr f ];
  told = asks.asked_told;
  failed = λ failed. elim asks.fetches [ inl f ↦ asks.asked_failed failed ∙ ap (λ (l : List ℕ). added old.asked (block_pairs old.size l)) (sym f) | inr f ↦ absurd (not_both result f.1 failed) ];
}
  where
    not_both : {T : Type 0} (result : Result T SourceError) → IsErrOf result Memory → IsErrOf result Failed → ⊥
    not_both result m f = cc

-- no memory for a block that was read
pub stops_at_put : {T U : Type 0} (n : ℕ) (old new : Source) (before after : List ℕ) (b : ℕ) (value : T) (result : Result U SourceError) → is_kept b before ≡ false → after ≡ before → Asks old new b (Ok value) → Stops n old new before after (b ∷ []) result
stops_at_put n old new before after b value result is e asks = record {
  keeps = asks.keeps;
  front = [];
  block = b;
  rest = [];
  parts = refl;
  kept = e;
  missed = ap (is_kept b) e ∙ is;
  fetched = b ∷ [];
  fetches = inl (sym (miss_of_one before b n is));
  told = λ _. asks.asked;
  failed = λ _. asks.asked;
}

-- several visits

pub visits_nothing : (n : ℕ) (s : Source) (kept : List ℕ) → Visits n s s kept kept []
visits_nothing n s kept = record { keeps = keeps_same s; asked = sym (added-none s.asked); kept = refl }

asked_later : (told : Option (List (ℕ × ℕ))) (size later : ℕ) (xs ys : List ℕ) → later ≡ size → added (added told (block_pairs size xs)) (block_pairs later ys) ≡ added told (block_pairs size (xs ++ ys))
asked_later told size later xs ys e =
    ap (λ (s : ℕ). added (added told (block_pairs size xs)) (block_pairs s ys)) e
    ∙ added-added told (block_pairs size xs) (block_pairs size ys)
    ∙ ap (added told) (sym (map-append (block_pair size) xs ys))

pub visits_visits : (n : ℕ) (a b c : Source) (k l m xs ys : List ℕ) → Visits n a b k l xs → Visits n b c l m ys → Visits n a c k m (xs ++ ys)
visits_visits n a b c k l m xs ys p q = record {
  keeps = keeps_trans p.keeps q.keeps;
  asked =
      q.asked ∙ ap (λ (t : Option (List (ℕ × ℕ))). added t (block_pairs b.size (misses_from l ys n))) p.asked
      ∙ asked_later a.asked a.size b.size (misses_from k xs n) (misses_from l ys n) p.keeps.size
      ∙ ap (λ (z : List ℕ). added a.asked (block_pairs a.size (misses_from k xs n ++ misses_from z ys n))) p.kept
      ∙ ap (λ (z : List ℕ). added a.asked (block_pairs a.size z)) (sym (misses_from-append k xs ys n));
  kept = q.kept ∙ ap (λ (z : List ℕ). kept_from z ys n) p.kept ∙ sym (kept_from-append k xs ys n);
}

pub visits_stops : {T : Type 0} (n : ℕ) (a b c : Source) (k l m xs ys : List ℕ) (result : Result T SourceError) → Visits n a b k l xs → Stops n b c l m ys result → Stops n a c k m (xs ++ ys) result
visits_stops n a b c k l m xs ys result p q = record {
  keeps = keeps_trans p.keeps q.keeps;
  front = xs ++ q.front;
  block = q.block;
  rest = q.rest;
  parts = append_assoc xs q.front (q.block ∷ q.rest) ∙ ap (λ (z : List ℕ). xs ++ z) q.parts;
  kept = q.kept ∙ ap (λ (z : List ℕ). kept_from z q.front n) p.kept ∙ sym (kept_from-append k xs q.front n);
  missed = q.missed;
  fetched = misses_from k xs n ++ q.fetched;
  fetches = elim q.fetches [
    | inl f ↦ inl (ap (λ (z : List ℕ). misses_from k xs n ++ z) f ∙ more (q.front ++ q.block ∷ []) ∙ ap (λ (z : List ℕ). misses_from k z n) (sym (append_assoc xs q.front (q.block ∷ []))))
    | inr f ↦ inr (ap (λ (z : List ℕ). misses_from k xs n ++ z) f.0 ∙ more q.front, f.1)
  ];
  told = λ is. q.told is ∙ later;
  failed = λ is. q.failed is ∙ later;
}
  where
    more : (zs : List ℕ) → misses_from k xs n ++ misses_from l zs n ≡ misses_from k (xs ++ zs) n
    more zs = ap (λ (z : List ℕ). misses_from k xs n ++ misses_from z zs n) p.kept ∙ sym (misses_from-append k xs zs n)

    later : added b.asked (block_pairs b.size q.fetched) ≡ added a.asked (block_pairs a.size (misses_from k xs n ++ q.fetched))
    later = ap (λ (t : Option (List (ℕ × ℕ))). added t (block_pairs b.size q.fetched)) p.asked ∙ asked_later a.asked a.size b.size (misses_from k xs n) q.fetched p.keeps.size

pub stops_longer : {T : Type 0} (n : ℕ) (a b : Source) (k l xs ys : List ℕ) (result : Result T SourceError) → Stops n a b k l xs result → Stops n a b k l (xs ++ ys) result
stops_longer n a b k l xs ys result p = record {
  keeps = p.keeps;
  front = p.front;
  block = p.block;
  rest = p.rest ++ ys;
  parts = sym (append_assoc p.front (p.block ∷ p.rest) ys) ∙ ap (λ (z : List ℕ). z ++ ys) p.parts;
  kept = p.kept;
  missed = p.missed;
  fetched = p.fetched;
  fetches = p.fetches;
  told = p.told;
  failed = p.failed;
}

-- several calls

pub answered_visits : (old new : Cached) (calls : List (ℕ × ℕ)) → Answered old calls new → Fetches old new (all_visits calls)
answered_visits old new [] is = subst (λ (c : Cached). Fetches old c []) (sym is) (visits_nothing old.most old.inner old.kept, refl)
answered_visits old new (call ∷ calls) is =
    let later = answered_visits is.0 new calls is.2 in
    let most : is.0.most ≡ old.most = is.1.1 in
    let rest : Visits old.most is.0.inner new.inner is.0.kept new.kept (all_visits calls) = subst (λ (n : ℕ). Visits n is.0.inner new.inner is.0.kept new.kept (all_visits calls)) most later.0 in
    (visits_visits old.most old.inner is.0.inner new.inner old.kept is.0.kept new.kept (visits call.0 call.1) (all_visits calls) is.1.0 rest, later.1 ∙ most)

pub answered_misses : (old new : Cached) (calls : List (ℕ × ℕ)) → old.kept ≡ [] → Answered old calls new → new.inner.asked ≡ added old.inner.asked (block_pairs old.inner.size (misses (all_visits calls) old.most))
answered_misses old new calls none is =
    let all = answered_visits old new calls is in
    all.0.asked ∙ ap (λ (k : List ℕ). added old.inner.asked (block_pairs old.inner.size (misses_from k (all_visits calls) old.most))) none
