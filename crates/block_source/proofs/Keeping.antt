-- What is kept after a look-up and after a put, by the contracts of the cache.
use Rattle.std.proofs.Common.{◌≡◌, ◌⊎◌, ℕ, zero, suc, ◌+◌, ◌-◌, ◌*◌, ◌<◌, ◌≤◌, Bool, true, false, cond, List, [], ◌∷◌, length, take, drop, refl, sym, ap, subst, ◌∙◌, inl, inr, arith, nat_eq, Contains, Option, Some, None}
use Rattle.std.specs.Prelude.{Vec, vec_items, if◌then◌else◌, is_some, slice_range, IfSome, Ok, Err}
use Rattle.std.proofs.lemmas.List.{drop-drop, drop-take, take-take}
use Rattle.fgb_outside.specs.declared.sources.SourceError.{SourceError}
use Rattle.fgb_outside.specs.declared.sources.SourceError.TheVariants.{Memory}
use Rattle.std.specs.Global.{Global}
use Rattle.std.specs.Set.{remove_key}
use Rattle.std.specs.Option.{option_map_or}
use Rattle.std.specs.Map.{keys_of, lookup, lookup_entry, remove_entry}
use Rattle.std.proofs.lemmas.Map.Made.{is_some-lookup}
use Rattle.lru.specs.LruCache.{LruCache, lru_cache, promoted, put_entries}
use Rattle.std.proofs.lemmas.Bool.{eqb-true}
use Rattle.lru.proofs.CallerLemmas.{Contains-lookup, Contains-lookup_entry, Contains-promoted, Contains-put_entries, IsPut}
use Rattle.fgb_outside.specs.Source.{Source, Keeps}
use Rattle.block_source.specs.Blocks.{block_length}
use Rattle.block_source.specs.Misses.{is_kept, kept_after}
use Rattle.block_source.specs.Cached.{AreBytes, Asks, IsBlock, IsSound, KeepsBlocks, Lands}
use Rattle.block_source.proofs.Visiting.{stops_at_call, stops_at_put, visits_kept, visits_missed}

module _ {V : Type 0} (b : ℕ) where
  keys_without : (es : List (ℕ × V)) → keys_of (remove_entry (nat_eq b) es) ≡ remove_key (nat_eq b) (keys_of es)
  keys_without [] = refl
  keys_without (e ∷ es) = elim (nat_eq b e.0) as (λ (t : Bool). keys_of (cond t es (e ∷ remove_entry (nat_eq b) es)) ≡ cond t (keys_of es) (e.0 ∷ remove_key (nat_eq b) (keys_of es))) [
    | true ↦ refl
    | false ↦ ap (λ (l : List ℕ). e.0 ∷ l) (keys_without es)
  ]

  keys-take : (n : ℕ) (es : List (ℕ × V)) → keys_of (take n es) ≡ take n (keys_of es)
  keys-take zero es = refl
  keys-take (suc n) [] = refl
  keys-take (suc n) (e ∷ es) = ap (λ (l : List ℕ). e.0 ∷ l) (keys-take n es)

  -- an entry that is found has the number
  found_key : (es : List (ℕ × V)) (e : ℕ × V) → lookup_entry (nat_eq b) es ≡ Some e → e.0 ≡ b
  found_key es e h = sym (eqb-true b e.0 (Contains-lookup_entry (nat_eq b) es e h).1)

  entry_none : (es : List (ℕ × V)) → lookup (nat_eq b) es ≡ None → lookup_entry (nat_eq b) es ≡ None
  entry_none [] h = refl
  entry_none (e ∷ es) h = (elim (nat_eq b e.0) as (λ (t : Bool). cond t (Some e.1) (lookup (nat_eq b) es) ≡ None → cond t (Some e) (lookup_entry (nat_eq b) es) ≡ None) [
    | true ↦ λ g. cc
    | false ↦ λ g. entry_none es g
  ]) h

  entry_of : (es : List (ℕ × V)) (v : V) → lookup (nat_eq b) es ≡ Some v → (e : ℕ × V) × (lookup_entry (nat_eq b) es ≡ Some e) × (e.1 ≡ v)
  entry_of [] v h = cc
  entry_of (e ∷ es) v h = (elim (nat_eq b e.0) as (λ (t : Bool). cond t (Some e.1) (lookup (nat_eq b) es) ≡ Some v → (f : ℕ × V) × (cond t (Some e) (lookup_entry (nat_eq b) es) ≡ Some f) × (f.1 ≡ v)) [
    | true ↦ λ g. (e, refl, cc)
    | false ↦ λ g. entry_of es v g
  ]) h

  entry_some : (es : List (ℕ × V)) (v : V) → lookup (nat_eq b) es ≡ Some v → lookup_entry (nat_eq b) es ≡ Some (b, v)
  entry_some es v h =
      let r = entry_of es v h in
      r.1 ∙ ap Some (ap (λ (k : ℕ). (k, r.0.1)) (found_key es r.0 r.1) ∙ ap (λ (w : V). (b, w)) r.2)

  pub missed : (es : List (ℕ × V)) → lookup (nat_eq b) es ≡ None → is_kept b (keys_of es) ≡ false
  missed es h = sym (is_some-lookup (nat_eq b) es) ∙ ap is_some h

  pub found : (es : List (ℕ × V)) (v : V) → lookup (nat_eq b) es ≡ Some v → is_kept b (keys_of es) ≡ true
  found es v h = sym (is_some-lookup (nat_eq b) es) ∙ ap is_some h

  pub promoted_missed : (es : List (ℕ × V)) → lookup (nat_eq b) es ≡ None → promoted (nat_eq b) es ≡ es
  promoted_missed es h = ap (λ (o : Option (ℕ × V)). option_map_or (λ (e : ℕ × V). e ∷ remove_entry (nat_eq b) es) o es) (entry_none es h)

  pub promoted_found : (es : List (ℕ × V)) (v : V) (n : ℕ) → lookup (nat_eq b) es ≡ Some v → keys_of (promoted (nat_eq b) es) ≡ kept_after (keys_of es) b n
  promoted_found es v n h =
      ap (λ (o : Option (ℕ × V)). keys_of (option_map_or (λ (e : ℕ × V). e ∷ remove_entry (nat_eq b) es) o es)) (entry_some es v h)
      ∙ ap (λ (l : List ℕ). b ∷ l) (keys_without es)
      ∙ ap (λ (t : Bool). if t then b ∷ remove_key (nat_eq b) (keys_of es) else take n (b ∷ keys_of es)) (sym (found es v h))

  pub put_missed : (es : List (ℕ × V)) (v : V) (n : ℕ) → 0 < n → lookup (nat_eq b) es ≡ None → keys_of (put_entries nat_eq (lru_cache es n) b v) ≡ kept_after (keys_of es) b n
  put_missed es v zero some h = absurd (omega arith)
  put_missed es v (suc n) some h =
      ap (λ (o : Option (ℕ × V)). keys_of (option_map_or (λ (e : ℕ × V). (e.0, v) ∷ remove_entry (nat_eq b) es) o ((b, v) ∷ take (suc n - 1) es))) (entry_none es h)
      ∙ ap (λ (l : List ℕ). b ∷ l) (keys-take (suc n - 1) es)
      ∙ ap (λ (m : ℕ). b ∷ take m (keys_of es)) (omega arith)
      ∙ ap (λ (t : Bool). if t then b ∷ remove_key (nat_eq b) (keys_of es) else take (suc n) (b ∷ keys_of es)) (sym (missed es h))

-- the blocks behind the numbers

block_later : (old new : Source) (b : ℕ) (bytes : List ℕ) → Keeps old new → IsBlock old b bytes → IsBlock new b bytes
block_later old new b bytes keeps is = record {
  inside = rw keeps.size is.inside;
  len = rw keeps.size is.len;
  told = λ image told. rw keeps.size (is.told image (sym keeps.image ∙ told));
}

pub keeps_later : (old new : Source) (es : List (ℕ × Vec ℕ Global)) → Keeps old new → KeepsBlocks old es → KeepsBlocks new es
keeps_later old new es keeps holds e in_es = block_later old new e.0 (vec_items e.1) keeps (holds e in_es)

sound_promoted : (s : Source) (b n : ℕ) (es : List (ℕ × Vec ℕ Global)) → IsSound s (lru_cache es n) → IsSound s (lru_cache (promoted (nat_eq b) es) n)
sound_promoted s b n es is = record { some = is.some; blocks = λ e in_es. is.blocks e (Contains-promoted (nat_eq b) es e in_es) }

pub sound_later : (old new : Source) (cache : LruCache ℕ (Vec ℕ Global)) → Keeps old new → IsSound old cache → IsSound new cache
sound_later old new cache keeps is = record { some = is.some; blocks = λ e in_es. block_later old new e.0 (vec_items e.1) keeps (is.blocks e in_es) }

sound_put : (s : Source) (b : ℕ) (v : Vec ℕ Global) (cache : LruCache ℕ (Vec ℕ Global)) → IsBlock s b (vec_items v) → IsSound s cache → IsSound s (lru_cache (put_entries nat_eq cache b v) cache.cap)
sound_put s b v cache is holds = record { some = holds.some; blocks = λ e in_es. put e (Contains-put_entries nat_eq cache b v e in_es) }
  where
    same_key : (e : ℕ × Vec ℕ Global) → (e.0 ≡ b) ⊎ ((w : Vec ℕ Global) × Contains cache.entries (e.0, w) × (nat_eq b e.0 ≡ true)) → e.0 ≡ b
    same_key e (inl same) = same
    same_key e (inr was) = sym (eqb-true b e.0 was.2)

    put : (e : ℕ × Vec ℕ Global) → Contains cache.entries e ⊎ IsPut nat_eq cache b v e → IsBlock s e.0 (vec_items e.1)
    put e (inl was) = holds.blocks e was
    put e (inr new) = subst (λ (w : Vec ℕ Global). IsBlock s e.0 (vec_items w)) (sym new.0) (subst (λ (k : ℕ). IsBlock s k (vec_items v)) (sym (same_key e new.1)) is)

found_block : (s : Source) (b : ℕ) (v : Vec ℕ Global) (cache : LruCache ℕ (Vec ℕ Global)) → lookup (nat_eq b) cache.entries ≡ Some v → IsSound s cache → IsBlock s b (vec_items v)
found_block s b v cache h holds =
    let at = Contains-lookup (nat_eq b) cache.entries v h in
    subst (λ (k : ℕ). IsBlock s k (vec_items v)) (sym (eqb-true b at.0 at.2)) (holds.blocks (at.0, v) at.1)

-- the bytes of a part of a block

-- it has the bytes that are looked for
pub room_kept : (s : Source) (b from len : ℕ) (cache : LruCache ℕ (Vec ℕ Global)) → IsSound s cache → 4096 * b ≤ from → from + len ≤ 4096 * b + block_length s.size b
    → IfSome (lookup (nat_eq b) cache.entries) (λ (v : Vec ℕ Global). from - 4096 * b + len ≤ length (vec_items v))
room_kept s b from len cache is low high = room (lookup (nat_eq b) cache.entries) refl
  where
    room : (o : Option (Vec ℕ Global)) → lookup (nat_eq b) cache.entries ≡ o → IfSome o (λ (v : Vec ℕ Global). from - 4096 * b + len ≤ length (vec_items v))
    room None h = tt
    room (Some v) h = omega (arith, (found_block s b v cache h is).len)

part_of_slice : (l : List ℕ) (a n o m : ℕ) → o + m ≤ n → slice_range (slice_range l a (a + n)) o (o + m) ≡ slice_range l (a + o) (a + o + m)
part_of_slice l a n o m fits =
    let e : a + n - a ≡ o + (n - o) = omega arith in
    let f : o + m - o ≡ m = omega arith in
    let g : a + o + m - (a + o) ≡ m = omega arith in
    ap (λ (k : ℕ). take (o + m - o) (drop o (take k (drop a l)))) e
    ∙ ap (take (o + m - o)) (drop-take o (n - o) (drop a l))
    ∙ ap (λ (k : ℕ). take k (take (n - o) (drop o (drop a l)))) f
    ∙ take-take m (n - o) (drop o (drop a l)) (omega arith)
    ∙ ap (take m) (drop-drop o a l)
    ∙ ap (λ (k : ℕ). take k (drop (a + o) l)) (sym g)

pub part_told : (s : Source) (b from : ℕ) (bytes part : List ℕ) → IsBlock s b bytes → 4096 * b ≤ from → from + length part ≤ 4096 * b + block_length s.size b
    → part ≡ slice_range bytes (from - 4096 * b) (from - 4096 * b + length part) → AreBytes s from part
part_told s b from bytes part is low high e image told =
    let o : 4096 * b + (from - 4096 * b) ≡ from = omega arith in
    e
    ∙ ap (λ (l : List ℕ). slice_range l (from - 4096 * b) (from - 4096 * b + length part)) (is.told image told)
    ∙ part_of_slice image (4096 * b) (block_length s.size b) (from - 4096 * b) (length part) (omega arith)
    ∙ ap (λ (k : ℕ). slice_range image k (k + length part)) o

pub kept_told : (s : Source) (b from : ℕ) (cache : LruCache ℕ (Vec ℕ Global)) (part : List ℕ) → IsSound s cache → is_some (lookup (nat_eq b) cache.entries) ≡ true
    → 4096 * b ≤ from → from + length part ≤ 4096 * b + block_length s.size b
    → IfSome (lookup (nat_eq b) cache.entries) (λ (v : Vec ℕ Global). part ≡ slice_range (vec_items v) (from - 4096 * b) (from - 4096 * b + length part))
    → AreBytes s from part
kept_told s b from cache part is found low high copied = told (lookup (nat_eq b) cache.entries) refl found copied
  where
    told : (o : Option (Vec ℕ Global)) → lookup (nat_eq b) cache.entries ≡ o → is_some o ≡ true
        → IfSome o (λ (v : Vec ℕ Global). part ≡ slice_range (vec_items v) (from - 4096 * b) (from - 4096 * b + length part))
        → AreBytes s from part
    told None h f c = cc
    told (Some v) h f c = part_told s b from (vec_items v) part (found_block s b v cache h is) low high c

-- the same of a block that was read
pub read_told : (old new : Source) (b from : ℕ) (bytes shown part : List ℕ) → Keeps old new → IsBlock new b bytes → shown ≡ bytes → 4096 * b ≤ from → from + length part ≤ 4096 * b + block_length old.size b
    → part ≡ slice_range shown (from - 4096 * b) (from - 4096 * b + length part) → AreBytes old from part
read_told old new b from bytes shown part keeps is same low high e image told =
    part_told new b from bytes part is low (rw keeps.size high) (e ∙ ap (λ (l : List ℕ). slice_range l (from - 4096 * b) (from - 4096 * b + length part)) same) image (keeps.image ∙ told)

-- what a visit does

none_of : {V : Type 0} (o : Option V) → is_some o ≡ false → o ≡ None
none_of None h = refl
none_of (Some v) h = cc

pub lands_kept : {T : Type 0} (s : Source) (b : ℕ) (before after : LruCache ℕ (Vec ℕ Global)) (value : T) → IsSound s before → is_some (lookup (nat_eq b) before.entries) ≡ true
    → after ≡ lru_cache (promoted (nat_eq b) before.entries) before.cap → Lands s s before after (b ∷ []) (Ok value)
lands_kept s b before after value is found e = subst (λ (c : LruCache ℕ (Vec ℕ Global)). Lands s s before c (b ∷ []) (Ok value)) (sym e) (record {
  most = refl;
  sound = sound_promoted s b before.cap before.entries is;
  ok = visits_kept before.cap s (keys_of before.entries) (keys_of (promoted (nat_eq b) before.entries)) b (sym (is_some-lookup (nat_eq b) before.entries) ∙ found) (keys (lookup (nat_eq b) before.entries) refl found);
  err = tt;
  failed = λ failed. cc;
})
  where
    keys : (o : Option (Vec ℕ Global)) → lookup (nat_eq b) before.entries ≡ o → is_some o ≡ true → keys_of (promoted (nat_eq b) before.entries) ≡ kept_after (keys_of before.entries) b before.cap
    keys None h f = cc
    keys (Some v) h f = promoted_found b before.entries v before.cap h

-- an error at the call for the block
pub lands_at_call : {T : Type 0} (old new : Source) (b : ℕ) (before after : LruCache ℕ (Vec ℕ Global)) (error : SourceError) → IsSound old before → is_some (lookup (nat_eq b) before.entries) ≡ false
    → after ≡ lru_cache (promoted (nat_eq b) before.entries) before.cap → Asks {T = T} old new b (Err error) → Lands {T = T} old new before after (b ∷ []) (Err error)
lands_at_call {T = T} old new b before after error is missing e asks =
    let none = none_of (lookup (nat_eq b) before.entries) missing in
    subst (λ (c : LruCache ℕ (Vec ℕ Global)). Lands {T = T} old new before c (b ∷ []) (Err error)) (sym e) (record {
      most = refl;
      sound = sound_later old new (lru_cache (promoted (nat_eq b) before.entries) before.cap) asks.keeps (sound_promoted old b before.cap before.entries is);
      ok = tt;
      err = stops_at_call before.cap old new (keys_of before.entries) (keys_of (promoted (nat_eq b) before.entries)) b (Err error) (missed b before.entries none) (ap keys_of (promoted_missed b before.entries none)) asks;
      failed = asks.failed;
    })

-- no memory to put it
pub lands_at_put : {T U : Type 0} (old new : Source) (b : ℕ) (before mid after : LruCache ℕ (Vec ℕ Global)) (value : U) → IsSound old before → is_some (lookup (nat_eq b) before.entries) ≡ false
    → mid ≡ lru_cache (promoted (nat_eq b) before.entries) before.cap → after ≡ mid → Asks old new b (Ok value) → Lands {T = T} old new before after (b ∷ []) (Err Memory)
lands_at_put {T = T} old new b before mid after value is missing e same asks =
    let none = none_of (lookup (nat_eq b) before.entries) missing in
    subst (λ (c : LruCache ℕ (Vec ℕ Global)). Lands {T = T} old new before c (b ∷ []) (Err Memory)) (sym (same ∙ e)) (record {
      most = refl;
      sound = sound_later old new (lru_cache (promoted (nat_eq b) before.entries) before.cap) asks.keeps (sound_promoted old b before.cap before.entries is);
      ok = tt;
      err = stops_at_put before.cap old new (keys_of before.entries) (keys_of (promoted (nat_eq b) before.entries)) b value (Err Memory) (missed b before.entries none) (ap keys_of (promoted_missed b before.entries none)) asks;
      failed = λ failed. cc;
    })

pub lands_missed : {T : Type 0} (old new : Source) (b : ℕ) (before mid after : LruCache ℕ (Vec ℕ Global)) (bytes : Vec ℕ Global) (value : T) → IsSound old before → is_some (lookup (nat_eq b) before.entries) ≡ false
    → mid ≡ lru_cache (promoted (nat_eq b) before.entries) before.cap → after ≡ lru_cache (put_entries nat_eq mid b bytes) mid.cap
    → IsBlock new b (vec_items bytes) → Asks old new b (Ok value) → Lands old new before after (b ∷ []) (Ok value)
lands_missed old new b before mid after bytes value is missing e put block asks =
    let none = none_of (lookup (nat_eq b) before.entries) missing in
    let same : mid ≡ before = e ∙ ap (λ (es : List (ℕ × Vec ℕ Global)). lru_cache es before.cap) (promoted_missed b before.entries none) in
    subst (λ (c : LruCache ℕ (Vec ℕ Global)). Lands old new before c (b ∷ []) (Ok value)) (sym (put ∙ ap (λ (m : LruCache ℕ (Vec ℕ Global)). lru_cache (put_entries nat_eq m b bytes) m.cap) same)) (record {
      most = refl;
      sound = sound_put new b bytes before block (sound_later old new before asks.keeps is);
      ok = visits_missed before.cap old new (keys_of before.entries) (keys_of (put_entries nat_eq before b bytes)) b value (missed b before.entries none) (put_missed b before.entries bytes before.cap is.some none) asks;
      err = tt;
      failed = λ failed. cc;
    })
