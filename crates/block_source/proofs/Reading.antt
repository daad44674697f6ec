-- A read, block by block.
use Rattle.std.proofs.Common.{◌≡◌, ℕ, ◌+◌, ◌-◌, ◌*◌, ◌/◌, ◌<◌, ◌≤◌, min, max, List, [], ◌∷◌, ◌++◌, length, take, drop, refl, sym, ap, subst, ◌∙◌, arith}
use Rattle.std.specs.Prelude.{Ok, Err, Vec, slice_range}
use Rattle.std.specs.Global.{Global}
use Rattle.std.specs.List.{range_with_len}
use Rattle.std.specs.Map.{keys_of}
use Rattle.std.proofs.Math.Seq.{take-add}
use Rattle.std.proofs.lemmas.List.{drop-drop, length-drop, length-take, take_all}
use Rattle.lru.specs.LruCache.{LruCache}
use Rattle.fgb_outside.specs.declared.sources.SourceError.{SourceError}
use Rattle.fgb_outside.specs.Source.{Source, IfTold}
use Rattle.fgb_outside.proofs.Asking.{range_with_len-append}
use Rattle.fgb_outside.proofs.Shown.{rose_since}
use Rattle.block_source.specs.Blocks.{block_length, visits}
use Rattle.block_source.specs.Cached.{AreBytes, IsSound, Lands, Stops, Visits}
use Rattle.block_source.proofs.Visiting.{stops_longer, visits_nothing, visits_stops, visits_visits}
use Rattle.block_source.proofs.Covering.{visits_until}

-- the place up to which the blocks in front of this one were read
abbrev pub reached : ℕ → ℕ → ℕ → ℕ
reached at end b = max at (min end (4096 * b))

-- the blocks from the range's first on and in front of this one were visited
pub record ReadTo (old new : Source) (before after : LruCache ℕ (Vec ℕ Global)) (at end : ℕ) (into : List ℕ) (b : ℕ) : Type 0 where
  pub first : at / 4096 ≤ b
  pub most : after.cap ≡ before.cap
  pub sound : IsSound new after
  pub visited : Visits before.cap old new (keys_of before.entries) (keys_of after.entries) (range_with_len (at / 4096) (b - at / 4096))
  pub bytes : IfTold old (λ image. take (reached at end b - at) into ≡ slice_range image at (reached at end b))

slice_join : (l : List ℕ) (a b c : ℕ) → a ≤ b → b ≤ c → slice_range l a b ++ slice_range l b c ≡ slice_range l a c
slice_join l a b c ab bc =
    let e : a + (b - a) ≡ b = omega arith in
    let f : (b - a) + (c - b) ≡ c - a = omega arith in
    ap (λ (x : List ℕ). take (b - a) (drop a l) ++ take (c - b) x) (ap (λ (k : ℕ). drop k l) (sym e) ∙ sym (drop-drop (b - a) a l))
    ∙ sym (take-add (b - a) (c - b) (drop a l)) ∙ ap (λ (k : ℕ). take k (drop a l)) f

take_slice : (l : List ℕ) (b c : ℕ) → b ≤ c → take b l ++ slice_range l b c ≡ take c l
take_slice l b c bc = let f : b + (c - b) ≡ c = omega arith in sym (take-add b (c - b) l) ∙ ap (λ (k : ℕ). take k l) f

pub read_nothing : (s : Source) (cache : LruCache ℕ (Vec ℕ Global)) (at end : ℕ) (into : List ℕ) → IsSound s cache → at ≤ end → ReadTo s s cache cache at end into (at / 4096)
read_nothing s cache at end into is order =
    let none : 0 ≡ at / 4096 - at / 4096 = omega arith in
    let here : reached at end (at / 4096) ≡ at = omega arith in
    let gone : 0 ≡ reached at end (at / 4096) - at = omega arith in
    record {
      first = omega arith;
      most = refl;
      sound = is;
      visited = subst (λ (k : ℕ). Visits cache.cap s s (keys_of cache.entries) (keys_of cache.entries) (range_with_len (at / 4096) k)) none (visits_nothing cache.cap s (keys_of cache.entries));
      bytes = λ image told. ap (λ (k : ℕ). take k into) (sym gone) ∙ ap (λ (k : ℕ). take k (drop at image)) gone;
    }

range_more : (a b : ℕ) → a ≤ b → range_with_len a (b - a) ++ b ∷ [] ≡ range_with_len a (b + 1 - a)
range_more a b order =
    let e : a + (b - a) ≡ b = omega arith in
    let f : (b - a) + 1 ≡ b + 1 - a = omega arith in
    ap (λ (k : ℕ). range_with_len a (b - a) ++ k ∷ []) (sym e) ∙ sym (range_with_len-append a (b - a) 1) ∙ ap (range_with_len a) f

-- where the part of a block lies
pub record IsPart (at len size end b from till : ℕ) : Type 0 where
  pub some : from - at < till - at
  pub room : till - at ≤ len
  pub low : 4096 * b ≤ from
  pub high : from + (till - at - (from - at)) ≤ 4096 * b + block_length size b
  pub begins : from ≡ reached at end b
  pub ends : till ≡ reached at end (b + 1)

pub is_part : (at len size end b from till : ℕ) → end ≡ at + len → end ≤ size → at / 4096 ≤ b → b < (end - 1) / 4096 + 1 → 0 < len
    → from ≡ max at (4096 * b) → till ≡ min end (4096 * b + block_length size b) → IsPart at len size end b from till
is_part at len size end b from till e inside first last some f t =
    let starts : 4096 * b < end = omega arith in
    let passes : at < 4096 * (b + 1) = omega arith in
    record { some = omega arith; room = omega arith; low = omega arith; high = omega arith; begins = omega arith; ends = omega arith }

length_slice : (l : List ℕ) (a b : ℕ) → b ≤ length l → length (slice_range l a b) ≡ b - a
length_slice l a b within = simp (length-take, length-drop) (omega arith)

-- one block more: from where the last one ended, or the range begins, to where it ends itself, or the range
pub read_more : {T : Type 0} (old mid new : Source) (before here after : LruCache ℕ (Vec ℕ Global)) (at end b from till : ℕ) (was into : List ℕ) (value : T)
    → ReadTo old mid before here at end was b → Lands mid new here after (b ∷ []) (Ok value) → from ≡ reached at end b → till ≡ reached at end (b + 1)
    → take (from - at) into ≡ take (from - at) was → till - at ≤ length into → AreBytes mid from (slice_range into (from - at) (till - at))
    → ReadTo old new before after at end into (b + 1)
read_more old mid new before here after at end b from till was into value so_far one e f front room part =
    let order : from ≤ till = omega arith in
    let begun : at ≤ from = omega arith in
    let stop : from + length (slice_range into (from - at) (till - at)) ≡ till = omega (arith, length_slice into (from - at) (till - at) room) in
    let step : Visits before.cap mid new (keys_of here.entries) (keys_of after.entries) (b ∷ []) = subst (λ (n : ℕ). Visits n mid new (keys_of here.entries) (keys_of after.entries) (b ∷ [])) so_far.most one.ok in
    record {
      first = omega (arith, so_far.first);
      most = one.most ∙ so_far.most;
      sound = one.sound;
      visited = subst (Visits before.cap old new (keys_of before.entries) (keys_of after.entries)) (range_more (at / 4096) b so_far.first)
          (visits_visits before.cap old mid new (keys_of before.entries) (keys_of here.entries) (keys_of after.entries) (range_with_len (at / 4096) (b - at / 4096)) (b ∷ []) so_far.visited step);
      bytes = λ image told. subst (λ (k : ℕ). take (k - at) into ≡ slice_range image at k) f
          (sym (take_slice into (from - at) (till - at) (omega arith))
          ∙ ap (λ (l : List ℕ). l ++ slice_range into (from - at) (till - at)) (front ∙ subst (λ (k : ℕ). take (k - at) was ≡ slice_range image at k) (sym e) (so_far.bytes image told))
          ∙ ap (λ (l : List ℕ). slice_range image at from ++ l) (part image (so_far.visited.keeps.image ∙ told) ∙ ap (slice_range image from) stop)
          ∙ slice_join image at from till begun order);
    }

-- an error at a block
pub read_stopped : {T : Type 0} (old mid new : Source) (before here after : LruCache ℕ (Vec ℕ Global)) (at len end b : ℕ) (was : List ℕ) (error : SourceError)
    → ReadTo old mid before here at end was b → Lands {T = T} mid new here after (b ∷ []) (Err error) → 0 < len → end ≡ at + len → b < (end - 1) / 4096 + 1
    → Lands {T = T} old new before after (visits at len) (Err error)
read_stopped {T = T} old mid new before here after at len end b was error so_far one some e below =
    let all : range_with_len (at / 4096) (b + 1 - at / 4096) ++ range_with_len (b + 1) ((end - 1) / 4096 - b) ≡ visits at len =
    covered (at / 4096) b ((end - 1) / 4096) so_far.first (omega arith) ∙ sym (visits_until at len end some e) in
    let step : Stops {T = T} before.cap mid new (keys_of here.entries) (keys_of after.entries) (b ∷ []) (Err error) = subst (λ (n : ℕ). Stops {T = T} n mid new (keys_of here.entries) (keys_of after.entries) (b ∷ []) (Err error)) so_far.most one.err in
    let stops = visits_stops before.cap old mid new (keys_of before.entries) (keys_of here.entries) (keys_of after.entries) (range_with_len (at / 4096) (b - at / 4096)) (b ∷ []) (Err error) so_far.visited step in
    let longer = stops_longer before.cap old new (keys_of before.entries) (keys_of after.entries) (range_with_len (at / 4096) (b - at / 4096) ++ b ∷ []) (range_with_len (b + 1) ((end - 1) / 4096 - b)) (Err error) stops in
    record {
      most = one.most ∙ so_far.most;
      sound = one.sound;
      ok = tt;
      err = subst (λ (v : List ℕ). Stops {T = T} before.cap old new (keys_of before.entries) (keys_of after.entries) v (Err error))
          (ap (λ (l : List ℕ). l ++ range_with_len (b + 1) ((end - 1) / 4096 - b)) (range_more (at / 4096) b so_far.first) ∙ all) longer;
      failed = λ failed. rose_since old.faults mid.faults new.faults so_far.visited.keeps.later (one.failed failed);
    }
  where
    covered : (a b c : ℕ) → a ≤ b → b ≤ c → range_with_len a (b + 1 - a) ++ range_with_len (b + 1) (c - b) ≡ range_with_len a (c + 1 - a)
    covered a b c ab bc =
        let e : a + (b + 1 - a) ≡ b + 1 = omega arith in
        let f : (b + 1 - a) + (c - b) ≡ c + 1 - a = omega arith in
        ap (λ (k : ℕ). range_with_len a (b + 1 - a) ++ range_with_len k (c - b)) (sym e) ∙ sym (range_with_len-append a (b + 1 - a) (c - b)) ∙ ap (range_with_len a) f

-- all blocks
pub read_all : {T : Type 0} (old new : Source) (before after : LruCache ℕ (Vec ℕ Global)) (at len end b : ℕ) (into : List ℕ) (value : T)
    → ReadTo old new before after at end into b → 0 < len → end ≡ at + len → b ≡ (end - 1) / 4096 + 1 → Lands old new before after (visits at len) (Ok value)
read_all old new before after at len end b into value so_far some e last = record {
  most = so_far.most;
  sound = so_far.sound;
  ok = subst (Visits before.cap old new (keys_of before.entries) (keys_of after.entries)) (ap (λ (k : ℕ). range_with_len (at / 4096) (k - at / 4096)) last ∙ sym (visits_until at len end some e)) so_far.visited;
  err = tt;
  failed = λ failed. cc;
}

pub read_bytes : (old new : Source) (before after : LruCache ℕ (Vec ℕ Global)) (at len end b : ℕ) (into : List ℕ)
    → ReadTo old new before after at end into b → 0 < len → end ≡ at + len → b ≡ (end - 1) / 4096 + 1 → length into ≡ len → AreBytes old at into
read_bytes old new before after at len end b into so_far some e last full image told =
    let stop : reached at end b ≡ at + length into = omega arith in
    let whole : length into ≤ at + length into - at = omega arith in
    sym (take_all (at + length into - at) into whole) ∙ subst (λ (k : ℕ). take (k - at) into ≡ slice_range image at k) stop (so_far.bytes image told)
