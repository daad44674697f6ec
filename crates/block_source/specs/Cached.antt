-- What a source with a cache of blocks is seen as, and what its calls do.
use Rattle.std.specs.Prelude.{◌≡◌, ◌⊎◌, ◌<◌, ◌*◌, ◌+◌, ℕ, false, List, [], ◌∷◌, ◌++◌, length, slice_range, Contains, flat_map, Option, Vec, vec_items, None, IsSome, Result, IsErrOf, OnOk, OnErr}
use Rattle.std.specs.Global.{Global}
use Rattle.std.specs.Map.{keys_of}
use Rattle.lru.specs.LruCache.{LruCache}
use Rattle.fgb_outside.specs.declared.sources.SourceError.{SourceError}
use Rattle.fgb_outside.specs.declared.sources.SourceError.TheVariants.{Failed, Memory}
use Rattle.fgb_outside.specs.Source.{Source, IfTold, Keeps, Rose, added}
use Rattle.block_source.specs.Blocks.{block_bytes, block_length, block_pairs, visits}
use Rattle.block_source.specs.Misses.{is_kept, kept_from, misses_from}

-- its inner source, the pairs of its calls, if they are told, the numbers of the blocks that it keeps, the last used first,
-- and how many it keeps at most
pub record Cached : Type 0 where
  pub inner : Source
  pub asked : Option (List (ℕ × ℕ))
  pub kept : List ℕ
  pub most : ℕ

abbrev pub source_of : Cached → Source
source_of c = record { image = c.inner.image; asked = c.asked; size = c.inner.size; faults = c.inner.faults }

-- these are the bytes from a place on
abbrev pub AreBytes : Source → ℕ → List ℕ → Type 0
AreBytes source at bytes = IfTold source (λ image. bytes ≡ slice_range image at (at + length bytes))

-- these are the bytes of a block
pub record IsBlock (source : Source) (b : ℕ) (bytes : List ℕ) : Type 0 where
  pub inside : 4096 * b < source.size
  pub len : length bytes ≡ block_length source.size b
  pub told : IfTold source (λ image. bytes ≡ block_bytes image source.size b)

-- what is kept under a number are the bytes of that block
abbrev pub KeepsBlocks : Source → List (ℕ × Vec ℕ Global) → Type 0
KeepsBlocks source entries = (e : ℕ × Vec ℕ Global) → Contains entries e → IsBlock source e.0 (vec_items e.1)

-- a block was asked for by one call, unless there was no memory for it
pub record Asks {T : Type 0} (old new : Source) (block : ℕ) (result : Result T SourceError) : Type 0 where
  pub keeps : Keeps old new
  pub fetched : List ℕ
  pub fetches : (fetched ≡ block ∷ []) ⊎ ((fetched ≡ []) × IsErrOf result Memory)
  pub asked : OnOk result (new.asked ≡ added old.asked (block_pairs old.size (block ∷ [])))
  pub asked_failed : IsErrOf result Failed → new.asked ≡ added old.asked (block_pairs old.size (block ∷ []))
  pub asked_told : IsSome new.asked → new.asked ≡ added old.asked (block_pairs old.size fetched)
  pub failed : IsErrOf result Failed → Rose old.faults new.faults

-- these blocks were visited: those that miss were asked for, each by one pair
pub record Visits (n : ℕ) (old new : Source) (before after : List ℕ) (visited : List ℕ) : Type 0 where
  pub keeps : Keeps old new
  pub asked : new.asked ≡ added old.asked (block_pairs old.size (misses_from before visited n))
  pub kept : after ≡ kept_from before visited n

-- an error came at a block that missed. The blocks in front of it were visited, and those of them that miss were asked for,
-- each by one pair; then the block itself, unless there was no memory for it
pub record Stops {T : Type 0} (n : ℕ) (old new : Source) (before after : List ℕ) (visited : List ℕ) (result : Result T SourceError) : Type 0 where
  pub keeps : Keeps old new
  pub front : List ℕ
  pub block : ℕ
  pub rest : List ℕ
  pub parts : front ++ block ∷ rest ≡ visited
  pub kept : after ≡ kept_from before front n
  pub missed : is_kept block after ≡ false
  pub fetched : List ℕ
  pub fetches : (fetched ≡ misses_from before (front ++ block ∷ []) n) ⊎ ((fetched ≡ misses_from before front n) × IsErrOf result Memory)
  pub told : IsSome new.asked → new.asked ≡ added old.asked (block_pairs old.size fetched)
  pub failed : IsErrOf result Failed → new.asked ≡ added old.asked (block_pairs old.size fetched)

-- a cache that may keep some block, and keeps blocks of this source
pub record IsSound (source : Source) (cache : LruCache ℕ (Vec ℕ Global)) : Type 0 where
  pub some : 0 < cache.cap
  pub blocks : KeepsBlocks source cache.entries

-- what visits of these blocks did to the inner source and to the cache
pub record Lands {T : Type 0} (old new : Source) (before after : LruCache ℕ (Vec ℕ Global)) (visited : List ℕ) (result : Result T SourceError) : Type 0 where
  pub most : after.cap ≡ before.cap
  pub sound : IsSound new after
  pub ok : OnOk result (Visits before.cap old new (keys_of before.entries) (keys_of after.entries) visited)
  pub err : OnErr result (Stops before.cap old new (keys_of before.entries) (keys_of after.entries) visited result)
  pub failed : IsErrOf result Failed → Rose old.faults new.faults

-- a call that found no memory for its entry in the list, which it ends
pub record EndsList {T : Type 0} (old new : Cached) (result : Result T SourceError) : Type 0 where
  pub memory : IsErrOf result Memory
  pub told : IsSome old.asked
  pub ended : new.asked ≡ None
  pub inner : new.inner ≡ old.inner
  pub kept : new.kept ≡ old.kept
  pub most : new.most ≡ old.most

-- the blocks that a call visited, from one state to the other
abbrev pub Fetches : Cached → Cached → List ℕ → Type 0
Fetches old new visited = Visits old.most old.inner new.inner old.kept new.kept visited × (new.most ≡ old.most)

-- an error came at a block that a call visited
abbrev pub StopsIn : {T : Type 0} → Cached → Cached → List ℕ → Result T SourceError → Type 0
StopsIn old new visited result = Stops old.most old.inner new.inner old.kept new.kept visited result × (new.most ≡ old.most)

-- calls for these pairs (at, length), one after the other, that all answered Ok
abbrev pub Answered : Cached → List (ℕ × ℕ) → Cached → Type 0
Answered old [] new = new ≡ old
Answered old (call ∷ calls) new = (mid : Cached) × Fetches old mid (visits call.0 call.1) × Answered mid calls new

abbrev pub all_visits : List (ℕ × ℕ) → List ℕ
all_visits calls = flat_map (λ call. visits call.0 call.1) calls
