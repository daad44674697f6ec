-- What a source of ranges shows, and what a read does to it.
use Rattle.std.specs.Prelude.{◌≡◌, ℕ, ◌+◌, ◌-◌, ◌^◌, ◌≤◌, min, List, [], ◌∷◌, ◌++◌, length, slice_range, Option, Some, None, IsSome, Result, OnOk, IsErrOf}
use Rattle.fgb_outside.specs.declared.sources.SourceError.{SourceError}
use Rattle.fgb_outside.specs.declared.sources.SourceError.TheVariants.{Failed}

-- a count of 64 bits has risen, or stands at its last value
abbrev pub Rose : ℕ → ℕ → Type 0
Rose before now = min (before + 1) (2 ^ 64 - 1) ≤ now

-- a told list with more at its end; one that is not told stays so
abbrev pub added : {A : Type 0} → Option (List A) → List A → Option (List A)
added None more = None
added (Some told) more = Some (told ++ more)

-- the bytes, if they are told; the pairs (at, length) that were asked for, if they are told; how many bytes there are;
-- and how often a read has failed
pub record Source : Type 0 where
  pub image : Option (List ℕ)
  pub asked : Option (List (ℕ × ℕ))
  pub size : ℕ
  pub faults : ℕ

-- P of the bytes, where they are told
abbrev pub IfTold : Source → (List ℕ → Type 0) → Type 0
IfTold source P = (image : List ℕ) → source.image ≡ Some image → P image

-- it has so many bytes
pub record HasSize (source : Source) (len : ℕ) : Type 0 where
  pub size : len ≡ source.size
  pub image : IfTold source (λ image. length image ≡ len)

-- no call changes the bytes or lowers the count, and a list that is told has been told before
pub record Keeps (old new : Source) : Type 0 where
  pub image : new.image ≡ old.image
  pub size : new.size ≡ old.size
  pub later : old.faults ≤ new.faults
  pub told : IsSome new.asked → IsSome old.asked

-- a read of these bytes at this place; want of memory may end the telling of what was asked
pub record ReadsAt {T : Type 0} (old new : Source) (at : ℕ) (into : List ℕ) (result : Result T SourceError) : Type 0 where
  pub keeps : Keeps old new
  pub bytes : OnOk result (IfTold old (λ image. into ≡ slice_range image at (at + length into)))
  pub asked : OnOk result (new.asked ≡ added old.asked ((at, length into) ∷ []))
  pub asked_failed : IsErrOf result Failed → new.asked ≡ added old.asked ((at, length into) ∷ [])
  pub asked_told : IsSome new.asked → new.asked ≡ added old.asked ((at, length into) ∷ [])
  pub failed : IsErrOf result Failed → Rose old.faults new.faults
