-- What a visitor with a condition does: by the relations of the visitor inside, from a state before a call to that after.
use Rattle.std.specs.Prelude.{◌≡◌, ℕ, ◌+◌, ◌-◌, ◌^◌, min, Bool, true, false, List, Option, Some, None}
use Rattle.std.specs.Bool.{MatchBool}
use Rattle.std.specs.List.{filter}
use Rattle.flat_layout.specs.Promises.{Names}
use Rattle.flat_layout.specs.declared.Broken.{Broken}
use Rattle.fgb_schema.specs.Headers.{Header, header_of}
use Rattle.fgb_schema.specs.Features.{feature_of}
use Rattle.found_features.specs.Entries.{Entry}
use Rattle.found_features.specs.Visits.{HeaderBytes}
use Rattle.fgb_where.specs.declared.words.Condition.{Condition}
use Rattle.fgb_where.specs.Binding.{Bounded, Binds, BreaksCondition}
use Rattle.fgb_where.specs.Holding.{holds}

-- a header that is kept, and the condition as it was bound under it
pub record Under : Type 0 where
  pub header : Header
  pub bounded : Bounded

-- the condition; what is kept, if there is something; the last refusal of the condition, if there was one; how many there
-- were, as a count of 64 bits that ends at its last value; and the visitor inside
pub record State (V : Type 0) : Type 0 where
  pub condition : Condition
  pub kept : Option Under
  pub refused : Option Broken
  pub refusals : ℕ
  pub inner : V

-- the condition and its refusals stay
pub record Stays {V : Type 0} (a b : State V) : Type 0 where
  pub condition : b.condition ≡ a.condition
  pub refused : b.refused ≡ a.refused
  pub refusals : b.refusals ≡ a.refusals

-- it begins: the condition is bound, the header kept, and the visitor inside begins
pub record Starts {V : Type 0} (start : V → Header → V → Type 0) (a : State V) (h : Header) (b : State V) : Type 0 where
  pub stays : Stays a b
  pub bounded : Bounded
  pub binds : Binds h a.condition bounded
  pub kept : b.kept ≡ Some (record { header = h; bounded = bounded })
  pub inner : start a.inner h b.inner

-- the condition is refused: it breaks a rule at its place in the header's bytes, that is the last refusal, one more is
-- counted, and the visitor inside is as it was
pub record IsRefused {V : Type 0} (a : State V) (h : HeaderBytes) (b : State V) : Type 0 where
  pub broken : Broken
  pub named : Names h.place (BreaksCondition h.bytes a.condition) broken
  pub refused : b.refused ≡ Some broken
  pub refusals : b.refusals ≡ min (a.refusals + 1) (2 ^ 64 - 1)
  pub condition : b.condition ≡ a.condition
  pub inner : b.inner ≡ a.inner

-- the condition is bound under a header, and its refusals stay
pub record IsBound {V : Type 0} (a : State V) (h : Header) (b : State V) : Type 0 where
  pub stays : Stays a b
  pub bounded : Bounded
  pub binds : Binds h a.condition bounded

-- it fails to begin, and keeps nothing: the condition is refused; it is bound and memory is wanting, the visitor inside
-- being as it was; or it is bound and the visitor inside fails to begin
pub data FailsStart {V : Type 0} (failed_start : V → HeaderBytes → V → Type 0) (a : State V) (h : HeaderBytes) (b : State V) : Type 0 where
  at_condition : b.kept ≡ None → IsRefused a h b → FailsStart failed_start a h b
  at_memory : b.kept ≡ None → IsBound a (header_of h.bytes) b → b.inner ≡ a.inner → FailsStart failed_start a h b
  inside : b.kept ≡ None → IsBound a (header_of h.bytes) b → failed_start a.inner h b.inner → FailsStart failed_start a h b

-- what is kept lets a feature's buffer through: the condition holds for its feature
abbrev pub passes : Option Under → Entry → Bool
passes None e = false
passes (Some under) e = holds under.bounded under.header (feature_of under.header e.buffer)

-- the entries of a list for which the condition holds
abbrev pub chosen : Under → List Entry → List Entry
chosen under es = filter (passes (Some under)) es

-- it takes a feature: the visitor inside takes it where the condition holds, and is as it was elsewhere
pub record Steps {V : Type 0} (step : V → Entry → V → Type 0) (a : State V) (e : Entry) (b : State V) : Type 0 where
  pub stays : Stays a b
  pub kept : b.kept ≡ a.kept
  pub inner : MatchBool (passes a.kept e) (step a.inner e b.inner) (b.inner ≡ a.inner)

-- it fails to take a feature: the condition holds, and the visitor inside fails to take it
pub record FailsStep {V : Type 0} (failed_step : V → Entry → V → Type 0) (a : State V) (e : Entry) (b : State V) : Type 0 where
  pub stays : Stays a b
  pub kept : b.kept ≡ a.kept
  pub holds : passes a.kept e ≡ true
  pub inner : failed_step a.inner e b.inner
