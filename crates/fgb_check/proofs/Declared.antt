-- What a check asks for, by the definitions of the file.
use Rattle.std.proofs.Common.{◌≡◌, ℕ, ◌+◌, ◌*◌, List, length, Result, Option, Some, None, sym, ap, subst, inl, inr}
use Rattle.std.specs.Prelude.{OnErr}
use Rattle.level_bounds.specs.Levels.{Shape, node_count}
use Rattle.fgb_outside.specs.Source.{Source, IfTold}
use Rattle.fgb_outside.specs.Asked.{IsInside}
use Rattle.read_stop.specs.Asks.{AsksOnly}
use Rattle.read_stop.proofs.Asking.{asks_weaken}
use Rattle.read_stop.proofs.Stopping.{on_err}
use Rattle.fgb_file.specs.File.{header_end, first_place, IsOpen, IsUnindexed, IsDeclared, of_index, of_features}
use Rattle.fgb_file.proofs.Opening.{open_same}
use Rattle.fgb_reader.specs.Requests.{AsksAll, AsksFront}
use Rattle.fgb_reader.proofs.Whole.{whole_front}
use Rattle.fgb_check.specs.Walks.{IsBehind}

-- parts of the index and of the features behind it
module _ (image : List ℕ) (t : Shape) (opened : IsOpen image (Some t)) where
  declared_behind : (pair : ℕ × ℕ) → IsBehind (header_end image) (first_place image (Some t)) (length image) pair → IsDeclared image pair
  declared_behind pair (inl inside) = of_index opened inside
  declared_behind pair (inr inside) = of_features opened inside

  pub asks_declared : (place end : ℕ) {s s' : Source} → place ≡ header_end image → length image ≡ end → AsksOnly (IsBehind place (place + 40 * node_count t) end) s s' → AsksOnly (IsDeclared image) s s'
  asks_declared place end {s = s} {s' = s'} begins whole asks =
      asks_weaken (IsBehind (header_end image) (first_place image (Some t)) (length image)) (IsDeclared image) declared_behind
      (subst (λ n. AsksOnly (IsBehind (header_end image) (first_place image (Some t)) n) s s') (sym whole)
      (subst (λ n. AsksOnly (IsBehind n (n + 40 * node_count t) end) s s') begins asks))

  -- a file with an index is none without
  pub not_unindexed : IsUnindexed image → ⊥
  not_unindexed other = let same : Some t ≡ None = open_same image opened other in cc

-- a front of all positions, where a file has no index that is read
abbrev pub AsksFrontUnindexed : Source → Source → Type 0
AsksFrontUnindexed s s' = IfTold s (λ image. ((t : Shape) → IsOpen image (Some t) → ⊥) → AsksFront image s s')

pub unindexed_front : {T E : Type 0} (r : Result T E) (s s' : Source) → IfTold s (λ image. AsksFront image s s') → OnErr r (AsksFrontUnindexed s s')
unindexed_front r s s' front = on_err r (AsksFrontUnindexed s s') (λ image told none. front image told)

-- all positions, where it has none
pub accepted_front : (image : List ℕ) (s s' : Source) (index : Option Shape) → IsOpen image index → ((t : Shape) → IsOpen image (Some t) → ⊥) → (IsUnindexed image → AsksAll image s s') → AsksFront image s s'
accepted_front image s s' None opened none all = let asked = all opened in whole_front _ asked.reads
accepted_front image s s' (Some t) opened none all = absurd (none t opened)
