use Rattle.std.proofs.Common.{◌≡◌, ℕ, ◌+◌, ◌-◌, ◌<◌, ◌≤◌, Some, length}
use Rattle.std.specs.Prelude.{slice_get}
use Rattle.tree_search.specs.declared.search.Hit.{Hit}
use Rattle.hit_reader.specs.Going.{IsNext}
use Rattle.hit_reader.proofs.hits.run_len.Given as goal

abbrev pub invariant-loop-len : goal.invariant-loop-len
invariant-loop-len l = record {
  some : 0 < l.len;
  within : l.len ≤ length l.hits;
  neighbours : (i : ℕ) (a b : Hit) → i + 1 < l.len → slice_get l.hits i ≡ Some a → slice_get l.hits (i + 1) ≡ Some b → IsNext a b;
}

abbrev pub decreases-loop-len : goal.decreases-loop-len
decreases-loop-len l = length l.hits - l.len
