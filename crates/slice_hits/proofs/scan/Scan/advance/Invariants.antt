use Rattle.std.proofs.Common.{◌≡◌, ◌≤◌, ◌-◌, ℕ, List, length}
use Rattle.order_keys.specs.declared.bounds.Bounds.{Bounds}
use Rattle.found_features.specs.Entries.{Entry}
use Rattle.slice_hits.specs.Scanning.{Stands}
use Rattle.slice_hits.proofs.scan.Scan.advance.Given as goal

abbrev pub invariant-loop-self : goal.invariant-loop-self
invariant-loop-self l = record {
  same : length l.self.features.bytes.now ≡ length l.fn.self.features.bytes.now;
  onward : l.fn.self.at ≤ l.self.at;
  stands : (image : List ℕ) (boxes : List Bounds) (entries : List Entry) → Stands image boxes entries l.fn.self → Stands image boxes entries l.self;
}

abbrev pub decreases-loop-self : goal.decreases-loop-self
decreases-loop-self l = length l.self.features.bytes.now - l.self.at
