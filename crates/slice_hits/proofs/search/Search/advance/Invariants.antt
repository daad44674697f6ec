use Rattle.std.proofs.Common.{◌≤◌, ℕ, List}
use Rattle.order_keys.specs.declared.bounds.Bounds.{Bounds}
use Rattle.found_features.specs.Entries.{Entry}
use Rattle.slice_hits.specs.Searching.{Stands, left, way_left}
use Rattle.slice_hits.proofs.search.Search.advance.Given as goal

abbrev pub invariant-loop-self : goal.invariant-loop-self
invariant-loop-self l = record {
  stands : (image : List ℕ) (boxes : List Bounds) (entries : List Entry) → Stands image boxes entries l.fn.self → Stands image boxes entries l.self;
  fewer : left l.self ≤ left l.fn.self;
}

abbrev pub decreases-loop-self : goal.decreases-loop-self
decreases-loop-self l = way_left l.self
