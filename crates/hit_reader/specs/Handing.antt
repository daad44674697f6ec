-- Handing over a feature that was read under a header, beside its leaf.
use Rattle.std.specs.Prelude.{◌≡◌, ℕ, ◌+◌, ◌*◌, true, false, List}
use Rattle.flat_layout.specs.declared.Broken.{Broken}
use Rattle.flat_layout.specs.declared.Rule.TheVariants.{LeafBox}
use Rattle.flat_layout.specs.Promises.{IsClean, Names}
use Rattle.order_keys.specs.Boxes.{same as same_box}
use Rattle.fgb_schema.specs.Headers.{Header}
use Rattle.fgb_schema.specs.Paths.{feature_root}
use Rattle.fgb_schema.specs.Weights.{BreaksBuffer}
use Rattle.fgb_schema.specs.Features.{feature_of, own_box}
use Rattle.tree_search.specs.declared.search.Hit.{Hit}
use Rattle.found_features.specs.Entries.{Entry}

-- its number and its offset are those of the leaf
abbrev pub entry_read : Header → Hit → List ℕ → Entry
entry_read header hit buffer = record { number = hit.number; offset = hit.item.offset; buffer = buffer; own = own_box (feature_of header buffer) }

-- it breaks no rule, and its own box is that of the leaf, by keys
pub record IsAlike (header : Header) (hit : Hit) (buffer : List ℕ) : Type 0 where
  pub clean : IsClean (BreaksBuffer buffer (feature_root header))
  pub same : same_box hit.item.bounds (entry_read header hit buffer).own ≡ true

-- the buffer, whose first byte stands here, breaks a rule; or its own box is another than that of the leaf, where leaf 0 stands there
pub data RefusesRead (header : Header) (hit : Hit) (buffer : List ℕ) (base leaves : ℕ) (broken : Broken) : Type 0 where
  in_buffer : Names base (BreaksBuffer buffer (feature_root header)) broken → RefusesRead header hit buffer base leaves broken
  in_box : IsClean (BreaksBuffer buffer (feature_root header)) → same_box hit.item.bounds (entry_read header hit buffer).own ≡ false
      → broken ≡ record { place = leaves + 40 * hit.number; rule = LeafBox } → RefusesRead header hit buffer base leaves broken
