-- What a query of several boxes asks for, with holes that are shorter than a gap.
use Rattle.std.specs.Prelude.{◌≡◌, ℕ, ◌++◌, List, length, Option, Some, None}
use Rattle.std.specs.List.{range_with_len}
use Rattle.order_keys.specs.declared.bounds.Bounds.{Bounds}
use Rattle.level_bounds.specs.Levels.{Shape}
use Rattle.fgb_outside.specs.Source.{Source}
use Rattle.fgb_outside.specs.Asked.{Reads, ReadsFront, Ascends}
use Rattle.fgb_schema.specs.Headers.{Header}
use Rattle.fgb_file.specs.File.{header_end, header_in, first_place, node_in, IsDeclared, IsOpen}
use Rattle.gap_window.specs.Gaps.{bridged}
use Rattle.box_list.specs.Lists.{meets_any}
use Rattle.tree_search.specs.Wanted.{node_positions, wanted_nodes}
use Rattle.hit_reader.specs.Asking.{feature_positions}
use Rattle.box_query.specs.Answers.{hit_leaves}

-- the positions of the bytes of the wanted nodes of an index
abbrev pub wanted_positions : List ℕ → Shape → List Bounds → List ℕ
wanted_positions image t boxes = node_positions (header_end image) (wanted_nodes t (node_in image) (meets_any boxes))

-- those of the features found
abbrev pub hit_positions : List ℕ → Shape → List Bounds → List ℕ
hit_positions image t boxes = feature_positions image t (hit_leaves image t boxes)

-- of the index the wanted nodes, and of the features those that are found; and in each of both sections the holes between
-- them of fewer positions than the gap
abbrev pub asked_nodes : List ℕ → Shape → List Bounds → ℕ → List ℕ
asked_nodes image t boxes gap = bridged gap (wanted_positions image t boxes)

abbrev pub asked_behind : List ℕ → Shape → List Bounds → ℕ → List ℕ
asked_behind image t boxes gap = asked_nodes image t boxes gap ++ bridged gap (hit_positions image t boxes)

-- the positions that a query asks for in a file that breaks no rule: all, where it has no index; else the start and the
-- header, the wanted nodes, the features found, and the short holes; with gap 0 just what is needed
unfoldable pub asked : List ℕ → Option Shape → List Bounds → ℕ → List ℕ
asked image None boxes gap = range_with_len 0 (length image)
asked image (Some t) boxes gap =
    range_with_len 0 (header_end image) ++ asked_nodes image t boxes gap ++ bridged gap (hit_positions image t boxes)

-- just these were asked for, ascending and each once, by requests inside the sections that may be asked for; or a front
-- of them
abbrev pub AsksNeeded : List ℕ → Option Shape → List Bounds → ℕ → Source → Source → Type 0
AsksNeeded image index boxes gap s s' = Reads (IsDeclared image) s s' (asked image index boxes gap)

abbrev pub AsksNeededFront : List ℕ → Option Shape → List Bounds → ℕ → Source → Source → Type 0
AsksNeededFront image index boxes gap s s' = ReadsFront (IsDeclared image) s s' (asked image index boxes gap)

-- just the start and the header were asked for, or a front of them
abbrev pub AsksHeader : List ℕ → Source → Source → Type 0
AsksHeader image s s' = Reads (IsDeclared image) s s' (range_with_len 0 (header_end image))

abbrev pub AsksHeaderFront : List ℕ → Source → Source → Type 0
AsksHeaderFront image s s' = ReadsFront (IsDeclared image) s s' (range_with_len 0 (header_end image))

-- whatever the bytes of a file with this index: the start and the header, the wanted nodes with the short holes between
-- them, and then positions behind the index that rise, none twice, were asked for in that order, or a front of these
pub record AsksSearch (image : List ℕ) (t : Shape) (boxes : List Bounds) (gap : ℕ) (s s' : Source) : Type 0 where
  pub behind : List ℕ
  pub rises : Ascends (first_place image (Some t)) (length image) behind
  pub reads : ReadsFront (IsDeclared image) s s' (range_with_len 0 (header_end image) ++ asked_nodes image t boxes gap ++ behind)

-- the same from the header on
pub record AsksIndexed (image : List ℕ) (t : Shape) (boxes : List Bounds) (gap : ℕ) (s s' : Source) : Type 0 where
  pub behind : List ℕ
  pub rises : Ascends (first_place image (Some t)) (length image) behind
  pub reads : ReadsFront (IsDeclared image) s s' (asked_nodes image t boxes gap ++ behind)

-- a file with this index is searched from its header on: under the header, with the index and the end here
pub record IsIndexed (image : List ℕ) (t : Shape) (header : Header) (place end : ℕ) : Type 0 where
  pub opened : IsOpen image (Some t)
  pub shown : header ≡ header_in image
  pub begins : place ≡ header_end image
  pub ends : end ≡ length image
