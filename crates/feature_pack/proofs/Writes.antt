-- Pieces that are written by pages, one behind another.
use Rattle.std.proofs.Common.{◌≡◌, ◌∙◌, ℕ, ◌+◌, ◌<◌, List, [], ◌++◌, length, take, drop, get_or, sym, ap, subst}
use Rattle.std.specs.Prelude.{Vec, option_map}
use Rattle.std.specs.declared.alloc.Global.{Global}
use Rattle.std.specs.List.{concat}
use Rattle.level_bounds.specs.Shapes.{shape_of}
use Rattle.node_items.specs.declared.item.NodeItem.{NodeItem}
use Rattle.fgb_outside.specs.Sink.{Sink, Appends, AppendsPart}
use Rattle.fgb_outside.proofs.Shown.{appends_appends, appends_then_part, part_longer, part_nothing}
use Rattle.sink_page.specs.Pages.{Adds, AddsPart}
use Rattle.sink_page.proofs.Pages.{adds_adds, adds_left, adds_then_part}
use Rattle.packed_file.specs.Packing.{in_order, index_bytes, start_bytes}
use Rattle.laid_features.specs.Buffers.{framed}
use Rattle.feature_pack.specs.Pieces.{pieces_in}
use Rattle.feature_pack.specs.Plans.{planned_bytes}
use Rattle.feature_pack.specs.declared.planning.Plan.{Plan}
use Rattle.feature_pack.proofs.Runs.{concat_whole, so_far_next}

module _ (a b c : Sink) (q : List ℕ) (buffers : List (Vec ℕ Global)) (numbers : List ℕ) (i : ℕ) (x : Vec ℕ Global) (early : i < length numbers)
    (there : get_or numbers i 0 < length buffers) (is : x ≡ get_or buffers (get_or numbers i 0) x) (adds : Adds a b [] q (concat (in_order (pieces_in buffers) (take i numbers)))) where
  abbrev so_far : List ℕ
  so_far = concat (in_order (pieces_in buffers) (take i numbers))

  abbrev rest : List ℕ
  rest = concat (in_order (pieces_in buffers) (drop (i + 1) numbers))

  -- one more piece
  pub piece_added : (r : List ℕ) → Adds b c q r (framed x.items) → Adds a c [] r (concat (in_order (pieces_in buffers) (take (i + 1) numbers)))
  piece_added r more = subst (Adds a c [] r) (sym (so_far_next buffers numbers i x early there is)) (adds_adds a b c [] q r so_far (framed x.items) adds more)

  -- a front of one more
  pub piece_part : (r : List ℕ) → AddsPart b c q r (framed x.items) → AppendsPart a c (concat (in_order (pieces_in buffers) numbers))
  piece_part r part =
      subst (AppendsPart a c) (ap (λ l. l ++ rest) (sym (so_far_next buffers numbers i x early there is)) ∙ concat_whole (λ k. get_or (pieces_in buffers) k []) numbers (i + 1))
      (part_longer a c (so_far ++ framed x.items) rest
      (adds_left a c r (so_far ++ framed x.items) (adds_then_part a b c [] q r so_far (framed x.items) adds part) c (part_nothing c r)))

-- what is planned: the start and the header, the index, and the pieces, each as it is lent
module _ (pieces : List (List ℕ)) (plan : Plan) (head : List ℕ) (leaves : List NodeItem) (numbers : List ℕ) (is_head : head ≡ plan.head.items) (are_leaves : leaves ≡ plan.leaves.items)
    (are_numbers : numbers ≡ plan.numbers.items) (a b c d : Sink) where
  abbrev front : List ℕ
  front = start_bytes head ++ head

  abbrev index : List ℕ
  index = index_bytes (option_map shape_of plan.levels) leaves

  abbrev features : List ℕ
  features = concat (in_order pieces numbers)

  as_planned : front ++ index ++ features ≡ planned_bytes pieces plan
  as_planned =
      ap (λ l. start_bytes l ++ l ++ index ++ features) is_head
      ∙ ap (λ l. start_bytes plan.head.items ++ plan.head.items ++ index_bytes (option_map shape_of plan.levels) l ++ features) are_leaves
      ∙ ap (λ l. start_bytes plan.head.items ++ plan.head.items ++ index_bytes (option_map shape_of plan.levels) plan.leaves.items ++ concat (in_order pieces l)) are_numbers

  pub in_head : AppendsPart a b front → AppendsPart a b (planned_bytes pieces plan)
  in_head part = subst (AppendsPart a b) as_planned (part_longer a b (front ++ index) features (part_longer a b front index part))

  pub in_index : Appends a b front → AppendsPart b c index → AppendsPart a c (planned_bytes pieces plan)
  in_index first part = subst (AppendsPart a c) as_planned (part_longer a c (front ++ index) features (appends_then_part a b c front index first part))

  pub in_pieces : Appends a b front → Appends b c index → AppendsPart c d features → AppendsPart a d (planned_bytes pieces plan)
  in_pieces first second part = subst (AppendsPart a d) as_planned (appends_then_part a c d (front ++ index) features (appends_appends a b c front index first second) part)

  pub all_written : Appends a b front → Appends b c index → Appends c d features → Appends a d (planned_bytes pieces plan)
  all_written first second third = subst (Appends a d) as_planned (appends_appends a c d (front ++ index) features (appends_appends a b c front index first second) third)
