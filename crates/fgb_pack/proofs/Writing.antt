-- Pieces that are written one behind another.
use Rattle.std.proofs.Common.{◌≡◌, ℕ, List, ◌++◌, Result, Ok, Err, subst, ap, ◌∙◌}
use Rattle.std.specs.Prelude.{IfOk, OnOk, option_map}
use Rattle.std.specs.List.{flat_map}
use Rattle.level_bounds.specs.Shapes.{shape_of}
use Rattle.node_items.specs.declared.item.NodeItem.{NodeItem}
use Rattle.fgb_outside.specs.Source.{Source, IfTold}
use Rattle.fgb_outside.specs.Sink.{Sink, Appends, AppendsPart}
use Rattle.fgb_outside.proofs.Shown.{appends_appends, appends_then_part, part_longer}
use Rattle.feature_spans.specs.Spans.{bytes_at}
use Rattle.feature_spans.specs.declared.features.Span.{Span}
use Rattle.packed_file.specs.Packing.{index_bytes, start_bytes}
use Rattle.fgb_pack.specs.declared.planning.Plan.{Plan}
use Rattle.fgb_pack.specs.Plans.{planned_bytes}

-- more is known where all went well
pub on_ok_map : {T E : Type 0} (r : Result T E) (P Q : Type 0) → (P → Q) → OnOk r P → OnOk r Q
on_ok_map (Ok x) P Q f p = f p
on_ok_map (Err e) P Q f p = tt

pub if_ok_map : {T E : Type 0} (r : Result T E) (P Q : T → Type 0) → ((x : T) → P x → Q x) → IfOk r P → IfOk r Q
if_ok_map (Ok x) P Q f p = f x p
if_ok_map (Err e) P Q f p = tt

-- two pieces, the first of which is written as the bytes that it is
module _ (a b c : Sink) (made first second : List ℕ) (is : made ≡ first) where
  pub in_first : AppendsPart a b made → AppendsPart a b (first ++ second)
  in_first part = part_longer a b first second (subst (AppendsPart a b) is part)

  pub in_second : Appends a b made → AppendsPart b c second → AppendsPart a c (first ++ second)
  in_second whole part = appends_then_part a b c first second (subst (Appends a b) is whole) part

  pub both : Appends a b made → Appends b c second → Appends a c (first ++ second)
  both whole more = appends_appends a b c first second (subst (Appends a b) is whole) more

-- what is planned: the start and the header, the index, and the features, each as it is lent
module _ (plan : Plan) (head : List ℕ) (leaves : List NodeItem) (spans : List Span) (is_head : head ≡ plan.head.items) (are_leaves : leaves ≡ plan.leaves.items)
    (are_spans : spans ≡ plan.spans.items) (a b c d : Sink) (s : Source) where
  abbrev front : List ℕ
  front = start_bytes head ++ head

  abbrev index : List ℕ
  index = index_bytes (option_map shape_of plan.levels) leaves

  abbrev features : List ℕ → List ℕ
  features image = flat_map (bytes_at image) spans

  as_planned : (image : List ℕ) → front ++ index ++ features image ≡ planned_bytes image plan
  as_planned image =
      ap (λ l. start_bytes l ++ l ++ index ++ features image) is_head
      ∙ ap (λ l. start_bytes plan.head.items ++ plan.head.items ++ index_bytes (option_map shape_of plan.levels) l ++ features image) are_leaves
      ∙ ap (λ l. start_bytes plan.head.items ++ plan.head.items ++ index_bytes (option_map shape_of plan.levels) plan.leaves.items ++ flat_map (bytes_at image) l) are_spans

  pub in_head : AppendsPart a b front → IfTold s (λ image. AppendsPart a b (planned_bytes image plan))
  in_head part image told =
      subst (AppendsPart a b) (as_planned image) (part_longer a b (front ++ index) (features image) (part_longer a b front index part))

  pub in_index : Appends a b front → AppendsPart b c index → IfTold s (λ image. AppendsPart a c (planned_bytes image plan))
  in_index first part image told =
      subst (AppendsPart a c) (as_planned image) (part_longer a c (front ++ index) (features image) (appends_then_part a b c front index first part))

  pub in_features : Appends a b front → Appends b c index → IfTold s (λ image. AppendsPart c d (features image)) → IfTold s (λ image. AppendsPart a d (planned_bytes image plan))
  in_features first second part image told =
      subst (AppendsPart a d) (as_planned image) (appends_then_part a c d (front ++ index) (features image) (appends_appends a b c front index first second) (part image told))

  pub whole : Appends a b front → Appends b c index → IfTold s (λ image. Appends c d (features image)) → IfTold s (λ image. Appends a d (planned_bytes image plan))
  whole first second third image told =
      subst (Appends a d) (as_planned image) (appends_appends a c d (front ++ index) (features image) (appends_appends a b c front index first second) (third image told))
