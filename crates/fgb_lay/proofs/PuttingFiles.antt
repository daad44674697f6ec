-- The parts of a file, put on a page one after another.
use Rattle.std.proofs.Common.{◌≡◌, ◌∙◌, ℕ, List, [], ◌∷◌, ◌++◌, Vec, Global, refl, sym, ap}
use Rattle.std.specs.List.{concat}
use Rattle.std.proofs.lemmas.List.{append-nil}
use Rattle.fgb_outside.specs.Sink.{Sink}
use Rattle.fgb_file.specs.File.{magic}
use Rattle.laid_features.specs.Buffers.{framed}
use Rattle.sink_page.specs.Pages.{Adds, AddsPart}
use Rattle.fgb_lay.specs.Plans.{framed_all, planned_bytes}
use Rattle.fgb_lay.specs.Puts.{Puts}
use Rattle.fgb_lay.specs.declared.planning.Plan.{Plan}
use Rattle.fgb_lay.proofs.Putting.{puts_all, puts_more, puts_none, puts_part}

-- the eight bytes in front of a header's size
abbrev pub mark : List ℕ
mark = magic ++ 1 ∷ []

module _ (plan : Plan) where
  abbrev pub all : List ℕ
  all = planned_bytes plan

  abbrev pub behind_head : List ℕ
  behind_head = concat (framed_all plan.buffers.items)

  abbrev pub behind_mark : List ℕ
  behind_mark = framed plan.head.items ++ behind_head

  parts : all ≡ mark ++ behind_mark
  unfolding planned_bytes
  parts = refl

  module _ (a b : Sink) (p q : List ℕ) where
    pub mark_part : AddsPart a b p q mark → AddsPart a b p q all
    mark_part part = puts_part a a p p all all mark behind_mark (puts_none a p all) parts b q part

    pub mark_put : Adds a b p q mark → Puts a b p q behind_mark all
    mark_put adds = puts_more a a p p all all mark behind_mark (puts_none a p all) parts b q adds

    -- the header, as it is lent
    module _ (puts : Puts a b p q behind_mark all) (head : List ℕ) (lent : head ≡ plan.head.items) (c : Sink) (r : List ℕ) where
      as_lent : behind_mark ≡ framed head ++ behind_head
      as_lent = ap (λ h. framed h ++ behind_head) (sym lent)

      pub head_part : AddsPart b c q r (framed head) → AddsPart a c p r all
      head_part part = puts_part a b p q behind_mark all (framed head) behind_head puts as_lent c r part

      pub head_put : Adds b c q r (framed head) → Puts a c p r behind_head all
      head_put adds = puts_more a b p q behind_mark all (framed head) behind_head puts as_lent c r adds

    -- the features, as they are lent
    module _ (puts : Puts a b p q behind_head all) (buffers : List (Vec ℕ Global)) (lent : buffers ≡ plan.buffers.items) (c : Sink) (r : List ℕ) where
      all_lent : behind_head ≡ concat (framed_all buffers) ++ []
      all_lent = ap (λ bs. concat (framed_all bs)) (sym lent) ∙ sym (append-nil (concat (framed_all buffers)))

      pub features_part : AddsPart b c q r (concat (framed_all buffers)) → AddsPart a c p r all
      features_part part = puts_part a b p q behind_head all (concat (framed_all buffers)) [] puts all_lent c r part

      pub features_put : Adds b c q r (concat (framed_all buffers)) → Adds a c p r all
      features_put adds = puts_all a c p r [] all (puts_more a b p q behind_head all (concat (framed_all buffers)) [] puts all_lent c r adds) refl
