-- The file that is made is what the packer wrote.
use Rattle.std.proofs.Common.{◌≡◌, ◌∙◌, ℕ, ◌≤◌, List, [], length, Some, Result, Ok, Err, IfOk, IfErr, IsErrOf, refl, ap, subst, arith}
use Rattle.fgb_schema.specs.Headers.{Header}
use Rattle.fgb_schema.specs.Features.{Feature}
use Rattle.fgb_outside.specs.Source.{Rose, added}
use Rattle.fgb_outside.specs.Sink.{Sink}
use Rattle.packed_file.specs.Packing.{in_order}
use Rattle.laid_features.specs.Buffers.{pieces_of}
use Rattle.fgb_pack.specs.declared.done.PackDone.{PackDone}
use Rattle.fgb_pack.specs.declared.done.PackError.{PackError}
use Rattle.fgb_pack.specs.declared.done.PackError.TheVariants.{Refused, SourceFailed, SinkFailed, TooLarge, Memory}
use Rattle.feature_pack.specs.Packs.{LacksPacking, Packs}
use Rattle.feature_pack.specs.Plans.{IsOfFeatures}
use Rattle.grid_features.specs.Grid.{AreGridFrom, grid_header}
use Rattle.make_command.specs.Files.{IsPacked, kept}
use Rattle.make_command.proofs.Sizes.{has_room}

module _ (count start : ℕ) (header : Header) (features lent : List Feature) (is : header ≡ grid_header) (same : lent ≡ features) (grid : AreGridFrom start 0 features) (counted : length features ≡ count) where
  module _ (o : Sink) (bytes : List ℕ) (wants : ℕ) (new : o.written ≡ Some []) where
    grid_packed : (done : PackDone) → Packs grid_header features 16 done o (kept bytes wants) → IsPacked count start bytes done.nodes
    grid_packed done packs =
        let written : Some bytes ≡ Some packs.bytes = packs.written ∙ ap (λ t. added t packs.bytes) new in
        let whole : packs.bytes ≡ bytes = cc written in
        subst (λ b. IsPacked count start b done.nodes) whole (record {
          index = packs.packing.index;
          pieces = in_order (pieces_of features) packs.packing.order;
          file = record { features = features; grid = grid; counted = counted; packing = packs.packing; indexed = refl; ordered = refl };
          sound = packs.sound.file;
          counted = packs.nodes;
        })

    pub packed : (r : Result PackDone PackError) → IfOk r (λ done. Packs header lent 16 done o (kept bytes wants)) → IfOk r (λ done. IsPacked count start bytes done.nodes)
    packed (Ok done) packs = grid_packed done (subst (λ fs. Packs grid_header fs 16 done o (kept bytes wants)) same (subst (λ h. Packs h lent 16 done o (kept bytes wants)) is packs))
    packed (Err error) packs = tt

  pub never_large : length features ≤ 1000000 → LacksPacking header lent 16 → ⊥
  never_large few lacks = has_room start features grid few (subst (λ fs. LacksPacking grid_header fs 16) same (subst (λ h. LacksPacking h lent 16) is lacks))

-- what is left of the errors, where the sink never fails
pub memory_alone : {T : Type 0} (r : Result T PackError) → IfErr r IsOfFeatures → (r ≡ Err TooLarge → ⊥) → (IsErrOf r SinkFailed → Rose 0 0) → IfErr r (λ error. error ≡ Memory)
memory_alone (Ok done) own large failed = tt
memory_alone (Err (Refused broken)) own large failed = absurd own
memory_alone (Err SourceFailed) own large failed = absurd own
memory_alone (Err SinkFailed) own large failed = absurd (omega (arith, failed refl))
memory_alone (Err TooLarge) own large failed = absurd (large refl)
memory_alone (Err Memory) own large failed = refl
