-- What is written of a plan, of a file that was accepted.
use Rattle.std.proofs.Common.{◌≡◌, ℕ, List, length, subst, ◌∙◌}
use Rattle.std.specs.Prelude.{option_map}
use Rattle.level_bounds.specs.Shapes.{shape_of}
use Rattle.fgb_outside.specs.Source.{Source, IfTold}
use Rattle.fgb_outside.specs.Sink.{Sink, Appends, AppendsPart}
use Rattle.fgb_file.specs.File.{IsValid, header_in, nodes_of}
use Rattle.fgb_file.proofs.Passing.{file_sound}
use Rattle.fgb_check.specs.Verdicts.{IsFileOf, IsVerdict}
use Rattle.fgb_check.specs.declared.verdict.Verdict.{Verdict}
use Rattle.fgb_check.specs.declared.verdict.Verdict.TheVariants.{Accepted}
use Rattle.packed_file.specs.Packing.{IsPacking}
use Rattle.fgb_pack.specs.Packs.{Packs, PacksPart, front}
use Rattle.fgb_pack.specs.Plans.{IsPlan, planned_bytes}
use Rattle.fgb_pack.specs.declared.planning.Plan.{Plan}

module _ (image : List ℕ) (pieces : List (List ℕ)) (node_size : ℕ) (plan : Plan) (is : IsPlan image pieces node_size plan) (o o' : Sink) where
  abbrev packing : IsPacking (header_in image) pieces node_size (planned_bytes image plan)
  packing = record { order = is.order; index = option_map shape_of plan.levels; ordered = is.ordered; over = is.over; whole = is.whole }

  -- all of it was written
  pub packs : (features nodes : ℕ) → features ≡ length plan.spans.items → nodes ≡ nodes_of (option_map shape_of plan.levels)
      → Appends o o' (planned_bytes image plan) → Packs image pieces node_size (record { features = features; nodes = nodes; bytes = plan.size }) o o'
  packs features nodes counted named written = record {
    bytes = planned_bytes image plan;
    packing = packing;
    written = written;
    features = counted ∙ is.count;
    nodes = named;
    size = is.size;
  }

  -- or a front of it
  pub packs_part : AppendsPart o o' (planned_bytes image plan) → PacksPart image pieces node_size o o'
  packs_part written = front packing written

-- a file that was accepted breaks no rule
pub accepted_valid : (s : Source) (verdict : Verdict) (features nodes : ℕ) → verdict ≡ Accepted features nodes → IfTold s (λ image. IsVerdict image verdict)
    → IfTold s (λ image. IsValid image)
accepted_valid s verdict features nodes is judged image told =
    let file : IsFileOf image features nodes = subst (IsVerdict image) is (judged image told) in
    file_sound image file.file.file
