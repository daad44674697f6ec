use Rattle.std.proofs.Common.{◌≡◌, refl, ap, ◌∙◌}
use Rattle.found_features.specs.Lent.{entry_of}
use Rattle.fgb_reports.proofs.Turns.{fed_in_turn, hands_as}
use Rattle.fgb_reports.proofs.feeding.retain_fed.Goals as goal

pub returns : goal.returns
returns g c = fed_in_turn _ (entry_of c.args.found.now) _ (λ s. s.0.now ≡ c.args.found.now) (λ s t x y stays holds h.
    (hands_as _ (entry_of c.args.found.now) h.shows h.leaves (ap entry_of holds) h.called.met.1, ap (λ b. b.now) h.called.met.0 ∙ holds))
    _ _ _ refl c.retain_mut.ensures.filtered
