use Rattle.std.proofs.Common.{◌≡◌, ℕ, ◌+◌, ◌-◌, ◌≤◌, List, [], ◌∷◌, length, refl, sym, ap, subst, ◌∙◌, arith, Option, Some, None}
use Rattle.std.specs.Prelude.{if◌then◌else◌}
use Rattle.fgb_outside.specs.declared.sources.SourceError.{SourceError}
use Rattle.fgb_outside.specs.Source.{added}
use Rattle.range_client.specs.Requests.{request}
use Rattle.range_client.specs.Client.{ClientState, IsInStep, IsSound}
use Rattle.range_client.proofs.Exchanging.{part_as}
use Rattle.range_client.proofs.Reading.{fails_not, no_failure, noted, reads_at, reads_bytes, reads_in_step, reads_sound, sound_spent}
use Rattle.range_client.proofs.client.RangeClientRangeSource.read_at.Goals as goal

pub invariant_of-self : goal.invariant_of-self
invariant_of-self g c =
    sound_spent (g.L.Link.shown c.self.inside.link) (g.L.Link.shown c.self.inside.link) c.self.inside.speaker.path c.self.inside.size c.self.inside.spent c.settle.new.spent _
    c.self.invariant refl c.settle.ensures.spent

pub invariant_of-self-in-Ok : goal.invariant_of-self-in-Ok
invariant_of-self-in-Ok g c =
    let fits : c.args.at + length c.args.into.now ≤ c.self.inside.size = omega (arith, ap (λ (s : ClientState). s.size) c.self.view_is) in
    let sound = subst (λ (s : Option SourceError). IsSound (g.L.Link.shown c.self.inside.link) c.self.inside.speaker.path c.self.inside.size s) c.in_default.is c.self.invariant in
    subst (λ (p : List ℕ). IsSound (g.L.Link.shown c.ask.new.link) p c.self.inside.size c.self.inside.spent) (sym c.ask.ensures.path)
    (subst (λ (s : Option SourceError). IsSound (g.L.Link.shown c.ask.new.link) c.self.inside.speaker.path c.self.inside.size s) (sym c.in_default.is)
    (reads_sound (g.L.Link.shown c.self.inside.link) (g.L.Link.shown c.ask.new.link) c.self.inside.speaker.path c.ask.new.self.head c.self.inside.size c.args.at (length c.args.into.now)
    sound c.requires.not_empty fits c.ask.new.into c.in-Ok.field-0 c.in-Ok.ensures.ok))

pub invariant_of-self-in-Err : goal.invariant_of-self-in-Err
invariant_of-self-in-Err g c =
    subst (λ (p : List ℕ). IsSound (g.L.Link.shown c.ask.new.link) p c.self.inside.size c.settle-in-Err.new.spent) (sym c.ask.ensures.path)
    (sound_spent (g.L.Link.shown c.self.inside.link) (g.L.Link.shown c.ask.new.link) c.self.inside.speaker.path c.self.inside.size c.self.inside.spent c.settle-in-Err.new.spent _
    c.self.invariant c.in-Err.ensures.err.keeps.image c.settle-in-Err.ensures.spent)

pub returns-in-Ok-clause-reads : goal.returns-in-Ok-clause-reads
returns-in-Ok-clause-reads g c =
    let fits : c.args.at + length c.args.into.now ≤ c.self.inside.size = omega (arith, ap (λ (s : ClientState). s.size) c.self.view_is) in
    let sound = subst (λ (s : Option SourceError). IsSound (g.L.Link.shown c.self.inside.link) c.self.inside.speaker.path c.self.inside.size s) c.in_default.is c.self.invariant in
    let len : length c.ask.new.into ≡ length c.args.into.now = omega arith in
    let list = noted c.note.result c.self.inside.is_told c.note.new.is_told c.self.inside.asked.items c.note.new.asked.items (c.args.at, length c.args.into.now)
    (sym c.is_err.ensures.value ∙ c.if-is_err.false) c.note.ensures.ok c.note.ensures.told in
    rw (← c.self.view_is)
    (reads_at _ _ c.args.at c.ask.new.into c.in-Ok.ensures.ok.keeps.image refl (omega arith)
    (list ∙ ap (λ (n : ℕ). added (if c.self.inside.is_told then Some c.self.inside.asked.items else None) ((c.args.at, n) ∷ [])) (sym len))
    (reads_bytes (g.L.Link.shown c.self.inside.link) (g.L.Link.shown c.ask.new.link) c.self.inside.speaker.path c.ask.new.self.head c.self.inside.size c.args.at (length c.args.into.now)
    sound c.requires.not_empty fits c.ask.new.into c.in-Ok.field-0 len c.in-Ok.ensures.ok))

pub returns-in-Ok-clause-sent : goal.returns-in-Ok-clause-sent
returns-in-Ok-clause-sent g c =
    let len : length c.ask.new.into ≡ length c.args.into.now = omega arith in
    rw (← c.self.view_is)
    (part_as (request c.self.inside.speaker.path c.args.at (c.args.at + (length c.ask.new.into - 1))) (request c.self.inside.speaker.path c.args.at (c.args.at + (length c.args.into.now - 1)))
    (g.L.Link.shown c.self.inside.link) (g.L.Link.shown c.ask.new.link) c.in-Ok.ensures.ok.sent
    (ap (λ (n : ℕ). request c.self.inside.speaker.path c.args.at (c.args.at + (n - 1))) (sym len)))

pub returns-in-Ok-clause-in_step : goal.returns-in-Ok-clause-in_step
returns-in-Ok-clause-in_step g c =
    let fits : c.args.at + length c.args.into.now ≤ c.self.inside.size = omega (arith, ap (λ (s : ClientState). s.size) c.self.view_is) in
    let sound = subst (λ (s : Option SourceError). IsSound (g.L.Link.shown c.self.inside.link) c.self.inside.speaker.path c.self.inside.size s) c.in_default.is c.self.invariant in
    rw (← c.self.view_is) (λ image told asks unspent step. (
      λ few bad. cc,
      reads_in_step (g.L.Link.shown c.self.inside.link) (g.L.Link.shown c.ask.new.link) c.self.inside.speaker.path c.ask.new.self.head c.self.inside.size c.args.at (length c.args.into.now)
          sound c.requires.not_empty fits c.ask.new.into c.in-Ok.field-0 c.in-Ok.ensures.ok image told asks step,
    ))

pub returns-in-Err-clause-in_step : goal.returns-in-Err-clause-in_step
returns-in-Err-clause-in_step g c =
    let fits : c.args.at + length c.args.into.now ≤ c.self.inside.size = omega (arith, ap (λ (s : ClientState). s.size) c.self.view_is) in
    let sound = subst (λ (s : Option SourceError). IsSound (g.L.Link.shown c.self.inside.link) c.self.inside.speaker.path c.self.inside.size s) c.in_default.is c.self.invariant in
    rw (← c.self.view_is) (λ image told asks unspent step.
    fails_not (IsInStep (g.L.Link.shown c.ask.new.link) (asks + 1)) c.settle-in-Err.result c.source_error.result c.in-Err.fault c.settle-in-Err.ensures.same c.source_error.ensures
    (no_failure (g.L.Link.shown c.self.inside.link) (g.L.Link.shown c.ask.new.link) c.self.inside.speaker.path c.ask.new.self.head c.self.inside.size c.args.at (length c.args.into.now)
    sound c.requires.not_empty fits c.in-Err.fault c.in-Err.ensures.err image told asks step))
