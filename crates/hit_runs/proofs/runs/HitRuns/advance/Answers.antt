use Rattle.std.proofs.Common.{◌≡◌, ◌+◌, ◌-◌, length, take, drop, Some, refl, sym, ap, subst, ◌∙◌, arith}
use Rattle.read_stop.proofs.Stopping.{on_err}
use Rattle.std.specs.Prelude.{slice_range}
use Rattle.std.proofs.lemmas.Option.{slice_get-get_or}
use Rattle.fgb_file.specs.File.{size_at, IsFramed}
use Rattle.fgb_header.specs.Views.{header_shown}
use Rattle.hit_runs.specs.Leaves.{IsLeaf, IsAlike, IsDue}
use Rattle.hit_runs.proofs.Refusing.{refused_exit, refused_map, on_err_told}
use Rattle.hit_runs.proofs.Leaves.{buffer_is, due_there, breaks_place, breaks_prefix, breaks_read, lends_there, behind_there}
use Rattle.hit_runs.proofs.Advancing.{at_passed, over_passed, rises_fetched, rises_read, rises_part, rises_none, rises_ended, pays_ended, due_again, turn_is, more_is, later_is, is_again, laid_here, front_part, pays_read, front_read, sound_lent}
use Rattle.hit_runs.proofs.runs.HitRuns.advance.Goals as goal

pub returns-then-self-len-clause-goes : goal.returns-then-self-len-clause-goes
returns-then-self-len-clause-goes g c = let p = c.args.self.now in
    record { over = over_passed c.args.section.now p.window c.pass.new.self p.len c.pass.ensures p.held_whole _ c.requires.goes.over; leaves = c.requires.goes.leaves }

pub returns-then-self-len-clause-rises : goal.returns-then-self-len-clause-rises
returns-then-self-len-clause-rises g c = let p = c.args.self.now in rises_ended c.args.section.now p.window c.pass.new.self p.len _ c.pass.ensures p.held_whole

pub returns-then-self-len-clause-pays : goal.returns-then-self-len-clause-pays
returns-then-self-len-clause-pays g c = λ image told due whole laid owes. pays_ended image c.args.section.now c.args.self.now c.pass.new.self c.pass.ensures due _ _ owes refl refl refl

pub returns-in_err-place-clause-goes : goal.returns-in_err-place-clause-goes
returns-in_err-place-clause-goes g c = let p = c.args.self.now in
    record { over = over_passed c.args.section.now p.window c.pass.new.self p.len c.pass.ensures p.held_whole _ c.requires.goes.over; leaves = c.requires.goes.leaves }

pub returns-in_err-place-clause-refused : goal.returns-in_err-place-clause-refused
returns-in_err-place-clause-refused g c = let p = c.args.self.now in
    refused_exit c.from_residual.result c.in_err-place.field-0.0 _ c.from_residual.ensures.1
    (λ image told t k hit within turn is due.
    let same = c.index-hit.ensures ∙ turn_is p.hits.items p.given hit c.index-hit.result.now (omega (arith, p.in_list, c.if-self-len.false, c.len.ensures)) turn in
    let here : c.at.result ≡ p.window.held.at + p.len = c.at.ensures.value ∙ at_passed c.args.section.now p.window c.pass.new.self p.len c.pass.ensures p.held_whole in
    breaks_place image t c.args.section.now c.index-hit.result.now k within (subst (λ h. IsLeaf image t h k) (sym same) is) c.in_err-place.field-0.0 c.at.result (subst (IsDue image t k) (sym here) due) c.in_err-place.ensures.refused)

pub returns-in_err-place-clause-again : goal.returns-in_err-place-clause-again
returns-in_err-place-clause-again g c = let p = c.args.self.now in
    is_again c.from_residual.result c.args.section.now p _ (g.S.RangeSource.seen c.args.source.now) (omega (arith, p.in_list, c.if-self-len.false, c.len.ensures)) refl
    (λ image told t k hit within turn is due.
    let here : c.pass.new.self.held.at + 0 ≡ p.window.held.at + p.len = omega (arith, at_passed c.args.section.now p.window c.pass.new.self p.len c.pass.ensures p.held_whole) in
    subst (IsDue image t k) (sym here) due)

pub returns-in_err-place-clause-rises_part : goal.returns-in_err-place-clause-rises_part
returns-in_err-place-clause-rises_part g c = let p = c.args.self.now in
    on_err _ _ (rises_none c.args.section.now p.window _ (omega (arith, c.requires.goes.over.shows.within, c.requires.goes.over.end)))

pub fetch-requires-clause-over : goal.fetch-requires-clause-over
fetch-requires-clause-over g c = let p = c.args.self.now in over_passed c.args.section.now p.window c.pass.new.self p.len c.pass.ensures p.held_whole _ c.requires.goes.over

pub returns-in_err-len-clause-refused : goal.returns-in_err-len-clause-refused
returns-in_err-len-clause-refused g c = let p = c.args.self.now in
    refused_map c.from_residual-in_err-len.result c.in_err-len.field-0.0 _ _ c.from_residual-in_err-len.ensures.1
    (λ broken breaks image told t k hit within turn is due.
    let same = c.index-hit.ensures ∙ turn_is p.hits.items p.given hit c.index-hit.result.now (omega (arith, p.in_list, c.if-self-len.false, c.len.ensures)) turn in
    breaks_prefix image t c.args.section.now c.index-hit.result.now k within (subst (λ h. IsLeaf image t h k) (sym same) is) broken c.in_ok-place.place c.in_ok-place.ensures.there (breaks image told within.end))
    c.in_err-len.ensures.refused

pub returns-in_err-len-clause-again : goal.returns-in_err-len-clause-again
returns-in_err-len-clause-again g c = let p = c.args.self.now in
    is_again c.from_residual-in_err-len.result c.args.section.now p _ (g.S.RangeSource.seen c.args.source.now) (omega (arith, p.in_list, c.if-self-len.false, c.len.ensures)) refl
    (λ image told t k hit within turn is due.
    let same = c.index-hit.ensures ∙ turn_is p.hits.items p.given hit c.index-hit.result.now (omega (arith, p.in_list, c.if-self-len.false, c.len.ensures)) turn in
    let here : c.pass.new.self.held.at ≡ p.window.held.at + p.len = at_passed c.args.section.now p.window c.pass.new.self p.len c.pass.ensures p.held_whole in
    let none : c.fetch.new.window.held.at ≡ c.fetch.new.window.held.at + 0 = omega arith in
    subst (IsDue image t k) none
    (due_again image t k c.pass.new.self.held.at c.fetch.new.window.held.at c.in_ok-place.place c.in_err-len.ensures.stays
    (λ there. due_there image t c.args.section.now c.index-hit.result.now k within (subst (λ h. IsLeaf image t h k) (sym same) is) c.fetch.new.window.held.at (there ∙ c.in_ok-place.ensures.there))
    (subst (IsDue image t k) (sym here) due)))

pub returns-in_err-len-clause-rises_part : goal.returns-in_err-len-clause-rises_part
returns-in_err-len-clause-rises_part g c = let p = c.args.self.now in
    on_err _ _ (rises_part c.args.section.now p.window c.pass.new.self p.len c.pass.ensures p.held_whole _ _ c.in_ok-place.place
    (omega (arith, c.requires.goes.over.shows.within, c.requires.goes.over.end)) (omega (arith, c.in_ok-place.ensures.fits)) c.in_err-len.ensures.part)

pub returns-in_err-len-clause-front : goal.returns-in_err-len-clause-front
returns-in_err-len-clause-front g c = let p = c.args.self.now in
    on_err_told c.from_residual-in_err-len.result (g.S.RangeSource.seen c.args.source.now) _
    (λ image told due whole laid owes.
    let more = more_is p.hits.items c.deref.result.now p.given (length c.deref.result.now - (p.given + 1)) c.index-hit.result.now c.deref.ensures.value (omega (arith, p.in_list, c.if-self-len.false, c.len.ensures)) c.index-hit.ensures (omega (arith, ap length c.deref.ensures.value)) in
    front_part image c.args.section.now p c.pass.new.self c.pass.ensures due c.index-hit.result.now (take (length c.deref.result.now - (p.given + 1)) (drop (p.given + 1) c.deref.result.now)) more laid owes c.in_ok-place.place c.in_ok-place.ensures.there (omega (arith, c.in_ok-place.ensures.onward, c.at.ensures.value))
    (c.in_err-len.ensures.front image told whole (laid_here image c.args.section.now p c.pass.new.self c.pass.ensures due c.index-hit.result.now (take (length c.deref.result.now - (p.given + 1)) (drop (p.given + 1) c.deref.result.now)) more laid owes c.in_ok-place.place c.in_ok-place.ensures.there (omega (arith, c.in_ok-place.ensures.onward, c.at.ensures.value)))))

pub returns-in_err-bounds-clause-refused : goal.returns-in_err-bounds-clause-refused
returns-in_err-bounds-clause-refused g c = let p = c.args.self.now in let r = c.in_ok-len.ensures in
    refused_map c.from_residual-in_err-bounds.result c.in_err-bounds.field-0.0 _ _ c.from_residual-in_err-bounds.ensures.1
    (λ broken refuses image told t k hit within turn is due.
    let same = c.index-hit.ensures ∙ turn_is p.hits.items p.given hit c.index-hit.result.now (omega (arith, p.in_list, c.if-self-len.false, c.len.ensures)) turn in
    let there = c.in_ok-place.ensures.there in
    let framed = r.framed image told within.end in
    breaks_read image t c.args.section.now c.index-hit.result.now k within (subst (λ h. IsLeaf image t h k) (sym same) is) _
    (buffer_is c.fetch.new.window.held (g.S.RangeSource.seen c.args.source.now) (g.S.RangeSource.seen c.fetch.new.source) _ _ c.in_ok-len.len (r.fetches.at ∙ there) c.bytes.ensures.value r.lies.0 r.lies.2 r.fetches.reads.keeps.image r.over.shows image told (framed.1 ∙ ap (λ n. 4 + size_at image n) there))
    (subst (λ n. IsFramed image n) there framed.0) broken _ (ap (λ n. n + 4) there) refuses)
    c.in_err-bounds.ensures.refused

pub returns-in_err-bounds-clause-again : goal.returns-in_err-bounds-clause-again
returns-in_err-bounds-clause-again g c = let p = c.args.self.now in
    is_again c.from_residual-in_err-bounds.result c.args.section.now p _ (g.S.RangeSource.seen c.args.source.now) (omega (arith, p.in_list, c.if-self-len.false, c.len.ensures)) refl
    (λ image told t k hit within turn is due.
    let same = c.index-hit.ensures ∙ turn_is p.hits.items p.given hit c.index-hit.result.now (omega (arith, p.in_list, c.if-self-len.false, c.len.ensures)) turn in
    let there : c.fetch.new.window.held.at + 0 ≡ c.in_ok-place.place = omega (arith, c.in_ok-len.ensures.fetches.at) in
    due_there image t c.args.section.now c.index-hit.result.now k within (subst (λ h. IsLeaf image t h k) (sym same) is) _ (there ∙ c.in_ok-place.ensures.there))

pub returns-in_err-bounds-clause-rises_part : goal.returns-in_err-bounds-clause-rises_part
returns-in_err-bounds-clause-rises_part g c = let p = c.args.self.now in let r = c.in_ok-len.ensures in
    on_err _ _ (rises_read c.args.section.now p.window c.pass.new.self p.len c.pass.ensures p.held_whole _ _ c.in_ok-place.place c.fetch.new.window (omega (arith, r.over.shows.within, r.over.end)) r.fetches)

pub returns-in_err-bounds-clause-front : goal.returns-in_err-bounds-clause-front
returns-in_err-bounds-clause-front g c = let p = c.args.self.now in let r = c.in_ok-len.ensures in
    on_err_told c.from_residual-in_err-bounds.result (g.S.RangeSource.seen c.args.source.now) _
    (λ image told due whole laid owes.
    let more = more_is p.hits.items c.deref.result.now p.given (length c.deref.result.now - (p.given + 1)) c.index-hit.result.now c.deref.ensures.value (omega (arith, p.in_list, c.if-self-len.false, c.len.ensures)) c.index-hit.ensures (omega (arith, ap length c.deref.ensures.value)) in
    let now = laid_here image c.args.section.now p c.pass.new.self c.pass.ensures due c.index-hit.result.now (take (length c.deref.result.now - (p.given + 1)) (drop (p.given + 1) c.deref.result.now)) more laid owes c.in_ok-place.place c.in_ok-place.ensures.there (omega (arith, c.in_ok-place.ensures.onward, c.at.ensures.value)) in
    front_read image c.args.section.now p c.pass.new.self c.pass.ensures due c.index-hit.result.now (take (length c.deref.result.now - (p.given + 1)) (drop (p.given + 1) c.deref.result.now)) more laid owes c.in_ok-place.place c.in_ok-place.ensures.there (omega (arith, c.in_ok-place.ensures.onward, c.at.ensures.value))
    c.fetch.new.window r.fetches (r.near image told whole now) c.in_ok-len.len r.lies.2 (r.framed image told whole).1)

pub returns-clause-comes : goal.returns-clause-comes
returns-clause-comes g c = let p = c.args.self.now in let r = c.in_ok-len.ensures in
    record {
      hit = c.index-hit.result.now;
      turn = slice_get-get_or p.hits.items p.given c.index-hit.result.now (omega (arith, p.in_list, c.if-self-len.false, c.len.ensures)) ∙ ap Some (sym c.index-hit.ensures);
      given = refl;
      some = r.lies.0;
      sound = sound_lent (header_shown c.args.section.now.header.now) c.index-hit.result.now _ _ c.in_ok-len.len c.in_ok-bounds.bounds _ _ c.bytes.ensures.value r.lies.2 r.lies.1 c.in_ok-bounds.ensures.alike;
      lends = λ image told t k within is.
          let there = c.in_ok-place.ensures.there in
          let framed = r.framed image told within.end in
          let size = framed.1 ∙ ap (λ n. 4 + size_at image n) there in
          let held = buffer_is c.fetch.new.window.held (g.S.RangeSource.seen c.args.source.now) (g.S.RangeSource.seen c.fetch.new.source) _ _ c.in_ok-len.len (r.fetches.at ∙ there) refl r.lies.0 r.lies.2 r.fetches.reads.keeps.image r.over.shows image told size in
          let lends = lends_there image t c.args.section.now c.index-hit.result.now k within is _ held (subst (λ n. IsFramed image n) there framed.0) _ (subst (λ b. IsAlike (header_shown c.args.section.now.header.now) c.index-hit.result.now b c.in_ok-bounds.bounds) (ap (λ l. slice_range l 4 c.in_ok-len.len) c.bytes.ensures.value) c.in_ok-bounds.ensures.alike) in
          (lends.0, lends.1, behind_there image t c.args.section.now c.index-hit.result.now k within is _ held (subst (λ n. IsFramed image n) there framed.0) _ (omega (arith, r.fetches.at, there, size)));
    }

pub returns-clause-rises : goal.returns-clause-rises
returns-clause-rises g c = let p = c.args.self.now in
    rises_fetched c.args.section.now p.window c.pass.new.self p.len c.pass.ensures p.held_whole _ _ c.in_ok-place.place c.fetch.new.window c.in_ok-len.ensures.fetches

pub returns-clause-pays : goal.returns-clause-pays
returns-clause-pays g c = λ image told due whole laid owes. let p = c.args.self.now in let r = c.in_ok-len.ensures in
    let more = more_is p.hits.items c.deref.result.now p.given (length c.deref.result.now - (p.given + 1)) c.index-hit.result.now c.deref.ensures.value (omega (arith, p.in_list, c.if-self-len.false, c.len.ensures)) c.index-hit.ensures (omega (arith, ap length c.deref.ensures.value)) in
    let now = laid_here image c.args.section.now p c.pass.new.self c.pass.ensures due c.index-hit.result.now (take (length c.deref.result.now - (p.given + 1)) (drop (p.given + 1) c.deref.result.now)) more laid owes c.in_ok-place.place c.in_ok-place.ensures.there (omega (arith, c.in_ok-place.ensures.onward, c.at.ensures.value)) in
    pays_read image c.args.section.now p c.pass.new.self c.pass.ensures due c.index-hit.result.now (take (length c.deref.result.now - (p.given + 1)) (drop (p.given + 1) c.deref.result.now)) more laid owes c.in_ok-place.place c.in_ok-place.ensures.there (omega (arith, c.in_ok-place.ensures.onward, c.at.ensures.value))
    c.fetch.new.window r.fetches (r.near image told whole now) c.in_ok-len.len r.lies.2 (r.framed image told whole).1 _ refl r.gap refl (later_is p.hits.items c.deref.result.now (p.given + 1) (length c.deref.result.now - (p.given + 1)) c.deref.ensures.value (omega (arith, ap length c.deref.ensures.value)))
