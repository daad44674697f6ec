use Rattle.std.proofs.Common.{◌≡◌, ◌+◌, inr, ap, ◌∙◌, arith}
use Rattle.section_window.specs.Window.{ahead}
use Rattle.fgb_file.specs.File.{size_at}
use Rattle.read_stop.proofs.Stopping.{on_err}
use Rattle.hit_runs.specs.Laid.{end_there}
use Rattle.hit_runs.proofs.Ending.{end_in_run}
use Rattle.hit_runs.proofs.Refusing.{refused_exit, on_err_told}
use Rattle.hit_runs.proofs.Fetching.{over_reached, over_stays, part_first, part_read, part_second, fetches_both, front_bytes, near_first, near_both}
use Rattle.hit_runs.proofs.fetch.fetch.Goals as goal

pub returns-in_err-reach-clause-over : goal.returns-in_err-reach-clause-over
returns-in_err-reach-clause-over g c = over_stays c.requires.over c.in_err-reach.ensures.stays c.reach.ensures.shows

pub returns-in_err-reach-clause-part : goal.returns-in_err-reach-clause-part
returns-in_err-reach-clause-part g c =
    on_err _ _ (part_first c.args.section.now c.args.window.now _ c.requires.over c.args.place _ c.until_part-until.result c.args.section.now.end c.until_part-until.ensures.within c.until_part-until.ensures.within c.in_err-reach.ensures.part)

pub returns-in_err-reach-clause-front : goal.returns-in_err-reach-clause-front
returns-in_err-reach-clause-front g c =
    on_err_told c.from_residual.result (g.S.RangeSource.seen c.args.source.now) _ (λ image told whole laid.
    let known = c.until_part-until.ensures.known image laid in
    let far = end_in_run image c.args.section.now.first c.args.gap c.args.hit c.args.later.now laid in
    part_first c.args.section.now c.args.window.now _ c.requires.over c.args.place _ c.until_part-until.result _ c.until_part-until.ensures.within (omega (arith, known, far, c.requires.there)) c.in_err-reach.ensures.part)

pub returns-in_err-size-clause-over : goal.returns-in_err-size-clause-over
returns-in_err-size-clause-over g c = over_reached c.requires.over c.requires.onward c.in_ok-reach.ensures.reaches c.reach.ensures.shows

pub returns-in_err-size-clause-refused : goal.returns-in_err-size-clause-refused
returns-in_err-size-clause-refused g c =
    let r = c.in_ok-reach.ensures in
    refused_exit c.from_residual-in_err-size.result c.in_err-size.field-0.0 _ c.from_residual-in_err-size.ensures.1
    (λ image told whole. c.in_err-size.ensures.judged image (omega (arith, whole, c.requires.fits))
    (λ many. front_bytes c.reach.new.self.held (g.S.RangeSource.seen c.args.source.now) (g.S.RangeSource.seen c.reach.new.source) _ c.args.place r.keeps.image c.bytes.ensures.value r.reaches.at r.reaches.enough r.shows image told))

pub returns-in_err-size-clause-stays : goal.returns-in_err-size-clause-stays
returns-in_err-size-clause-stays g c = on_err _ _ (inr c.in_ok-reach.ensures.reaches.at)

pub returns-in_err-size-clause-part : goal.returns-in_err-size-clause-part
returns-in_err-size-clause-part g c =
    let r = c.in_ok-reach.ensures in
    on_err _ _ (part_read c.args.section.now c.args.window.now _ c.requires.over c.args.place c.reach.new.self _ 4 c.until_part-until.result c.args.section.now.end c.until_part-until.ensures.within
    (omega (arith, r.shows.within, r.reaches.end, c.requires.over.end)) r.reaches)

pub returns-in_err-size-clause-front : goal.returns-in_err-size-clause-front
returns-in_err-size-clause-front g c =
    let r = c.in_ok-reach.ensures.reaches in
    on_err_told c.from_residual-in_err-size.result (g.S.RangeSource.seen c.args.source.now) _ (λ image told whole laid.
    let known = c.until_part-until.ensures.known image laid in
    let far = end_in_run image c.args.section.now.first c.args.gap c.args.hit c.args.later.now laid in
    part_read c.args.section.now c.args.window.now _ c.requires.over c.args.place c.reach.new.self _ 4 c.until_part-until.result _ c.until_part-until.ensures.within
    (near_first (ahead c.args.window.now.held) (ahead c.reach.new.self.held) (c.args.place + 4) c.until_part-until.result _ r.idle r.before known (omega (arith, far, c.requires.there))) r)

pub returns-in_err-reach-2-clause-over : goal.returns-in_err-reach-2-clause-over
returns-in_err-reach-2-clause-over g c = over_stays (over_reached c.requires.over c.requires.onward c.in_ok-reach.ensures.reaches c.reach.ensures.shows) c.in_err-reach-2.ensures.stays c.reach-2.ensures.shows

pub returns-in_err-reach-2-clause-stays : goal.returns-in_err-reach-2-clause-stays
returns-in_err-reach-2-clause-stays g c = on_err _ _ (inr (c.in_err-reach-2.ensures.stays.at ∙ c.in_ok-reach.ensures.reaches.at))

pub returns-in_err-reach-2-clause-part : goal.returns-in_err-reach-2-clause-part
returns-in_err-reach-2-clause-part g c =
    let r = c.in_ok-reach.ensures in
    on_err _ _ (part_second c.args.section.now c.args.window.now _ c.requires.over c.args.place c.reach.new.self _ 4 c.until_part-until.result c.until_part-until.ensures.within c.requires.onward r.reaches
    _ c.until_whole-until.result c.args.section.now.end c.until_whole-until.ensures.within c.until_whole-until.ensures.within (omega (arith, r.shows.within, r.reaches.end, c.requires.over.end)) c.in_err-reach-2.ensures.part)

pub returns-in_err-reach-2-clause-front : goal.returns-in_err-reach-2-clause-front
returns-in_err-reach-2-clause-front g c =
    let f = c.in_ok-reach.ensures in
    let r = f.reaches in
    on_err_told c.from_residual-in_err-reach-2.result (g.S.RangeSource.seen c.args.source.now) _ (λ image told whole laid.
    let known = c.until_part-until.ensures.known image laid in
    let far = end_in_run image c.args.section.now.first c.args.gap c.args.hit c.args.later.now laid in
    let judged = c.in_ok-size.ensures.judged image (omega (arith, whole, c.requires.fits))
    (λ many. front_bytes c.reach.new.self.held (g.S.RangeSource.seen c.args.source.now) (g.S.RangeSource.seen c.reach.new.source) _ c.args.place f.keeps.image c.bytes.ensures.value r.at r.enough f.shows image told) in
    let ends : end_there image c.args.section.now.first c.args.hit ≡ c.args.place + (4 + c.in_ok-size.size) = omega (arith, judged.1, c.requires.there, ap (size_at image) c.requires.there) in
    let later = c.until_whole-until.ensures.known image c.args.hit ends laid in
    part_second c.args.section.now c.args.window.now _ c.requires.over c.args.place c.reach.new.self _ 4 c.until_part-until.result c.until_part-until.ensures.within c.requires.onward r
    _ c.until_whole-until.result _ c.until_whole-until.ensures.within later
    (near_first (ahead c.args.window.now.held) (ahead c.reach.new.self.held) (c.args.place + 4) c.until_part-until.result _ r.idle r.before known (omega (arith, far, c.requires.there))) c.in_err-reach-2.ensures.part)

pub returns-clause-over : goal.returns-clause-over
returns-clause-over g c =
    over_reached (over_reached c.requires.over c.requires.onward c.in_ok-reach.ensures.reaches c.reach.ensures.shows) (omega (arith, c.in_ok-reach.ensures.reaches.at)) c.in_ok-reach-2.ensures.reaches c.reach-2.ensures.shows

pub returns-clause-framed : goal.returns-clause-framed
returns-clause-framed g c = λ image told whole.
    let f = c.in_ok-reach.ensures in
    let judged = c.in_ok-size.ensures.judged image (omega (arith, whole, c.requires.fits))
    (λ many. front_bytes c.reach.new.self.held (g.S.RangeSource.seen c.args.source.now) (g.S.RangeSource.seen c.reach.new.source) _ c.args.place f.keeps.image c.bytes.ensures.value f.reaches.at f.reaches.enough f.shows image told) in
    (judged.0, ap (λ n. 4 + n) judged.1)

pub returns-clause-fetches : goal.returns-clause-fetches
returns-clause-fetches g c =
    fetches_both c.args.section.now c.args.window.now _ c.requires.over c.args.place c.reach.new.self _ 4 c.until_part-until.result c.until_part-until.ensures.within c.requires.onward c.in_ok-reach.ensures.reaches
    c.reach-2.new.self _ _ c.until_whole-until.result c.until_whole-until.ensures.within c.in_ok-reach-2.ensures.reaches

pub returns-clause-near : goal.returns-clause-near
returns-clause-near g c = λ image told whole laid.
    let f = c.in_ok-reach.ensures in
    let r = f.reaches in
    let q = c.in_ok-reach-2.ensures.reaches in
    let known = c.until_part-until.ensures.known image laid in
    let far = end_in_run image c.args.section.now.first c.args.gap c.args.hit c.args.later.now laid in
    let judged = c.in_ok-size.ensures.judged image (omega (arith, whole, c.requires.fits))
    (λ many. front_bytes c.reach.new.self.held (g.S.RangeSource.seen c.args.source.now) (g.S.RangeSource.seen c.reach.new.source) _ c.args.place f.keeps.image c.bytes.ensures.value r.at r.enough f.shows image told) in
    let ends : end_there image c.args.section.now.first c.args.hit ≡ c.args.place + (4 + c.in_ok-size.size) = omega (arith, judged.1, c.requires.there, ap (size_at image) c.requires.there) in
    near_both (ahead c.args.window.now.held) (ahead c.reach.new.self.held) (ahead c.reach-2.new.self.held) (c.args.place + 4) (c.args.place + (4 + c.in_ok-size.size)) c.until_part-until.result c.until_whole-until.result _
    r.idle r.before q.idle q.before known (omega (arith, far, c.requires.there)) (c.until_whole-until.ensures.known image c.args.hit ends laid)
