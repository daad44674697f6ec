use Rattle.std.proofs.Common.{◌≡◌, ◌+◌, refl, ap, ◌∙◌, arith}
use Rattle.section_window.specs.Window.{Held}
use Rattle.section_window.proofs.Showing.{shows_passed}
use Rattle.read_stop.proofs.Stopping.{on_err}
use Rattle.fgb_reader.proofs.Going.{fetches_pass, fetches_next, part_next, stands_in}
use Rattle.fgb_reader.proofs.pieces.Pieces.advance.Goals as goal

pub returns-then-at-end-clause-fetches : goal.returns-then-at-end-clause-fetches
returns-then-at-end-clause-fetches g c = fetches_pass c.args.self.now _ _ c.args.self.now.held c.pass.ensures refl c.requires

pub next_piece-requires : goal.next_piece-requires
next_piece-requires g c = rw c.pass.ensures (shows_passed c.args.self.now.window _ c.args.self.now.len c.args.self.now.held c.requires)

pub returns-in_err-self-clause-part : goal.returns-in_err-self-clause-part
returns-in_err-self-clause-part g c = let p = c.args.self.now in
    on_err _ _ (part_next p _ c.pass.new.self _ _ p.held p.onward c.pass.ensures c.in_err-self.ensures.kept.1 refl c.in_err-self.ensures.part)

pub returns-clause-goes : goal.returns-clause-goes
returns-clause-goes g c = let p = c.args.self.now in let n = c.in_ok-self.ensures in
    let at : c.pass.new.self.at ≡ p.window.at + p.len = ap (λ (w : Held). w.at) c.pass.ensures in
    let end : c.pass.new.self.end ≡ p.window.end = ap (λ (w : Held). w.end) c.pass.ensures in
    record {
      place = n.kept.0 ∙ at;
      early = omega (arith, at, end, c.at.ensures.value, c.end.ensures.value, c.at.ensures.within, c.if-at-end.false);
      some = n.lies.0;
      stands = λ image told whole. let framed = n.framed image told (end ∙ whole) in
          stands_in _ (g.S.RangeSource.seen c.args.source.now) (g.S.RangeSource.seen c.next_piece.new.source) c.pass.new.self.at n.kept.0 n.fills.reads.keeps.image n.shows n.lies.0 n.lies.1 image told framed.0 framed.1;
    }

pub returns-clause-fetches : goal.returns-clause-fetches
returns-clause-fetches g c = let p = c.args.self.now in let n = c.in_ok-self.ensures in
    fetches_next p _ c.pass.new.self _ _ p.held p.onward c.pass.ensures n.kept.1 refl n.shows n.fills
