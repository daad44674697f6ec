use Rattle.std.proofs.Common.{ℕ, ◌≡◌, ◌+◌, ◌*◌, ◌≤◌, length, sym, subst, ◌∙◌, arith}
use Rattle.std.proofs.lemmas.Result.{err_from_is_err_and}
use Rattle.block_source.specs.Blocks.{block_length}
use Rattle.block_source.proofs.Keeping.{kept_told, lands_at_call, lands_at_put, lands_kept, lands_missed, read_told, room_kept}
use Rattle.block_source.proofs.blocks.Blocks.visit.Goals as goal

pub copy_kept-requires : goal.copy_kept-requires
copy_kept-requires g c = record { room = room_kept (g.S.RangeSource.seen c.args.inner.now) c.args.block c.args.from (length c.args.part.now) c.args.self.now.kept c.requires.sound c.requires.from c.requires.till }

pub returns-then-copy_kept-clause-lands : goal.returns-then-copy_kept-clause-lands
returns-then-copy_kept-clause-lands g c =
    lands_kept (g.S.RangeSource.seen c.args.inner.now) c.args.block c.args.self.now.kept c.copy_kept.new.self.kept tt c.requires.sound (sym c.copy_kept.ensures.found ∙ c.if-copy_kept.true) c.copy_kept.ensures.kept

pub returns-then-copy_kept-clause-bytes : goal.returns-then-copy_kept-clause-bytes
returns-then-copy_kept-clause-bytes g c =
    let len : length c.args.part.now ≡ length c.copy_kept.new.part = omega arith in
    let high = subst (λ (n : ℕ). c.args.from + n ≤ 4096 * c.args.block + block_length (g.S.RangeSource.seen c.args.inner.now).size c.args.block) len c.requires.till in
    kept_told (g.S.RangeSource.seen c.args.inner.now) c.args.block c.args.from c.args.self.now.kept c.copy_kept.new.part c.requires.sound (sym c.copy_kept.ensures.found ∙ c.if-copy_kept.true)
    c.requires.from high c.copy_kept.ensures.bytes

pub returns-in_err-fetch-clause-lands : goal.returns-in_err-fetch-clause-lands
returns-in_err-fetch-clause-lands g c =
    let p = err_from_is_err_and c.from_residual.result c.from_residual.ensures.1 in
    rw (p.1, p.2)
    (lands_at_call (g.S.RangeSource.seen c.args.inner.now) (g.S.RangeSource.seen c.fetch.new.inner) c.args.block c.args.self.now.kept c.copy_kept.new.self.kept c.in_err-fetch.field-0.0 c.requires.sound
    (sym c.copy_kept.ensures.found ∙ c.if-copy_kept.false) c.copy_kept.ensures.kept c.in_err-fetch.ensures.asks)

pub returns-in_err-put-clause-lands : goal.returns-in_err-put-clause-lands
returns-in_err-put-clause-lands g c =
    let p = err_from_is_err_and c.from_residual-in_err-put.result c.from_residual-in_err-put.ensures.1 in
    rw (p.1, p.2)
    (lands_at_put (g.S.RangeSource.seen c.args.inner.now) (g.S.RangeSource.seen c.fetch.new.inner) c.args.block c.args.self.now.kept c.copy_kept.new.self.kept c.put.new.self.kept tt c.requires.sound
    (sym c.copy_kept.ensures.found ∙ c.if-copy_kept.false) c.copy_kept.ensures.kept c.in_err-put.ensures.err c.in_ok-fetch.ensures.asks)

pub returns-clause-lands : goal.returns-clause-lands
returns-clause-lands g c =
    lands_missed (g.S.RangeSource.seen c.args.inner.now) (g.S.RangeSource.seen c.fetch.new.inner) c.args.block c.args.self.now.kept c.copy_kept.new.self.kept c.put.new.self.kept c.fetch.new.buffer tt c.requires.sound
    (sym c.copy_kept.ensures.found ∙ c.if-copy_kept.false) c.copy_kept.ensures.kept c.in_ok-put.ensures.ok c.in_ok-fetch.ensures.bytes c.in_ok-fetch.ensures.asks

pub returns-clause-bytes : goal.returns-clause-bytes
returns-clause-bytes g c =
    let len : length c.args.part.now ≡ length c.copy_part.new.part = omega arith in
    let high = subst (λ (n : ℕ). c.args.from + n ≤ 4096 * c.args.block + block_length (g.S.RangeSource.seen c.args.inner.now).size c.args.block) len c.requires.till in
    read_told (g.S.RangeSource.seen c.args.inner.now) (g.S.RangeSource.seen c.fetch.new.inner) c.args.block c.args.from c.fetch.new.buffer.items c.deref.result.now c.copy_part.new.part
    c.in_ok-fetch.ensures.asks.keeps c.in_ok-fetch.ensures.bytes c.deref.ensures.value c.requires.from high c.copy_part.ensures
