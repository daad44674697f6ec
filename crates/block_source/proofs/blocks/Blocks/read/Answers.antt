use Rattle.std.proofs.Common.{◌≡◌, ℕ, ◌+◌, ◌-◌, ◌*◌, ◌/◌, ◌<◌, ◌≤◌, min, length, refl, sym, ap, ◌∙◌, arith}
use Rattle.std.proofs.lemmas.Result.{err_from_is_err_and}
use Rattle.block_source.specs.Blocks.{block_length}
use Rattle.block_source.proofs.Reading.{is_part, read_all, read_bytes, read_more, read_nothing, read_stopped}
use Rattle.block_source.proofs.blocks.Blocks.read.Goals as goal

pub loop-block-init : goal.loop-block-init
loop-block-init g c = read_nothing (g.S.RangeSource.seen c.args.inner.now) c.args.self.now.kept c.args.at (c.args.at + length c.args.into.now) c.args.into.now c.requires.sound (omega arith)

pub visit_part-requires : goal.visit_part-requires
visit_part-requires g c =
    let same : c.size-size.result ≡ (g.S.RangeSource.seen c.loop-block.inner).size = c.size-size.ensures.size ∙ sym c.loop-block.invariant.visited.keeps.size in
    let inside : c.args.at + length c.args.into.now ≤ (g.S.RangeSource.seen c.loop-block.inner).size = omega (arith, c.requires.inside, c.loop-block.invariant.visited.keeps.size) in
    let till : c.min-till.result ≡ min (c.args.at + length c.args.into.now) (4096 * c.loop-block.block + block_length (g.S.RangeSource.seen c.loop-block.inner).size c.loop-block.block) =
    c.min-till.ensures ∙ ap (λ (n : ℕ). min (c.args.at + length c.args.into.now) (4096 * c.loop-block.block + n)) (c.block_len.ensures ∙ ap (λ (n : ℕ). block_length n c.loop-block.block) same) in
    let part = is_part c.args.at (length c.args.into.now) (g.S.RangeSource.seen c.loop-block.inner).size (c.args.at + length c.args.into.now) c.loop-block.block c.max-from.result c.min-till.result
    refl inside c.loop-block.invariant.first c.loop-block-test.true c.requires.some c.max-from.ensures till in
    record { sound = c.loop-block.invariant.sound; some = part.some; room = omega (arith, part.room, c.loop-block.auto.into); from = part.low; till = part.high }

pub loop-block-preserved : goal.loop-block-preserved
loop-block-preserved g c =
    let same : c.size-size.result ≡ (g.S.RangeSource.seen c.args.inner.now).size = c.size-size.ensures.size in
    let till : c.min-till.result ≡ min (c.args.at + length c.args.into.now) (4096 * c.loop-block.block + block_length (g.S.RangeSource.seen c.args.inner.now).size c.loop-block.block) =
    c.min-till.ensures ∙ ap (λ (n : ℕ). min (c.args.at + length c.args.into.now) (4096 * c.loop-block.block + n)) (c.block_len.ensures ∙ ap (λ (n : ℕ). block_length n c.loop-block.block) same) in
    let part = is_part c.args.at (length c.args.into.now) (g.S.RangeSource.seen c.args.inner.now).size (c.args.at + length c.args.into.now) c.loop-block.block c.max-from.result c.min-till.result
    refl c.requires.inside c.loop-block.invariant.first c.loop-block-test.true c.requires.some c.max-from.ensures till in
    read_more (g.S.RangeSource.seen c.args.inner.now) (g.S.RangeSource.seen c.loop-block.inner) (g.S.RangeSource.seen c.visit_part.new.inner) c.args.self.now.kept c.loop-block.self.kept c.visit_part.new.self.kept
    c.args.at (c.args.at + length c.args.into.now) c.loop-block.block c.max-from.result c.min-till.result c.loop-block.into c.visit_part.new.into tt
    c.loop-block.invariant c.in_ok-visit_part.ensures.lands part.begins part.ends c.visit_part.ensures.front (omega (arith, part.room, c.loop-block.auto.into, c.visit_part.auto.into)) c.in_ok-visit_part.ensures.bytes

pub returns : goal.returns
returns g c =
    let len : c.args.at + length c.args.into.now ≡ c.args.at + length c.loop-block.into = omega (arith, c.loop-block.auto.into) in
    let some : 0 < length c.loop-block.into = omega (arith, c.loop-block.auto.into, c.requires.some) in
    let last : c.loop-block.block ≡ (c.args.at + length c.args.into.now - 1) / 4096 + 1 = omega arith in
    record {
      lands = read_all (g.S.RangeSource.seen c.args.inner.now) (g.S.RangeSource.seen c.loop-block.inner) c.args.self.now.kept c.loop-block.self.kept c.args.at (length c.loop-block.into)
          (c.args.at + length c.args.into.now) c.loop-block.block c.loop-block.into tt c.loop-block.invariant some len last;
      bytes = read_bytes (g.S.RangeSource.seen c.args.inner.now) (g.S.RangeSource.seen c.loop-block.inner) c.args.self.now.kept c.loop-block.self.kept c.args.at (length c.loop-block.into)
          (c.args.at + length c.args.into.now) c.loop-block.block c.loop-block.into c.loop-block.invariant some len last refl;
    }

pub returns-in_err-visit_part-clause-lands : goal.returns-in_err-visit_part-clause-lands
returns-in_err-visit_part-clause-lands g c =
    let p = err_from_is_err_and c.from_residual.result c.from_residual.ensures.1 in
    let len : c.args.at + length c.args.into.now ≡ c.args.at + length c.visit_part.new.into = omega (arith, c.loop-block.auto.into, c.visit_part.auto.into) in
    let some : 0 < length c.visit_part.new.into = omega (arith, c.loop-block.auto.into, c.visit_part.auto.into, c.requires.some) in
    rw (p.1, p.2)
    (read_stopped (g.S.RangeSource.seen c.args.inner.now) (g.S.RangeSource.seen c.loop-block.inner) (g.S.RangeSource.seen c.visit_part.new.inner) c.args.self.now.kept c.loop-block.self.kept c.visit_part.new.self.kept
    c.args.at (length c.visit_part.new.into) (c.args.at + length c.args.into.now) c.loop-block.block c.loop-block.into c.in_err-visit_part.field-0.0 c.loop-block.invariant c.in_err-visit_part.ensures.lands some len c.loop-block-test.true)
