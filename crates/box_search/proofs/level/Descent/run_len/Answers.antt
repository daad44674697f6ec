use Rattle.std.proofs.Common.{◌≡◌, ℕ, ◌+◌, ◌-◌, ◌<◌, true, false, length, take, get_or, sym, subst, ◌∙◌, arith}
use Rattle.level_bounds.specs.Levels.{width}
use Rattle.level_bounds.specs.Shapes.{shape_of}
use Rattle.box_search.specs.Runs.{AreNear, is_near}
use Rattle.box_search.proofs.Lists.{blank, length_nums, near_more, near_one, node_there, number_is, nums, rise_on, take_nums}
use Rattle.box_search.proofs.level.Descent.run_len.Goals as goal

pub loop-i-init : goal.loop-i-init
loop-i-init c = let t = shape_of c.args.self.now.levels.now in let k = c.args.k in let nodes = c.args.nodes.now in
    (omega arith, omega (arith, c.requires.some), subst (AreNear t k c.args.self.now.gap) (take_nums nodes 1) (near_one t k c.args.self.now.gap (nums nodes)))

pub is_near-requires-clause-first : goal.is_near-requires-clause-first
is_near-requires-clause-first c = let t = shape_of c.args.self.now.levels.now in
    node_there t c.args.k c.requires.rise.0 c.args.nodes.now (c.loop-i.i - 1) blank c.requires.level c.requires.rise.1 (omega (arith, c.loop-i-test.true))

pub is_near-requires-clause-second : goal.is_near-requires-clause-second
is_near-requires-clause-second c = let t = shape_of c.args.self.now.levels.now in
    node_there t c.args.k c.requires.rise.0 c.args.nodes.now c.loop-i.i blank c.requires.level c.requires.rise.1 c.loop-i-test.true

pub is_near-requires-clause-order : goal.is_near-requires-clause-order
is_near-requires-clause-order c = let t = shape_of c.args.self.now.levels.now in let nodes = c.args.nodes.now in let i = c.loop-i.i in
    let len = length_nums nodes in
    let next : i - 1 + 1 ≡ i = omega (arith, c.loop-i.invariant.0) in
    let order : get_or (nums nodes) (i - 1) 0 < get_or (nums nodes) i 0 =
    subst (λ n. get_or (nums nodes) (i - 1) 0 < get_or (nums nodes) n 0) next
    (rise_on c.requires.rise.0 (width t (c.args.k + 1)) (nums nodes) (i - 1) c.requires.rise.1 (omega (arith, len, next, c.loop-i-test.true))) in
    omega (arith, number_is nodes (i - 1) blank (omega (arith, c.loop-i-test.true)), number_is nodes i blank c.loop-i-test.true, order)

pub loop-i-preserved : goal.loop-i-preserved
loop-i-preserved c = let t = shape_of c.args.self.now.levels.now in let k = c.args.k in let nodes = c.args.nodes.now in let i = c.loop-i.i in let inv = c.loop-i.invariant in
    let gap = c.args.self.now.gap in
    let len = length_nums nodes in
    let yes : c.is_near.result ≡ true = cc in
    let near : is_near t k gap (get_or nodes (i - 1) blank).number (get_or nodes i blank).number ≡ true = sym c.is_near.ensures ∙ yes in
    let first = number_is nodes (i - 1) blank (omega (arith, c.loop-i-test.true)) in
    let second = number_is nodes i blank c.loop-i-test.true in
    let told : is_near t k gap (get_or (nums nodes) (i - 1) 0) (get_or (nums nodes) i 0) ≡ true =
    subst (λ n. is_near t k gap (get_or (nums nodes) (i - 1) 0) n ≡ true) second (subst (λ n. is_near t k gap n (get_or nodes i blank).number ≡ true) first near) in (
      omega arith,
      omega (arith, c.loop-i-test.true),
      subst (AreNear t k gap) (take_nums nodes (i + 1)) (near_more t k gap (nums nodes) i inv.0 (omega (arith, len, c.loop-i-test.true)) (subst (AreNear t k gap) (sym (take_nums nodes i)) inv.2) told),
    )

pub returns-then-not-is_near-clause-all : goal.returns-then-not-is_near-clause-all
returns-then-not-is_near-clause-all c = λ under. let t = shape_of c.args.self.now.levels.now in let k = c.args.k in let nodes = c.args.nodes.now in let i = c.loop-i.i in
    let gap = c.args.self.now.gap in
    let no : c.is_near.result ≡ false = cc in
    let far : is_near t k gap (get_or nodes (i - 1) blank).number (get_or nodes i blank).number ≡ false = sym c.is_near.ensures ∙ no in
    let first = number_is nodes (i - 1) blank (omega (arith, c.loop-i-test.true)) in
    let second = number_is nodes i blank c.loop-i-test.true in
    subst (λ n. is_near t k gap (get_or (nums nodes) (i - 1) 0) n ≡ false) second (subst (λ n. is_near t k gap n (get_or nodes i blank).number ≡ false) first far)
