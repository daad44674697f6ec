use Rattle.std.proofs.Common.{◌≡◌, ℕ, ◌+◌, ◌-◌, ◌≤◌, List, length, take, drop, sym, ap, subst, ◌∙◌, arith, Ok}
use Rattle.std.specs.Prelude.{slice_range}
use Rattle.std.proofs.lemmas.List.{drop_at, length-take-le, take-append-le}
use Rattle.byte_links.specs.Link.{Receives}
use Rattle.range_client.specs.Steps.{Takes}
use Rattle.range_client.proofs.Taking.{stops_at_end, takes_one}
use borrow.Rule.Slice.PartMut.{post_of, put_mid}
use Rattle.range_client.proofs.bodies.read_some.Goals as goal

-- the first of the bytes that were written into a part
put_front : (a k n : ℕ) (xs ys : List ℕ) → a ≤ length xs → n ≤ length ys → slice_range (put_mid a k xs ys) a (a + n) ≡ take n ys
put_front a k n xs ys within fits =
    let e : a + n - a ≡ n = omega arith in
    ap (λ m. take m (drop a (put_mid a k xs ys))) e ∙ ap (take n) (drop_at (take a xs) _ a (length-take-le a xs within))
    ∙ take-append-le n ys (post_of a k xs) fits

pub returns-then-count-eq0-clause-stops : goal.returns-then-count-eq0-clause-stops
returns-then-count-eq0-clause-stops g c =
    stops_at_end (g.L.Link.shown c.args.link.now) (g.L.Link.shown c.read.new.self) c.read.new.into
    (subst (λ (n : ℕ). Receives (g.L.Link.shown c.args.link.now) (g.L.Link.shown c.read.new.self) c.read.new.into (Ok n)) c.if-count-eq0.true c.in_ok-count.ensures)

pub returns-clause-takes : goal.returns-clause-takes
returns-clause-takes g c =
    let front : slice_range (put_mid c.args.from (c.args.till - c.args.from) c.args.bytes.now c.read.new.into) c.args.from (c.args.from + c.in_ok-count.count) ≡ take c.in_ok-count.count c.read.new.into =
    put_front c.args.from (c.args.till - c.args.from) c.in_ok-count.count c.args.bytes.now c.read.new.into (omega arith) (omega (arith, c.in_ok-count.ensures.count)) in
    subst (λ (l : List ℕ). Takes (g.L.Link.shown c.args.link.now) (g.L.Link.shown c.read.new.self) l) (sym front)
    (takes_one (g.L.Link.shown c.args.link.now) (g.L.Link.shown c.read.new.self) c.read.new.into c.in_ok-count.count c.in_ok-count.ensures (omega arith))
