use Rattle.std.proofs.Common.{◌∙◌, sym, subst}
use Rattle.owned_shape.specs.Records.{IsRecord}
use Rattle.owned_shape.proofs.Pushes.{even_grown, room_left, still_record, with_ring, without_ring}
use Rattle.owned_shape.proofs.shape.Shape.push_points.Goals as goal

pub add_ring-requires : goal.add_ring-requires
add_ring-requires c =
    room_left c.self.inside c.args.self.now c.self.view_is c.self.invariant c.args.xy.now c.requires.finite c.type_inv.xy c.requires.known c.requires.bare c.requires.single c.requires.few_points c.requires.few_rings

pub invariant_of-self-then-has_rings : goal.invariant_of-self-then-has_rings
invariant_of-self-then-has_rings c =
    let s = c.self.inside in let later = c.args.xy.now in
    let has = sym c.has_rings.ensures ∙ c.if-has_rings.true in
    record {
      shown = subst IsRecord (sym (with_ring s c.args.self.now c.self.view_is c.self.invariant later c.add_ring.new.xy.items c.in_ok-add_ring.ensures.points has c.add_ring.new.ends.items c.in_ok-add_ring.ensures.end))
          (still_record s c.args.self.now c.self.view_is c.self.invariant later c.requires.finite c.type_inv.xy c.requires.known c.requires.bare c.requires.single c.requires.few_points c.requires.few_rings);
      even = even_grown s c.args.self.now c.self.view_is c.self.invariant later c.add_ring.new.xy.items c.in_ok-add_ring.ensures.points c.requires.pairs;
    }

pub returns-then-has_rings-clause-ok : goal.returns-then-has_rings-clause-ok
returns-then-has_rings-clause-ok c =
    with_ring c.self.inside c.args.self.now c.self.view_is c.self.invariant c.args.xy.now c.add_ring.new.xy.items c.in_ok-add_ring.ensures.points
    (sym c.has_rings.ensures ∙ c.if-has_rings.true) c.add_ring.new.ends.items c.in_ok-add_ring.ensures.end

pub invariant_of-self-2 : goal.invariant_of-self-2
invariant_of-self-2 c =
    let s = c.self.inside in let later = c.args.xy.now in
    let lacks = sym c.has_rings.ensures ∙ c.if-has_rings.false in
    record {
      shown = subst IsRecord (sym (without_ring s c.args.self.now c.self.view_is c.self.invariant later c.extend_from_slice.new.self.items c.in_ok-extend_from_slice.ensures.items lacks))
          (still_record s c.args.self.now c.self.view_is c.self.invariant later c.requires.finite c.type_inv.xy c.requires.known c.requires.bare c.requires.single c.requires.few_points c.requires.few_rings);
      even = even_grown s c.args.self.now c.self.view_is c.self.invariant later c.extend_from_slice.new.self.items c.in_ok-extend_from_slice.ensures.items c.requires.pairs;
    }

pub returns-clause-ok : goal.returns-clause-ok
returns-clause-ok c =
    without_ring c.self.inside c.args.self.now c.self.view_is c.self.invariant c.args.xy.now c.extend_from_slice.new.self.items c.in_ok-extend_from_slice.ensures.items
    (sym c.has_rings.ensures ∙ c.if-has_rings.false)
