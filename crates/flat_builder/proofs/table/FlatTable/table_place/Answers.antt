use Rattle.std.proofs.Common.{◌≡◌, ◌+◌, ap, ◌∙◌, arith}
use Rattle.std.specs.Int.{next_multiple_of}
use Rattle.flat_builder.specs.Laying.{round_up, table_place, vtable_len}
use Rattle.flat_builder.specs.Fields.{fields_of}
use Rattle.flat_builder.proofs.table.FlatTable.table_place.Goals as goal

pub returns : goal.returns
unfolding table_place round_up
returns c =
    let len : c.vtable_len.result ≡ vtable_len c.args.self.now = c.vtable_len.ensures.value ∙ ap (λ fs. vtable_len (fields_of fs)) c.deref.ensures.value ∙ ap vtable_len c.self.view_is in
    record {
      value = c.next_multiple_of.ensures.value ∙ ap (λ n. next_multiple_of (c.args.cursor + n) 8) len;
      near = omega arith;
      behind = omega arith;
    }
