use Rattle.std.proofs.Common.{◌++◌}
use Rattle.fgb_outside.specs.Sink.{Appends}
use Rattle.packed_file.specs.Packing.{start_bytes}
use Rattle.fgb_pack.proofs.Writing.{both, in_first, in_second, on_ok_map}
use Rattle.feature_pack.proofs.writing.write_head.Goals as goal

pub returns-in_err-write-clause-part : goal.returns-in_err-write-clause-part
returns-in_err-write-clause-part g c =
    let head = c.args.head.now in
    in_first (g.W.Sink.shown c.args.out.now) (g.W.Sink.shown c.write.new.self) (g.W.Sink.shown c.write.new.self) c.start.result (start_bytes head) head c.start.ensures c.write.ensures.part

pub returns-clause-whole : goal.returns-clause-whole
returns-clause-whole g c =
    let head = c.args.head.now in
    on_ok_map c.write-2.result (Appends (g.W.Sink.shown c.write.new.self) (g.W.Sink.shown c.write-2.new.self) head)
    (Appends (g.W.Sink.shown c.args.out.now) (g.W.Sink.shown c.write-2.new.self) (start_bytes head ++ head))
    (both (g.W.Sink.shown c.args.out.now) (g.W.Sink.shown c.write.new.self) (g.W.Sink.shown c.write-2.new.self) c.start.result (start_bytes head) head c.start.ensures c.in_ok-write.ensures.written)
    c.write-2.ensures.written

pub returns-clause-part : goal.returns-clause-part
returns-clause-part g c =
    let head = c.args.head.now in
    in_second (g.W.Sink.shown c.args.out.now) (g.W.Sink.shown c.write.new.self) (g.W.Sink.shown c.write-2.new.self) c.start.result (start_bytes head) head c.start.ensures
    c.in_ok-write.ensures.written c.write-2.ensures.part
