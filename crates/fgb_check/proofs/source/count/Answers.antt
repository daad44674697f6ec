use Rattle.std.proofs.Common.{◌+◌, Some, sym, ap, ◌∙◌}
use Rattle.level_bounds.specs.Shapes.{shape_of}
use Rattle.fgb_outside.proofs.Shown.{keeps_trans}
use Rattle.read_stop.proofs.Asking.{asks_then, front_only}
use Rattle.read_stop.proofs.Stopping.{on_err}
use Rattle.fgb_reader.proofs.Whole.{whole_front, front_of_start, front_of_header, front_behind, front_in_features, asks_all}
use Rattle.fgb_check.proofs.Declared.{AsksFrontUnindexed, asks_declared, not_unindexed, unindexed_front}
use Rattle.fgb_check.proofs.source.count.Goals as goal

pub returns-in_err-len-clause-declared : goal.returns-in_err-len-clause-declared
returns-in_err-len-clause-declared g c = λ image told. front_only (front_of_start image _ _ c.size-size.result (c.size-size.ensures.image image told) c.in_err-len.ensures.front)

pub returns-in_err-len-clause-front : goal.returns-in_err-len-clause-front
returns-in_err-len-clause-front g c = unindexed_front c.from_residual.result (g.S.RangeSource.seen c.args.source.now) (g.S.RangeSource.seen c.read_start.new.file) (λ image told. front_of_start image _ _ c.size-size.result (c.size-size.ensures.image image told) c.in_err-len.ensures.front)

pub returns-in_err-buffer-clause-declared : goal.returns-in_err-buffer-clause-declared
returns-in_err-buffer-clause-declared g c = λ image told. let start = c.in_ok-len.ensures.start image told in
    front_only (front_of_header image c.size-size.result c.in_ok-len.len (c.size-size.ensures.image image told) start.0 start.1 c.in_ok-len.ensures.reads c.in_err-buffer.ensures.front)

pub returns-in_err-buffer-clause-front : goal.returns-in_err-buffer-clause-front
returns-in_err-buffer-clause-front g c = unindexed_front c.from_residual-in_err-buffer.result (g.S.RangeSource.seen c.args.source.now) (g.S.RangeSource.seen c.read_header.new.file) (λ image told. let start = c.in_ok-len.ensures.start image told in
    front_of_header image c.size-size.result c.in_ok-len.len (c.size-size.ensures.image image told) start.0 start.1 c.in_ok-len.ensures.reads c.in_err-buffer.ensures.front)

pub returns-in_err-header-clause-declared : goal.returns-in_err-header-clause-declared
returns-in_err-header-clause-declared g c = λ image told. let start = c.in_ok-len.ensures.start image told in let read = c.in_ok-buffer.ensures in
    front_only (front_behind image c.size-size.result c.in_ok-len.len (c.size-size.ensures.image image told) start.0 start.1 c.in_ok-len.ensures.reads read.reads)

pub returns-in_err-header-clause-front : goal.returns-in_err-header-clause-front
returns-in_err-header-clause-front g c = unindexed_front c.from_residual-in_err-header.result (g.S.RangeSource.seen c.args.source.now) (g.S.RangeSource.seen c.read_header.new.file) (λ image told. let start = c.in_ok-len.ensures.start image told in let read = c.in_ok-buffer.ensures in
    front_behind image c.size-size.result c.in_ok-len.len (c.size-size.ensures.image image told) start.0 start.1 c.in_ok-len.ensures.reads read.reads)

pub returns-in_err-levels-clause-declared : goal.returns-in_err-levels-clause-declared
returns-in_err-levels-clause-declared g c = λ image told. let start = c.in_ok-len.ensures.start image told in let read = c.in_ok-buffer.ensures in
    front_only (front_behind image c.size-size.result c.in_ok-len.len (c.size-size.ensures.image image told) start.0 start.1 c.in_ok-len.ensures.reads read.reads)

pub returns-in_err-levels-clause-front : goal.returns-in_err-levels-clause-front
returns-in_err-levels-clause-front g c = unindexed_front c.from_residual-in_err-levels.result (g.S.RangeSource.seen c.args.source.now) (g.S.RangeSource.seen c.read_header.new.file) (λ image told. let start = c.in_ok-len.ensures.start image told in let read = c.in_ok-buffer.ensures in
    front_behind image c.size-size.result c.in_ok-len.len (c.size-size.ensures.image image told) start.0 start.1 c.in_ok-len.ensures.reads read.reads)

pub count_indexed-requires-clause-opened : goal.count_indexed-requires-clause-opened
count_indexed-requires-clause-opened g c = λ image told. let read = c.in_ok-buffer.ensures in let at_start = sym read.reads.keeps.image ∙ told in let told_first = sym c.in_ok-len.ensures.reads.keeps.image ∙ at_start in
    let start = c.in_ok-len.ensures.start image told_first in
    let header = c.in_ok-header.ensures.judged image start.0 (c.deref.ensures.value ∙ read.bytes image at_start start.1) in
    let opened = rw c.in-Some.is at (c.in_ok-levels.ensures.judged image header.0 header.1 (ap (λ n. 12 + n) start.1) (sym (c.size-size.ensures.image image told_first))) in
    (opened, header.1, ap (λ n. 12 + n) start.1)

pub count_features-requires-clause-opened : goal.count_features-requires-clause-opened
count_features-requires-clause-opened g c = λ image told. let read = c.in_ok-buffer.ensures in let at_start = sym read.reads.keeps.image ∙ told in let told_first = sym c.in_ok-len.ensures.reads.keeps.image ∙ at_start in
    let start = c.in_ok-len.ensures.start image told_first in
    let header = c.in_ok-header.ensures.judged image start.0 (c.deref.ensures.value ∙ read.bytes image at_start start.1) in
    let opened = rw c.in-None.is at (c.in_ok-levels.ensures.judged image header.0 header.1 (ap (λ n. 12 + n) start.1) (sym (c.size-size.ensures.image image told_first))) in
    record { opened = opened; nodes = tt; shown = header.1; begins = ap (λ n. 12 + n) start.1 }

pub returns-in_err-features-in-Some-clause-declared : goal.returns-in_err-features-in-Some-clause-declared
returns-in_err-features-in-Some-clause-declared g c = λ image told. let read = c.in_ok-buffer.ensures in
    let start = c.in_ok-len.ensures.start image told in
    let header = c.in_ok-header.ensures.judged image start.0 (c.deref.ensures.value ∙ read.bytes image (c.in_ok-len.ensures.reads.keeps.image ∙ told) start.1) in
    let opened = rw c.in-Some.is at (c.in_ok-levels.ensures.judged image header.0 header.1 (ap (λ n. 12 + n) start.1) (sym (c.size-size.ensures.image image told))) in
    asks_then (front_only (front_behind image c.size-size.result c.in_ok-len.len (c.size-size.ensures.image image told) start.0 start.1 c.in_ok-len.ensures.reads read.reads)) (asks_declared image _ opened _ _ (ap (λ n. 12 + n) start.1) (c.size-size.ensures.image image told) c.in_err-features-in-Some.ensures.asked)

pub returns-in_err-features-in-Some-clause-front : goal.returns-in_err-features-in-Some-clause-front
returns-in_err-features-in-Some-clause-front g c = on_err c.from_residual-in_err-features-in-Some.result (AsksFrontUnindexed (g.S.RangeSource.seen c.args.source.now) (g.S.RangeSource.seen c.count_indexed.new.source)) (λ image told none. let read = c.in_ok-buffer.ensures in
    let start = c.in_ok-len.ensures.start image told in
    let header = c.in_ok-header.ensures.judged image start.0 (c.deref.ensures.value ∙ read.bytes image (c.in_ok-len.ensures.reads.keeps.image ∙ told) start.1) in
    let opened = rw c.in-Some.is at (c.in_ok-levels.ensures.judged image header.0 header.1 (ap (λ n. 12 + n) start.1) (sym (c.size-size.ensures.image image told))) in
    absurd (none _ opened))

pub returns-in-Some-clause-file : goal.returns-in-Some-clause-file
returns-in-Some-clause-file g c = λ image told. record {
  index = Some (shape_of c.in-Some.levels);
  file = c.in_ok-features-in-Some.ensures.file image (c.in_ok-buffer.ensures.reads.keeps.image ∙ c.in_ok-len.ensures.reads.keeps.image ∙ told);
  nodes_counted = c.nodes.ensures.nodes;
}

pub returns-in-Some-clause-declared : goal.returns-in-Some-clause-declared
returns-in-Some-clause-declared g c = λ image told. let read = c.in_ok-buffer.ensures in
    let start = c.in_ok-len.ensures.start image told in
    let header = c.in_ok-header.ensures.judged image start.0 (c.deref.ensures.value ∙ read.bytes image (c.in_ok-len.ensures.reads.keeps.image ∙ told) start.1) in
    let opened = rw c.in-Some.is at (c.in_ok-levels.ensures.judged image header.0 header.1 (ap (λ n. 12 + n) start.1) (sym (c.size-size.ensures.image image told))) in
    asks_then (front_only (front_behind image c.size-size.result c.in_ok-len.len (c.size-size.ensures.image image told) start.0 start.1 c.in_ok-len.ensures.reads read.reads)) (asks_declared image _ opened _ _ (ap (λ n. 12 + n) start.1) (c.size-size.ensures.image image told) c.in_ok-features-in-Some.ensures.asked)

pub returns-in-Some-clause-asked : goal.returns-in-Some-clause-asked
returns-in-Some-clause-asked g c = λ image told unindexed. let read = c.in_ok-buffer.ensures in
    let start = c.in_ok-len.ensures.start image told in
    let header = c.in_ok-header.ensures.judged image start.0 (c.deref.ensures.value ∙ read.bytes image (c.in_ok-len.ensures.reads.keeps.image ∙ told) start.1) in
    let opened = rw c.in-Some.is at (c.in_ok-levels.ensures.judged image header.0 header.1 (ap (λ n. 12 + n) start.1) (sym (c.size-size.ensures.image image told))) in
    absurd (not_unindexed image _ opened unindexed)

pub returns-in_err-features-in-None-clause-declared : goal.returns-in_err-features-in-None-clause-declared
returns-in_err-features-in-None-clause-declared g c = λ image told. let read = c.in_ok-buffer.ensures in
    let start = c.in_ok-len.ensures.start image told in
    let header = c.in_ok-header.ensures.judged image start.0 (c.deref.ensures.value ∙ read.bytes image (c.in_ok-len.ensures.reads.keeps.image ∙ told) start.1) in
    let opened = rw c.in-None.is at (c.in_ok-levels.ensures.judged image header.0 header.1 (ap (λ n. 12 + n) start.1) (sym (c.size-size.ensures.image image told))) in
    front_only (front_in_features image c.size-size.result c.in_ok-len.len (c.size-size.ensures.image image told) start.0 start.1 opened c.in_ok-len.ensures.reads read.reads c.in_err-features-in-None.ensures.front)

pub returns-in_err-features-in-None-clause-front : goal.returns-in_err-features-in-None-clause-front
returns-in_err-features-in-None-clause-front g c = unindexed_front c.from_residual-in_err-features-in-None.result (g.S.RangeSource.seen c.args.source.now) (g.S.RangeSource.seen c.count_features.new.source) (λ image told. let read = c.in_ok-buffer.ensures in
    let start = c.in_ok-len.ensures.start image told in
    let header = c.in_ok-header.ensures.judged image start.0 (c.deref.ensures.value ∙ read.bytes image (c.in_ok-len.ensures.reads.keeps.image ∙ told) start.1) in
    let opened = rw c.in-None.is at (c.in_ok-levels.ensures.judged image header.0 header.1 (ap (λ n. 12 + n) start.1) (sym (c.size-size.ensures.image image told))) in
    front_in_features image c.size-size.result c.in_ok-len.len (c.size-size.ensures.image image told) start.0 start.1 opened c.in_ok-len.ensures.reads read.reads c.in_err-features-in-None.ensures.front)

pub returns-clause-declared : goal.returns-clause-declared
returns-clause-declared g c = λ image told. let read = c.in_ok-buffer.ensures in
    let start = c.in_ok-len.ensures.start image told in
    let header = c.in_ok-header.ensures.judged image start.0 (c.deref.ensures.value ∙ read.bytes image (c.in_ok-len.ensures.reads.keeps.image ∙ told) start.1) in
    let opened = rw c.in-None.is at (c.in_ok-levels.ensures.judged image header.0 header.1 (ap (λ n. 12 + n) start.1) (sym (c.size-size.ensures.image image told))) in
    front_only (front_in_features image c.size-size.result c.in_ok-len.len (c.size-size.ensures.image image told) start.0 start.1 opened c.in_ok-len.ensures.reads read.reads (whole_front _ c.in_ok-features-in-None.ensures.reads))

pub returns-clause-asked : goal.returns-clause-asked
returns-clause-asked g c = λ image told unindexed. let read = c.in_ok-buffer.ensures in
    let start = c.in_ok-len.ensures.start image told in
    asks_all image c.size-size.result c.in_ok-len.len (c.size-size.ensures.image image told) start.0 start.1 unindexed c.in_ok-len.ensures.reads c.in_ok-len.ensures.few read.reads read.few c.in_ok-features-in-None.ensures.reads c.in_ok-features-in-None.ensures.few

pub returns-in_err-len-clause-keeps : goal.returns-in_err-len-clause-keeps
returns-in_err-len-clause-keeps g c = c.in_err-len.ensures.front.keeps

pub returns-in_err-buffer-clause-keeps : goal.returns-in_err-buffer-clause-keeps
returns-in_err-buffer-clause-keeps g c = keeps_trans c.in_ok-len.ensures.reads.keeps c.in_err-buffer.ensures.front.keeps

pub returns-in_err-header-clause-keeps : goal.returns-in_err-header-clause-keeps
returns-in_err-header-clause-keeps g c = keeps_trans c.in_ok-len.ensures.reads.keeps c.in_ok-buffer.ensures.reads.keeps

pub returns-in_err-levels-clause-keeps : goal.returns-in_err-levels-clause-keeps
returns-in_err-levels-clause-keeps g c = keeps_trans c.in_ok-len.ensures.reads.keeps c.in_ok-buffer.ensures.reads.keeps

pub returns-in_err-features-in-Some-clause-keeps : goal.returns-in_err-features-in-Some-clause-keeps
returns-in_err-features-in-Some-clause-keeps g c = keeps_trans (keeps_trans c.in_ok-len.ensures.reads.keeps c.in_ok-buffer.ensures.reads.keeps) c.in_err-features-in-Some.ensures.asked.keeps

pub returns-in-Some-clause-keeps : goal.returns-in-Some-clause-keeps
returns-in-Some-clause-keeps g c = keeps_trans (keeps_trans c.in_ok-len.ensures.reads.keeps c.in_ok-buffer.ensures.reads.keeps) c.in_ok-features-in-Some.ensures.asked.keeps

pub returns-in_err-features-in-None-clause-keeps : goal.returns-in_err-features-in-None-clause-keeps
returns-in_err-features-in-None-clause-keeps g c = keeps_trans (keeps_trans c.in_ok-len.ensures.reads.keeps c.in_ok-buffer.ensures.reads.keeps) c.in_err-features-in-None.ensures.front.keeps

pub returns-clause-keeps : goal.returns-clause-keeps
returns-clause-keeps g c = keeps_trans (keeps_trans c.in_ok-len.ensures.reads.keeps c.in_ok-buffer.ensures.reads.keeps) c.in_ok-features-in-None.ensures.reads.keeps
