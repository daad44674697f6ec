use Rattle.std.proofs.Common.{◌+◌, refl, sym, ap, subst, ◌∙◌}
use Rattle.fgb_header.specs.Views.{header_shown}
use Rattle.fgb_reader.proofs.Whole.{whole_front, front_of_start, front_of_header, front_behind, front_in_features, asks_all}
use Rattle.read_stop.proofs.Stopping.{on_err}
use Rattle.read_stop.proofs.Asking.{front_only}
use Rattle.found_features.specs.Visits.{untouched as left_alone, no_start as unbegun, begun}
use Rattle.found_features.proofs.Stopping.{refusal_map}
use Rattle.box_query.specs.Answers.{met, searched, scanned, searched as searched_part, scanned as scanned_part, in_scan}
use Rattle.box_query.specs.Visited.{no_start, untouched}
use Rattle.box_query.proofs.Stops.{stop_exit}
use Rattle.box_query.proofs.Heading.{bytes_shown, start_heads, header_heads, heads, heads_front, is_indexed, is_scan, needed_front, search_front, needed_indexed, needed_indexed_front, search_indexed, needed_unindexed, needed_unindexed_front, not_both}
use Rattle.box_query.proofs.Visiting.{visited, visited_part, visited_refused}
use Rattle.box_query.proofs.source.query.Goals as goal

pub returns-in_err-len-clause-needed_part : goal.returns-in_err-len-clause-needed_part
returns-in_err-len-clause-needed_part g c = on_err c.from_residual.result _ (λ image told. needed_front image _ (c.size-size.ensures.image image told) c.args.boxes.now c.args.gap (start_heads image _ (c.size-size.ensures.image image told) c.in_err-len.ensures.front))

pub returns-in_err-len-clause-search : goal.returns-in_err-len-clause-search
returns-in_err-len-clause-search g c = λ image told. search_front image _ (c.size-size.ensures.image image told) c.args.boxes.now c.args.gap (start_heads image _ (c.size-size.ensures.image image told) c.in_err-len.ensures.front)

pub returns-in_err-len-clause-front : goal.returns-in_err-len-clause-front
returns-in_err-len-clause-front g c = λ image told none. front_of_start image _ _ c.size-size.result (c.size-size.ensures.image image told) c.in_err-len.ensures.front

pub returns-in_err-buffer-clause-needed_part : goal.returns-in_err-buffer-clause-needed_part
returns-in_err-buffer-clause-needed_part g c = on_err c.from_residual-in_err-buffer.result _ (λ image told. let start = c.in_ok-len.ensures.start image told in
    needed_front image c.size-size.result (c.size-size.ensures.image image told) c.args.boxes.now c.args.gap (header_heads image c.size-size.result (c.size-size.ensures.image image told) c.in_ok-len.len start.0 start.1 c.in_ok-len.ensures.reads c.in_err-buffer.ensures.front))

pub returns-in_err-buffer-clause-search : goal.returns-in_err-buffer-clause-search
returns-in_err-buffer-clause-search g c = λ image told. let start = c.in_ok-len.ensures.start image told in
    search_front image c.size-size.result (c.size-size.ensures.image image told) c.args.boxes.now c.args.gap (header_heads image c.size-size.result (c.size-size.ensures.image image told) c.in_ok-len.len start.0 start.1 c.in_ok-len.ensures.reads c.in_err-buffer.ensures.front)

pub returns-in_err-buffer-clause-front : goal.returns-in_err-buffer-clause-front
returns-in_err-buffer-clause-front g c = λ image told none. let start = c.in_ok-len.ensures.start image told in
    front_of_header image c.size-size.result c.in_ok-len.len (c.size-size.ensures.image image told) start.0 start.1 c.in_ok-len.ensures.reads c.in_err-buffer.ensures.front

pub returns-in_err-header-clause-needed_part : goal.returns-in_err-header-clause-needed_part
returns-in_err-header-clause-needed_part g c = on_err c.from_residual-in_err-header.result _ (λ image told. let start = c.in_ok-len.ensures.start image told in
    needed_front image c.size-size.result (c.size-size.ensures.image image told) c.args.boxes.now c.args.gap (heads_front image c.size-size.result (c.size-size.ensures.image image told) c.in_ok-len.len start.0 start.1 c.in_ok-len.ensures.reads c.in_ok-buffer.ensures.reads))

pub returns-in_err-header-clause-front : goal.returns-in_err-header-clause-front
returns-in_err-header-clause-front g c = λ image told none. let start = c.in_ok-len.ensures.start image told in
    front_behind image c.size-size.result c.in_ok-len.len (c.size-size.ensures.image image told) start.0 start.1 c.in_ok-len.ensures.reads c.in_ok-buffer.ensures.reads

pub returns-in_err-levels-clause-needed_part : goal.returns-in_err-levels-clause-needed_part
returns-in_err-levels-clause-needed_part g c = on_err c.from_residual-in_err-levels.result _ (λ image told. let start = c.in_ok-len.ensures.start image told in
    needed_front image c.size-size.result (c.size-size.ensures.image image told) c.args.boxes.now c.args.gap (heads_front image c.size-size.result (c.size-size.ensures.image image told) c.in_ok-len.len start.0 start.1 c.in_ok-len.ensures.reads c.in_ok-buffer.ensures.reads))

pub returns-in_err-levels-clause-front : goal.returns-in_err-levels-clause-front
returns-in_err-levels-clause-front g c = λ image told none. let start = c.in_ok-len.ensures.start image told in
    front_behind image c.size-size.result c.in_ok-len.len (c.size-size.ensures.image image told) start.0 start.1 c.in_ok-len.ensures.reads c.in_ok-buffer.ensures.reads

pub returns-in_err-begin-clause-needed_part : goal.returns-in_err-begin-clause-needed_part
returns-in_err-begin-clause-needed_part g c = on_err c.from_residual-in_err-begin.result _ (λ image told. let start = c.in_ok-len.ensures.start image told in
    needed_front image c.size-size.result (c.size-size.ensures.image image told) c.args.boxes.now c.args.gap (heads_front image c.size-size.result (c.size-size.ensures.image image told) c.in_ok-len.len start.0 start.1 c.in_ok-len.ensures.reads c.in_ok-buffer.ensures.reads))

pub returns-in_err-begin-clause-search : goal.returns-in_err-begin-clause-search
returns-in_err-begin-clause-search g c = λ image told. let start = c.in_ok-len.ensures.start image told in
    search_front image c.size-size.result (c.size-size.ensures.image image told) c.args.boxes.now c.args.gap (heads_front image c.size-size.result (c.size-size.ensures.image image told) c.in_ok-len.len start.0 start.1 c.in_ok-len.ensures.reads c.in_ok-buffer.ensures.reads)

pub returns-in_err-begin-clause-front : goal.returns-in_err-begin-clause-front
returns-in_err-begin-clause-front g c = λ image told none. let start = c.in_ok-len.ensures.start image told in
    front_behind image c.size-size.result c.in_ok-len.len (c.size-size.ensures.image image told) start.0 start.1 c.in_ok-len.ensures.reads c.in_ok-buffer.ensures.reads

pub returns-in_err-begin-clause-part : goal.returns-in_err-begin-clause-part
returns-in_err-begin-clause-part g c = on_err c.from_residual-in_err-begin.result _ (λ image told. let start = c.in_ok-len.ensures.start image told in
    let told_header = c.in_ok-len.ensures.reads.keeps.image ∙ told in
    let header = c.in_ok-header.ensures.judged image start.0 (c.deref.ensures.value ∙ c.in_ok-buffer.ensures.bytes image told_header start.1) in
    let told_rest = c.in_ok-buffer.ensures.reads.keeps.image ∙ told_header in
    let opened = c.in_ok-levels.ensures.judged image header.0 header.1 (ap (λ n. 12 + n) start.1) (sym (c.size-size.ensures.image image told)) in
    let held = c.deref.ensures.value ∙ c.in_ok-buffer.ensures.bytes image told_header start.1 in
    no_start _ opened (subst (λ h. g.V.Visitor.failed_start c.args.visitor.now h c.begin.new.self) (bytes_shown image _ _ c.in_ok-header.ensures.bytes held) c.in_err-begin.ensures.failed)
    (heads image c.size-size.result (c.size-size.ensures.image image told) c.in_ok-len.len start.0 start.1 c.in_ok-len.ensures.reads c.in_ok-buffer.ensures.reads))

pub returns-in_err-found-in-Some-clause-part : goal.returns-in_err-found-in-Some-clause-part
returns-in_err-found-in-Some-clause-part g c = on_err c.from_residual-in_err-found-in-Some.result _ (λ image told. let start = c.in_ok-len.ensures.start image told in
    let told_header = c.in_ok-len.ensures.reads.keeps.image ∙ told in
    let header = c.in_ok-header.ensures.judged image start.0 (c.deref.ensures.value ∙ c.in_ok-buffer.ensures.bytes image told_header start.1) in
    let told_rest = c.in_ok-buffer.ensures.reads.keeps.image ∙ told_header in
    let opened = rw c.in-Some.is at (c.in_ok-levels.ensures.judged image header.0 header.1 (ap (λ n. 12 + n) start.1) (sym (c.size-size.ensures.image image told))) in
    let indexed = is_indexed image c.size-size.result (c.size-size.ensures.image image told) _ (header_shown c.in_ok-header.header) c.in_ok-len.len opened header.1 start.1 in
    visited_part g.V.Visitor.start g.V.Visitor.failed_start g.V.Visitor.step g.V.Visitor.failed_step image c.args.boxes.now (header_shown c.in_ok-header.header) header.1 c.args.visitor.now c.begin.new.self c.search.new.visitor c.in_ok-begin.ensures.started (met image _ c.args.boxes.now) (searched_part opened) (c.in_err-found-in-Some.ensures.part image told_rest indexed))

pub returns-in_err-found-in-Some-clause-needed_part : goal.returns-in_err-found-in-Some-clause-needed_part
returns-in_err-found-in-Some-clause-needed_part g c = on_err c.from_residual-in_err-found-in-Some.result _ (λ image told. let start = c.in_ok-len.ensures.start image told in
    let told_header = c.in_ok-len.ensures.reads.keeps.image ∙ told in
    let header = c.in_ok-header.ensures.judged image start.0 (c.deref.ensures.value ∙ c.in_ok-buffer.ensures.bytes image told_header start.1) in
    let told_rest = c.in_ok-buffer.ensures.reads.keeps.image ∙ told_header in
    let opened = rw c.in-Some.is at (c.in_ok-levels.ensures.judged image header.0 header.1 (ap (λ n. 12 + n) start.1) (sym (c.size-size.ensures.image image told))) in
    let indexed = is_indexed image c.size-size.result (c.size-size.ensures.image image told) _ (header_shown c.in_ok-header.header) c.in_ok-len.len opened header.1 start.1 in
    needed_indexed_front image c.size-size.result (c.size-size.ensures.image image told) c.args.boxes.now c.args.gap _ opened (heads image c.size-size.result (c.size-size.ensures.image image told) c.in_ok-len.len start.0 start.1 c.in_ok-len.ensures.reads c.in_ok-buffer.ensures.reads) (λ pieces file. c.in_err-found-in-Some.ensures.front image told_rest pieces indexed file))

pub returns-in_err-found-in-Some-clause-refused : goal.returns-in_err-found-in-Some-clause-refused
returns-in_err-found-in-Some-clause-refused g c = stop_exit c.from_residual-in_err-found-in-Some.result c.in_err-found-in-Some.field-0.0 _ c.from_residual-in_err-found-in-Some.ensures.1
    (refusal_map c.in_err-found-in-Some.field-0.0 _ _ (λ broken refused image told. let start = c.in_ok-len.ensures.start image told in
    let told_header = c.in_ok-len.ensures.reads.keeps.image ∙ told in
    let header = c.in_ok-header.ensures.judged image start.0 (c.deref.ensures.value ∙ c.in_ok-buffer.ensures.bytes image told_header start.1) in
    let told_rest = c.in_ok-buffer.ensures.reads.keeps.image ∙ told_header in
    let opened = rw c.in-Some.is at (c.in_ok-levels.ensures.judged image header.0 header.1 (ap (λ n. 12 + n) start.1) (sym (c.size-size.ensures.image image told))) in
    let indexed = is_indexed image c.size-size.result (c.size-size.ensures.image image told) _ (header_shown c.in_ok-header.header) c.in_ok-len.len opened header.1 start.1 in
    let found = refused image told_rest indexed in
    visited_refused g.V.Visitor.start g.V.Visitor.failed_start g.V.Visitor.step g.V.Visitor.failed_step image c.args.boxes.now (header_shown c.in_ok-header.header) header.1 c.args.visitor.now c.begin.new.self c.search.new.visitor c.in_ok-begin.ensures.started broken found.0 found.1 found.2) c.in_err-found-in-Some.ensures.refused)

pub returns-in_err-found-in-Some-clause-search : goal.returns-in_err-found-in-Some-clause-search
returns-in_err-found-in-Some-clause-search g c = λ image told. let start = c.in_ok-len.ensures.start image told in
    let told_header = c.in_ok-len.ensures.reads.keeps.image ∙ told in
    let header = c.in_ok-header.ensures.judged image start.0 (c.deref.ensures.value ∙ c.in_ok-buffer.ensures.bytes image told_header start.1) in
    let told_rest = c.in_ok-buffer.ensures.reads.keeps.image ∙ told_header in
    let opened = rw c.in-Some.is at (c.in_ok-levels.ensures.judged image header.0 header.1 (ap (λ n. 12 + n) start.1) (sym (c.size-size.ensures.image image told))) in
    let indexed = is_indexed image c.size-size.result (c.size-size.ensures.image image told) _ (header_shown c.in_ok-header.header) c.in_ok-len.len opened header.1 start.1 in
    search_indexed image c.size-size.result (c.size-size.ensures.image image told) c.args.boxes.now c.args.gap _ opened (heads image c.size-size.result (c.size-size.ensures.image image told) c.in_ok-len.len start.0 start.1 c.in_ok-len.ensures.reads c.in_ok-buffer.ensures.reads) (c.in_err-found-in-Some.ensures.rising image told_rest indexed)

pub returns-in_err-found-in-Some-clause-front : goal.returns-in_err-found-in-Some-clause-front
returns-in_err-found-in-Some-clause-front g c = λ image told none. let start = c.in_ok-len.ensures.start image told in
    let told_header = c.in_ok-len.ensures.reads.keeps.image ∙ told in
    let header = c.in_ok-header.ensures.judged image start.0 (c.deref.ensures.value ∙ c.in_ok-buffer.ensures.bytes image told_header start.1) in
    let told_rest = c.in_ok-buffer.ensures.reads.keeps.image ∙ told_header in
    let opened = rw c.in-Some.is at (c.in_ok-levels.ensures.judged image header.0 header.1 (ap (λ n. 12 + n) start.1) (sym (c.size-size.ensures.image image told))) in
    absurd (none _ opened)

pub returns-in-Some-clause-done : goal.returns-in-Some-clause-done
returns-in-Some-clause-done g c = λ image told. let start = c.in_ok-len.ensures.start image told in
    let told_header = c.in_ok-len.ensures.reads.keeps.image ∙ told in
    let header = c.in_ok-header.ensures.judged image start.0 (c.deref.ensures.value ∙ c.in_ok-buffer.ensures.bytes image told_header start.1) in
    let told_rest = c.in_ok-buffer.ensures.reads.keeps.image ∙ told_header in
    let opened = rw c.in-Some.is at (c.in_ok-levels.ensures.judged image header.0 header.1 (ap (λ n. 12 + n) start.1) (sym (c.size-size.ensures.image image told))) in
    let indexed = is_indexed image c.size-size.result (c.size-size.ensures.image image told) _ (header_shown c.in_ok-header.header) c.in_ok-len.len opened header.1 start.1 in
    let done = c.in_ok-found-in-Some.ensures.done image told_rest indexed in
    visited g.V.Visitor.start g.V.Visitor.failed_start g.V.Visitor.step g.V.Visitor.failed_step image c.args.boxes.now (header_shown c.in_ok-header.header) header.1 c.args.visitor.now c.begin.new.self c.search.new.visitor c.in_ok-begin.ensures.started _ _ (searched done.0) done.1 done.2

pub returns-in-Some-clause-needed : goal.returns-in-Some-clause-needed
returns-in-Some-clause-needed g c = λ image told. let start = c.in_ok-len.ensures.start image told in
    let told_header = c.in_ok-len.ensures.reads.keeps.image ∙ told in
    let header = c.in_ok-header.ensures.judged image start.0 (c.deref.ensures.value ∙ c.in_ok-buffer.ensures.bytes image told_header start.1) in
    let told_rest = c.in_ok-buffer.ensures.reads.keeps.image ∙ told_header in
    let opened = rw c.in-Some.is at (c.in_ok-levels.ensures.judged image header.0 header.1 (ap (λ n. 12 + n) start.1) (sym (c.size-size.ensures.image image told))) in
    let indexed = is_indexed image c.size-size.result (c.size-size.ensures.image image told) _ (header_shown c.in_ok-header.header) c.in_ok-len.len opened header.1 start.1 in
    needed_indexed image c.size-size.result (c.size-size.ensures.image image told) c.args.boxes.now c.args.gap _ opened (heads image c.size-size.result (c.size-size.ensures.image image told) c.in_ok-len.len start.0 start.1 c.in_ok-len.ensures.reads c.in_ok-buffer.ensures.reads) (λ pieces file. c.in_ok-found-in-Some.ensures.reads image told_rest pieces indexed file)

pub returns-in-Some-clause-all : goal.returns-in-Some-clause-all
returns-in-Some-clause-all g c = λ image told unindexed. let start = c.in_ok-len.ensures.start image told in
    let told_header = c.in_ok-len.ensures.reads.keeps.image ∙ told in
    let header = c.in_ok-header.ensures.judged image start.0 (c.deref.ensures.value ∙ c.in_ok-buffer.ensures.bytes image told_header start.1) in
    let told_rest = c.in_ok-buffer.ensures.reads.keeps.image ∙ told_header in
    let opened = rw c.in-Some.is at (c.in_ok-levels.ensures.judged image header.0 header.1 (ap (λ n. 12 + n) start.1) (sym (c.size-size.ensures.image image told))) in
    absurd (not_both image c.size-size.result (c.size-size.ensures.image image told) _ opened unindexed)

pub returns-in-Some-clause-search : goal.returns-in-Some-clause-search
returns-in-Some-clause-search g c = λ image told. let start = c.in_ok-len.ensures.start image told in
    let told_header = c.in_ok-len.ensures.reads.keeps.image ∙ told in
    let header = c.in_ok-header.ensures.judged image start.0 (c.deref.ensures.value ∙ c.in_ok-buffer.ensures.bytes image told_header start.1) in
    let told_rest = c.in_ok-buffer.ensures.reads.keeps.image ∙ told_header in
    let opened = rw c.in-Some.is at (c.in_ok-levels.ensures.judged image header.0 header.1 (ap (λ n. 12 + n) start.1) (sym (c.size-size.ensures.image image told))) in
    let indexed = is_indexed image c.size-size.result (c.size-size.ensures.image image told) _ (header_shown c.in_ok-header.header) c.in_ok-len.len opened header.1 start.1 in
    search_indexed image c.size-size.result (c.size-size.ensures.image image told) c.args.boxes.now c.args.gap _ opened (heads image c.size-size.result (c.size-size.ensures.image image told) c.in_ok-len.len start.0 start.1 c.in_ok-len.ensures.reads c.in_ok-buffer.ensures.reads) (c.in_ok-found-in-Some.ensures.rising image told_rest indexed)

pub returns-in-Some-clause-front : goal.returns-in-Some-clause-front
returns-in-Some-clause-front g c = λ image told none. let start = c.in_ok-len.ensures.start image told in
    let told_header = c.in_ok-len.ensures.reads.keeps.image ∙ told in
    let header = c.in_ok-header.ensures.judged image start.0 (c.deref.ensures.value ∙ c.in_ok-buffer.ensures.bytes image told_header start.1) in
    let told_rest = c.in_ok-buffer.ensures.reads.keeps.image ∙ told_header in
    let opened = rw c.in-Some.is at (c.in_ok-levels.ensures.judged image header.0 header.1 (ap (λ n. 12 + n) start.1) (sym (c.size-size.ensures.image image told))) in
    absurd (none _ opened)

pub returns-in_err-found-in-None-clause-part : goal.returns-in_err-found-in-None-clause-part
returns-in_err-found-in-None-clause-part g c = on_err c.from_residual-in_err-found-in-None.result _ (λ image told. let start = c.in_ok-len.ensures.start image told in
    let told_header = c.in_ok-len.ensures.reads.keeps.image ∙ told in
    let header = c.in_ok-header.ensures.judged image start.0 (c.deref.ensures.value ∙ c.in_ok-buffer.ensures.bytes image told_header start.1) in
    let told_rest = c.in_ok-buffer.ensures.reads.keeps.image ∙ told_header in
    let opened = rw c.in-None.is at (c.in_ok-levels.ensures.judged image header.0 header.1 (ap (λ n. 12 + n) start.1) (sym (c.size-size.ensures.image image told))) in
    let scan_of = is_scan image c.size-size.result (c.size-size.ensures.image image told) (header_shown c.in_ok-header.header) c.in_ok-len.len opened header.1 start.1 in
    let part = c.in_err-found-in-None.ensures.part image told_rest scan_of in
    visited_part g.V.Visitor.start g.V.Visitor.failed_start g.V.Visitor.step g.V.Visitor.failed_step image c.args.boxes.now (header_shown c.in_ok-header.header) header.1 c.args.visitor.now c.begin.new.self c.scan.new.visitor c.in_ok-begin.ensures.started part.0 (scanned_part part.1) part.2)

pub returns-in_err-found-in-None-clause-needed_part : goal.returns-in_err-found-in-None-clause-needed_part
returns-in_err-found-in-None-clause-needed_part g c = on_err c.from_residual-in_err-found-in-None.result _ (λ image told. let start = c.in_ok-len.ensures.start image told in
    let told_header = c.in_ok-len.ensures.reads.keeps.image ∙ told in
    let header = c.in_ok-header.ensures.judged image start.0 (c.deref.ensures.value ∙ c.in_ok-buffer.ensures.bytes image told_header start.1) in
    let told_rest = c.in_ok-buffer.ensures.reads.keeps.image ∙ told_header in
    let opened = rw c.in-None.is at (c.in_ok-levels.ensures.judged image header.0 header.1 (ap (λ n. 12 + n) start.1) (sym (c.size-size.ensures.image image told))) in
    needed_unindexed_front image c.size-size.result (c.size-size.ensures.image image told) c.args.boxes.now c.args.gap opened (front_in_features image c.size-size.result c.in_ok-len.len (c.size-size.ensures.image image told) start.0 start.1 opened c.in_ok-len.ensures.reads c.in_ok-buffer.ensures.reads c.in_err-found-in-None.ensures.front))

pub returns-in_err-found-in-None-clause-refused : goal.returns-in_err-found-in-None-clause-refused
returns-in_err-found-in-None-clause-refused g c = stop_exit c.from_residual-in_err-found-in-None.result c.in_err-found-in-None.field-0.0 _ c.from_residual-in_err-found-in-None.ensures.1
    (refusal_map c.in_err-found-in-None.field-0.0 _ _ (λ broken refused image told. let start = c.in_ok-len.ensures.start image told in
    let told_header = c.in_ok-len.ensures.reads.keeps.image ∙ told in
    let header = c.in_ok-header.ensures.judged image start.0 (c.deref.ensures.value ∙ c.in_ok-buffer.ensures.bytes image told_header start.1) in
    let told_rest = c.in_ok-buffer.ensures.reads.keeps.image ∙ told_header in
    let opened = rw c.in-None.is at (c.in_ok-levels.ensures.judged image header.0 header.1 (ap (λ n. 12 + n) start.1) (sym (c.size-size.ensures.image image told))) in
    let scan_of = is_scan image c.size-size.result (c.size-size.ensures.image image told) (header_shown c.in_ok-header.header) c.in_ok-len.len opened header.1 start.1 in
    let found = refused image told_rest scan_of in
    visited_refused g.V.Visitor.start g.V.Visitor.failed_start g.V.Visitor.step g.V.Visitor.failed_step image c.args.boxes.now (header_shown c.in_ok-header.header) header.1 c.args.visitor.now c.begin.new.self c.scan.new.visitor c.in_ok-begin.ensures.started broken found.0 (in_scan found.1) found.2) c.in_err-found-in-None.ensures.refused)

pub returns-in_err-found-in-None-clause-search : goal.returns-in_err-found-in-None-clause-search
returns-in_err-found-in-None-clause-search g c = λ image told t indexed. let start = c.in_ok-len.ensures.start image told in
    let told_header = c.in_ok-len.ensures.reads.keeps.image ∙ told in
    let header = c.in_ok-header.ensures.judged image start.0 (c.deref.ensures.value ∙ c.in_ok-buffer.ensures.bytes image told_header start.1) in
    let told_rest = c.in_ok-buffer.ensures.reads.keeps.image ∙ told_header in
    let opened = rw c.in-None.is at (c.in_ok-levels.ensures.judged image header.0 header.1 (ap (λ n. 12 + n) start.1) (sym (c.size-size.ensures.image image told))) in
    absurd (not_both image c.size-size.result (c.size-size.ensures.image image told) t indexed opened)

pub returns-in_err-found-in-None-clause-front : goal.returns-in_err-found-in-None-clause-front
returns-in_err-found-in-None-clause-front g c = λ image told none. let start = c.in_ok-len.ensures.start image told in
    let told_header = c.in_ok-len.ensures.reads.keeps.image ∙ told in
    let header = c.in_ok-header.ensures.judged image start.0 (c.deref.ensures.value ∙ c.in_ok-buffer.ensures.bytes image told_header start.1) in
    let told_rest = c.in_ok-buffer.ensures.reads.keeps.image ∙ told_header in
    let opened = rw c.in-None.is at (c.in_ok-levels.ensures.judged image header.0 header.1 (ap (λ n. 12 + n) start.1) (sym (c.size-size.ensures.image image told))) in
    front_in_features image c.size-size.result c.in_ok-len.len (c.size-size.ensures.image image told) start.0 start.1 opened c.in_ok-len.ensures.reads c.in_ok-buffer.ensures.reads c.in_err-found-in-None.ensures.front

pub returns-clause-done : goal.returns-clause-done
returns-clause-done g c = λ image told. let start = c.in_ok-len.ensures.start image told in
    let told_header = c.in_ok-len.ensures.reads.keeps.image ∙ told in
    let header = c.in_ok-header.ensures.judged image start.0 (c.deref.ensures.value ∙ c.in_ok-buffer.ensures.bytes image told_header start.1) in
    let told_rest = c.in_ok-buffer.ensures.reads.keeps.image ∙ told_header in
    let opened = rw c.in-None.is at (c.in_ok-levels.ensures.judged image header.0 header.1 (ap (λ n. 12 + n) start.1) (sym (c.size-size.ensures.image image told))) in
    let scan_of = is_scan image c.size-size.result (c.size-size.ensures.image image told) (header_shown c.in_ok-header.header) c.in_ok-len.len opened header.1 start.1 in
    let done = c.in_ok-found-in-None.ensures.done image told_rest scan_of in
    visited g.V.Visitor.start g.V.Visitor.failed_start g.V.Visitor.step g.V.Visitor.failed_step image c.args.boxes.now (header_shown c.in_ok-header.header) header.1 c.args.visitor.now c.begin.new.self c.scan.new.visitor c.in_ok-begin.ensures.started done.0 _ (scanned done.1) done.2 done.3

pub returns-clause-needed : goal.returns-clause-needed
returns-clause-needed g c = λ image told. let start = c.in_ok-len.ensures.start image told in
    let told_header = c.in_ok-len.ensures.reads.keeps.image ∙ told in
    let header = c.in_ok-header.ensures.judged image start.0 (c.deref.ensures.value ∙ c.in_ok-buffer.ensures.bytes image told_header start.1) in
    let told_rest = c.in_ok-buffer.ensures.reads.keeps.image ∙ told_header in
    let opened = rw c.in-None.is at (c.in_ok-levels.ensures.judged image header.0 header.1 (ap (λ n. 12 + n) start.1) (sym (c.size-size.ensures.image image told))) in
    needed_unindexed image c.size-size.result (c.size-size.ensures.image image told) c.args.boxes.now c.args.gap opened (asks_all image c.size-size.result c.in_ok-len.len (c.size-size.ensures.image image told) start.0 start.1 opened c.in_ok-len.ensures.reads c.in_ok-len.ensures.few c.in_ok-buffer.ensures.reads c.in_ok-buffer.ensures.few c.in_ok-found-in-None.ensures.reads c.in_ok-found-in-None.ensures.few)

pub returns-clause-all : goal.returns-clause-all
returns-clause-all g c = λ image told unindexed. let start = c.in_ok-len.ensures.start image told in
    let told_header = c.in_ok-len.ensures.reads.keeps.image ∙ told in
    let header = c.in_ok-header.ensures.judged image start.0 (c.deref.ensures.value ∙ c.in_ok-buffer.ensures.bytes image told_header start.1) in
    let told_rest = c.in_ok-buffer.ensures.reads.keeps.image ∙ told_header in
    let opened = rw c.in-None.is at (c.in_ok-levels.ensures.judged image header.0 header.1 (ap (λ n. 12 + n) start.1) (sym (c.size-size.ensures.image image told))) in
    asks_all image c.size-size.result c.in_ok-len.len (c.size-size.ensures.image image told) start.0 start.1 opened c.in_ok-len.ensures.reads c.in_ok-len.ensures.few c.in_ok-buffer.ensures.reads c.in_ok-buffer.ensures.few c.in_ok-found-in-None.ensures.reads c.in_ok-found-in-None.ensures.few

pub returns-clause-search : goal.returns-clause-search
returns-clause-search g c = λ image told t indexed. let start = c.in_ok-len.ensures.start image told in
    let told_header = c.in_ok-len.ensures.reads.keeps.image ∙ told in
    let header = c.in_ok-header.ensures.judged image start.0 (c.deref.ensures.value ∙ c.in_ok-buffer.ensures.bytes image told_header start.1) in
    let told_rest = c.in_ok-buffer.ensures.reads.keeps.image ∙ told_header in
    let opened = rw c.in-None.is at (c.in_ok-levels.ensures.judged image header.0 header.1 (ap (λ n. 12 + n) start.1) (sym (c.size-size.ensures.image image told))) in
    absurd (not_both image c.size-size.result (c.size-size.ensures.image image told) t indexed opened)

pub returns-clause-front : goal.returns-clause-front
returns-clause-front g c = λ image told none. let start = c.in_ok-len.ensures.start image told in
    let told_header = c.in_ok-len.ensures.reads.keeps.image ∙ told in
    let header = c.in_ok-header.ensures.judged image start.0 (c.deref.ensures.value ∙ c.in_ok-buffer.ensures.bytes image told_header start.1) in
    let told_rest = c.in_ok-buffer.ensures.reads.keeps.image ∙ told_header in
    let opened = rw c.in-None.is at (c.in_ok-levels.ensures.judged image header.0 header.1 (ap (λ n. 12 + n) start.1) (sym (c.size-size.ensures.image image told))) in
    front_in_features image c.size-size.result c.in_ok-len.len (c.size-size.ensures.image image told) start.0 start.1 opened c.in_ok-len.ensures.reads c.in_ok-buffer.ensures.reads (whole_front _ c.in_ok-found-in-None.ensures.reads)

pub returns-in_err-len-clause-declared : goal.returns-in_err-len-clause-declared
returns-in_err-len-clause-declared g c = λ image told. front_only (front_of_start image _ _ c.size-size.result (c.size-size.ensures.image image told) c.in_err-len.ensures.front)

pub returns-in_err-buffer-clause-declared : goal.returns-in_err-buffer-clause-declared
returns-in_err-buffer-clause-declared g c = λ image told. let start = c.in_ok-len.ensures.start image told in
    front_only (front_of_header image c.size-size.result c.in_ok-len.len (c.size-size.ensures.image image told) start.0 start.1 c.in_ok-len.ensures.reads c.in_err-buffer.ensures.front)

pub returns-in_err-header-clause-declared : goal.returns-in_err-header-clause-declared
returns-in_err-header-clause-declared g c = λ image told. let start = c.in_ok-len.ensures.start image told in
    front_only (front_behind image c.size-size.result c.in_ok-len.len (c.size-size.ensures.image image told) start.0 start.1 c.in_ok-len.ensures.reads c.in_ok-buffer.ensures.reads)

pub returns-in_err-levels-clause-declared : goal.returns-in_err-levels-clause-declared
returns-in_err-levels-clause-declared g c = λ image told. let start = c.in_ok-len.ensures.start image told in
    front_only (front_behind image c.size-size.result c.in_ok-len.len (c.size-size.ensures.image image told) start.0 start.1 c.in_ok-len.ensures.reads c.in_ok-buffer.ensures.reads)

pub returns-in_err-begin-clause-declared : goal.returns-in_err-begin-clause-declared
returns-in_err-begin-clause-declared g c = λ image told. let start = c.in_ok-len.ensures.start image told in
    front_only (front_behind image c.size-size.result c.in_ok-len.len (c.size-size.ensures.image image told) start.0 start.1 c.in_ok-len.ensures.reads c.in_ok-buffer.ensures.reads)

pub returns-in_err-found-in-Some-clause-declared : goal.returns-in_err-found-in-Some-clause-declared
returns-in_err-found-in-Some-clause-declared g c = λ image told. let start = c.in_ok-len.ensures.start image told in
    let told_header = c.in_ok-len.ensures.reads.keeps.image ∙ told in
    let header = c.in_ok-header.ensures.judged image start.0 (c.deref.ensures.value ∙ c.in_ok-buffer.ensures.bytes image told_header start.1) in
    let told_rest = c.in_ok-buffer.ensures.reads.keeps.image ∙ told_header in
    let opened = rw c.in-Some.is at (c.in_ok-levels.ensures.judged image header.0 header.1 (ap (λ n. 12 + n) start.1) (sym (c.size-size.ensures.image image told))) in
    let indexed = is_indexed image c.size-size.result (c.size-size.ensures.image image told) _ (header_shown c.in_ok-header.header) c.in_ok-len.len opened header.1 start.1 in
    front_only (search_indexed image c.size-size.result (c.size-size.ensures.image image told) c.args.boxes.now c.args.gap _ opened (heads image c.size-size.result (c.size-size.ensures.image image told) c.in_ok-len.len start.0 start.1 c.in_ok-len.ensures.reads c.in_ok-buffer.ensures.reads) (c.in_err-found-in-Some.ensures.rising image told_rest indexed) _ opened).reads

pub returns-in-Some-clause-declared : goal.returns-in-Some-clause-declared
returns-in-Some-clause-declared g c = λ image told. let start = c.in_ok-len.ensures.start image told in
    let told_header = c.in_ok-len.ensures.reads.keeps.image ∙ told in
    let header = c.in_ok-header.ensures.judged image start.0 (c.deref.ensures.value ∙ c.in_ok-buffer.ensures.bytes image told_header start.1) in
    let told_rest = c.in_ok-buffer.ensures.reads.keeps.image ∙ told_header in
    let opened = rw c.in-Some.is at (c.in_ok-levels.ensures.judged image header.0 header.1 (ap (λ n. 12 + n) start.1) (sym (c.size-size.ensures.image image told))) in
    let indexed = is_indexed image c.size-size.result (c.size-size.ensures.image image told) _ (header_shown c.in_ok-header.header) c.in_ok-len.len opened header.1 start.1 in
    front_only (search_indexed image c.size-size.result (c.size-size.ensures.image image told) c.args.boxes.now c.args.gap _ opened (heads image c.size-size.result (c.size-size.ensures.image image told) c.in_ok-len.len start.0 start.1 c.in_ok-len.ensures.reads c.in_ok-buffer.ensures.reads) (c.in_ok-found-in-Some.ensures.rising image told_rest indexed) _ opened).reads

pub returns-in_err-found-in-None-clause-declared : goal.returns-in_err-found-in-None-clause-declared
returns-in_err-found-in-None-clause-declared g c = λ image told. let start = c.in_ok-len.ensures.start image told in
    let told_header = c.in_ok-len.ensures.reads.keeps.image ∙ told in
    let header = c.in_ok-header.ensures.judged image start.0 (c.deref.ensures.value ∙ c.in_ok-buffer.ensures.bytes image told_header start.1) in
    let told_rest = c.in_ok-buffer.ensures.reads.keeps.image ∙ told_header in
    let opened = rw c.in-None.is at (c.in_ok-levels.ensures.judged image header.0 header.1 (ap (λ n. 12 + n) start.1) (sym (c.size-size.ensures.image image told))) in
    front_only (front_in_features image c.size-size.result c.in_ok-len.len (c.size-size.ensures.image image told) start.0 start.1 opened c.in_ok-len.ensures.reads c.in_ok-buffer.ensures.reads c.in_err-found-in-None.ensures.front)

pub returns-clause-declared : goal.returns-clause-declared
returns-clause-declared g c = λ image told. let start = c.in_ok-len.ensures.start image told in
    let told_header = c.in_ok-len.ensures.reads.keeps.image ∙ told in
    let header = c.in_ok-header.ensures.judged image start.0 (c.deref.ensures.value ∙ c.in_ok-buffer.ensures.bytes image told_header start.1) in
    let told_rest = c.in_ok-buffer.ensures.reads.keeps.image ∙ told_header in
    let opened = rw c.in-None.is at (c.in_ok-levels.ensures.judged image header.0 header.1 (ap (λ n. 12 + n) start.1) (sym (c.size-size.ensures.image image told))) in
    front_only (front_in_features image c.size-size.result c.in_ok-len.len (c.size-size.ensures.image image told) start.0 start.1 opened c.in_ok-len.ensures.reads c.in_ok-buffer.ensures.reads (whole_front _ c.in_ok-found-in-None.ensures.reads))

pub returns-in_err-len-clause-visits : goal.returns-in_err-len-clause-visits
returns-in_err-len-clause-visits g c = left_alone refl

pub returns-in_err-buffer-clause-visits : goal.returns-in_err-buffer-clause-visits
returns-in_err-buffer-clause-visits g c = left_alone refl

pub returns-in_err-header-clause-visits : goal.returns-in_err-header-clause-visits
returns-in_err-header-clause-visits g c = left_alone refl

pub returns-in_err-levels-clause-visits : goal.returns-in_err-levels-clause-visits
returns-in_err-levels-clause-visits g c = left_alone refl

pub returns-in_err-begin-clause-visits : goal.returns-in_err-begin-clause-visits
returns-in_err-begin-clause-visits g c = unbegun c.in_err-begin.ensures.failed

pub returns-in_err-found-in-Some-clause-visits : goal.returns-in_err-found-in-Some-clause-visits
returns-in_err-found-in-Some-clause-visits g c = begun (record { begun = c.begin.new.self; starts = c.in_ok-begin.ensures.started; on = c.in_err-found-in-Some.ensures.handed })

pub returns-in-Some-clause-visits : goal.returns-in-Some-clause-visits
returns-in-Some-clause-visits g c = begun (record { begun = c.begin.new.self; starts = c.in_ok-begin.ensures.started; on = c.in_ok-found-in-Some.ensures.handed })

pub returns-in_err-found-in-None-clause-visits : goal.returns-in_err-found-in-None-clause-visits
returns-in_err-found-in-None-clause-visits g c = begun (record { begun = c.begin.new.self; starts = c.in_ok-begin.ensures.started; on = c.in_err-found-in-None.ensures.handed })

pub returns-clause-visits : goal.returns-clause-visits
returns-clause-visits g c = begun (record { begun = c.begin.new.self; starts = c.in_ok-begin.ensures.started; on = c.in_ok-found-in-None.ensures.handed })

pub returns-in_err-len-clause-part : goal.returns-in_err-len-clause-part
returns-in_err-len-clause-part g c = on_err c.from_residual.result _ (λ image told. untouched refl (start_heads image _ (c.size-size.ensures.image image told) c.in_err-len.ensures.front))

pub returns-in_err-buffer-clause-part : goal.returns-in_err-buffer-clause-part
returns-in_err-buffer-clause-part g c = on_err c.from_residual-in_err-buffer.result _ (λ image told. let start = c.in_ok-len.ensures.start image told in
    untouched refl (header_heads image c.size-size.result (c.size-size.ensures.image image told) c.in_ok-len.len start.0 start.1 c.in_ok-len.ensures.reads c.in_err-buffer.ensures.front))

pub returns-in_err-header-clause-part : goal.returns-in_err-header-clause-part
returns-in_err-header-clause-part g c = on_err c.from_residual-in_err-header.result _ (λ image told. let start = c.in_ok-len.ensures.start image told in
    untouched refl (heads_front image c.size-size.result (c.size-size.ensures.image image told) c.in_ok-len.len start.0 start.1 c.in_ok-len.ensures.reads c.in_ok-buffer.ensures.reads))

pub returns-in_err-levels-clause-part : goal.returns-in_err-levels-clause-part
returns-in_err-levels-clause-part g c = on_err c.from_residual-in_err-levels.result _ (λ image told. let start = c.in_ok-len.ensures.start image told in
    untouched refl (heads_front image c.size-size.result (c.size-size.ensures.image image told) c.in_ok-len.len start.0 start.1 c.in_ok-len.ensures.reads c.in_ok-buffer.ensures.reads))
