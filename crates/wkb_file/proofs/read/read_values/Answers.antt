use Rattle.std.proofs.Common.{sym, ap, subst, ◌∙◌, arith}
use Rattle.wkb_file.specs.Broken.{too_long}
use Rattle.wkb_file.specs.Values.{IsWkbFile}
use Rattle.wkb_file.proofs.Reading.{all_held, as_fault, refused_told, values_told}
use Rattle.wkb_file.proofs.read.read_values.Goals as goal

pub returns-then-size-gt-MOST-clause-refused : goal.returns-then-size-gt-MOST-clause-refused
returns-then-size-gt-MOST-clause-refused g c = λ image told. too_long (omega (arith, c.size-size.ensures.image image told))

pub returns-then-size-gt-MOST-clause-only_faults : goal.returns-then-size-gt-MOST-clause-only_faults
returns-then-size-gt-MOST-clause-only_faults g c = λ image told shapes file. absurd (omega (arith, file.small, c.size-size.ensures.image image told))

pub returns-clause-values : goal.returns-clause-values
returns-clause-values g c =
    let seen = g.S.RangeSource.seen in
    let held = all_held (seen c.args.source.now) (seen c.fill.new.source) c.fill.new.self c.size-size.result c.size-size.ensures c.fill.ensures.keeps c.fill.ensures.shows
    (c.fill.ensures.kept.0 ∙ ap (λ w. w.at) c.new-window.ensures) (c.fill.ensures.kept.1 ∙ ap (λ w. w.end) c.new-window.ensures) c.in_ok-fill.ensures.enough in
    values_told (λ shapes. shapes.items) (seen c.args.source.now) c.bytes.result.now (λ image told. c.bytes.ensures.value ∙ held image told)
    c.values_in.result c.stops_reading.result c.stops_reading.ensures c.values_in.ensures.values

pub returns-clause-refused : goal.returns-clause-refused
returns-clause-refused g c =
    let seen = g.S.RangeSource.seen in
    let held = all_held (seen c.args.source.now) (seen c.fill.new.source) c.fill.new.self c.size-size.result c.size-size.ensures c.fill.ensures.keeps c.fill.ensures.shows
    (c.fill.ensures.kept.0 ∙ ap (λ w. w.at) c.new-window.ensures) (c.fill.ensures.kept.1 ∙ ap (λ w. w.end) c.new-window.ensures) c.in_ok-fill.ensures.enough in
    refused_told (λ shapes. shapes.items) (seen c.args.source.now) c.bytes.result.now (λ image told. c.bytes.ensures.value ∙ held image told)
    c.values_in.result c.stops_reading.result c.stops_reading.ensures c.values_in.ensures.refused

pub returns-clause-only_faults : goal.returns-clause-only_faults
returns-clause-only_faults g c = λ image told all file.
    let seen = g.S.RangeSource.seen in
    let held = all_held (seen c.args.source.now) (seen c.fill.new.source) c.fill.new.self c.size-size.result c.size-size.ensures c.fill.ensures.keeps c.fill.ensures.shows
    (c.fill.ensures.kept.0 ∙ ap (λ w. w.at) c.new-window.ensures) (c.fill.ensures.kept.1 ∙ ap (λ w. w.end) c.new-window.ensures) c.in_ok-fill.ensures.enough in
    as_fault c.values_in.result c.stops_reading.result c.stops_reading.ensures
    (c.values_in.ensures.only_memory all (subst (IsWkbFile all) (sym (c.bytes.ensures.value ∙ held image told)) file))
