use Rattle.std.proofs.Common.{◌≡◌, ap, ◌∙◌}
use Rattle.fgb_schema.specs.Headers.{Header, header_of}
use Rattle.fgb_header.specs.declared.header.HeaderView.{HeaderView}
use Rattle.fgb_header.specs.Views.{base_shown, columns_shown, header_shown, source_of}
use Rattle.fgb_where.proofs.Refusing.{missing, refused, bound}
use Rattle.fgb_where.proofs.words.Condition.bind.Goals as goal

same : (h : HeaderView) → (header_shown h).columns ≡ (header_of (source_of h)).columns
same h = ap (λ (header : Header). header.columns) h.same

pub returns-in_default : goal.returns-in_default
returns-in_default c =
    let h = c.args.header.now in
    missing (source_of h) c.args.self (columns_shown c.columns-columns.result) (c.columns-columns.ensures ∙ same h) (base_shown h) c.header_place.result
    c.in_default.ensures c.header_place.ensures

pub returns-in-Ok : goal.returns-in-Ok
returns-in-Ok c =
    let h = c.args.header.now in
    bound (source_of h) c.args.self (columns_shown c.columns-columns.result) (c.columns-columns.ensures ∙ same h) 0 0
    c.in-Some.number c.kind.result c.in-Some.ensures c.kind.ensures.value c.in-Ok.bound c.in-Ok.ensures

pub returns-in-Err : goal.returns-in-Err
returns-in-Err c =
    let h = c.args.header.now in
    refused (source_of h) c.args.self (columns_shown c.columns-columns.result) (c.columns-columns.ensures ∙ same h) (base_shown h) c.column_place.result
    c.in-Some.number c.kind.result c.in-Some.ensures c.kind.ensures.value c.in-Err.rule c.in-Err.ensures c.column_place.ensures
