use Rattle.std.proofs.Common.{◌≡◌, ℕ, ◌<◌, true, length, ap, ◌∙◌, subst}
use Rattle.flat_layout.specs.Layout.{target, led_to, entry_place, count, is_vector}
use Rattle.flat_layout.specs.Promises.{Names, BreaksTable, BreaksThrough}
use Rattle.flat_views.proofs.Placed.{at_list, list_of_place, sound_list}
use Rattle.fgb_schema.specs.Headers.{Header, columns_in}
use Rattle.fgb_header.specs.declared.header.HeaderView.{HeaderView}
use Rattle.fgb_header.specs.Views.{base_shown, header_shown, source_of}
use Rattle.fgb_where.proofs.Tables.{column_named, column_present, column_early, header_columns}
use Rattle.fgb_where.proofs.places.column_place.Goals as goal

early : (h : HeaderView) (i : ℕ) → i < length (header_shown h).columns → i < length (columns_in (source_of h) (target (source_of h) 0) 7)
early h i inside = subst (λ cs. i < length cs) (ap (λ (header : Header). header.columns) h.same ∙ header_columns (source_of h)) inside

pub unreachable-requires : goal.unreachable-requires
unreachable-requires c =
    let b = source_of c.args.header.now in
    column_present b (target b 0) 7 c.args.i (early c.args.header.now c.args.i c.requires) c.in_default.ensures

pub get-requires : goal.get-requires
get-requires c =
    let b = source_of c.args.header.now in let shown = c.in-Some.ensures in
    list_of_place (base_shown c.args.header.now) b (led_to b (target b 0) 7) c.in-Some.columns shown.1 (λ k s v. c.args.i < count s v)
    (column_early b (target b 0) 7 c.args.i (early c.args.header.now c.args.i c.requires) shown.0)

pub unreachable-requires-in_default-get : goal.unreachable-requires-in_default-get
unreachable-requires-in_default-get c =
    let b = source_of c.args.header.now in let base = base_shown c.args.header.now in
    let v = led_to b (target b 0) 7 in let list = c.in-Some.columns in let shown = c.in-Some.ensures in
    let e = c.in_default-get.field-0 in
    column_named b c.args.header.now.clean shown.0
    (at_list base b v list shown.1 (λ k s v. is_vector 4 s v ≡ true) (sound_list list))
    c.args.i (column_early b (target b 0) 7 c.args.i (early c.args.header.now c.args.i c.requires) shown.0) base e
    (at_list base b v list shown.1 (λ k s v. Names k (BreaksThrough BreaksTable s (entry_place s v c.args.i)) e) c.in_default-get.ensures)
