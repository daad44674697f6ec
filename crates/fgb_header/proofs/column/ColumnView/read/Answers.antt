use Rattle.std.proofs.Common.{◌≡◌, ◌∙◌, ℕ, ◌+◌, ◌*◌, ◌^◌, ◌≤◌, inl, inr, refl, true, length, List, Option, FitsSigned, w32, arith, rules}
use Rattle.std.proofs.lemmas.Int.{to_z-of_z}
use Rattle.flat_layout.specs.Layout.{is_table, led_to, number_in, text}
use Rattle.flat_layout.specs.Promises.{IsClean}
use Rattle.flat_layout.proofs.Judging.{exit, names-weaker}
use Rattle.flat_views.specs.Tables.{bytes_of, place_of}
use Rattle.fgb_schema.specs.Weights.{text_weight}
use Rattle.fgb_header.proofs.RecordFields.{column_from_name, column_from_kind, column_from_text, column_from_number, column_clean, same_column, BreaksName, name_within, IsRead, read_within, known_within, kind_known}
use Rattle.fgb_header.proofs.column.ColumnView.read.Goals as goal

-- the sum of the sizes fits
sizes : (b : List ℕ) (t : ℕ) (name : List ℕ) (title description metadata : Option (List ℕ)) → length b ≤ 268435456 → is_table b t ≡ true
    → (name ≡ text b (led_to b t 0)) × IsClean (BreaksName b t) → IsRead b t 2 title → IsRead b t 3 description → IsRead b t 10 metadata
    → length name + text_weight title + text_weight description + text_weight metadata ≤ 4 * 2 ^ 28
sizes b t name title description metadata small sound n i d m =
    omega (arith, small, name_within b t name n.0 n.1 sound, read_within b t 2 title i, read_within b t 3 description d, read_within b t 10 metadata m)

pub returns-in_err-name : goal.returns-in_err-name
returns-in_err-name c = exit _ _ _ _ c.from_residual.ensures.1 (names-weaker _ _ _ _ (column_from_name (bytes_of c.args.table) (place_of c.args.table) c.args.table.sound) c.in_err-name.ensures)

pub returns-in_err-kind : goal.returns-in_err-kind
returns-in_err-kind c = exit _ _ _ _ c.from_residual-in_err-kind.ensures.1 (names-weaker _ _ _ _ (column_from_kind (bytes_of c.args.table) (place_of c.args.table) c.args.table.sound) c.in_err-kind.ensures)

pub returns-in_err-title : goal.returns-in_err-title
returns-in_err-title c = exit _ _ _ _ c.from_residual-in_err-title.ensures.1 (names-weaker _ _ _ _ (column_from_text (bytes_of c.args.table) (place_of c.args.table) c.args.table.sound 2 (inr (inr (inl refl)))) c.in_err-title.ensures)

pub returns-in_err-description : goal.returns-in_err-description
returns-in_err-description c = exit _ _ _ _ c.from_residual-in_err-description.ensures.1 (names-weaker _ _ _ _ (column_from_text (bytes_of c.args.table) (place_of c.args.table) c.args.table.sound 3 (inr (inr (inr (inl refl))))) c.in_err-description.ensures)

pub returns-in_err-width : goal.returns-in_err-width
returns-in_err-width c = exit _ _ _ _ c.from_residual-in_err-width.ensures.1 (names-weaker _ _ _ _ (column_from_number (bytes_of c.args.table) (place_of c.args.table) c.args.table.sound 4 4 (inr (inr (inr (inr (inl refl)))))) c.in_err-width.ensures)

pub returns-in_err-precision : goal.returns-in_err-precision
returns-in_err-precision c = exit _ _ _ _ c.from_residual-in_err-precision.ensures.1 (names-weaker _ _ _ _ (column_from_number (bytes_of c.args.table) (place_of c.args.table) c.args.table.sound 4 5 (inr (inr (inr (inr (inr (inl refl))))))) c.in_err-precision.ensures)

pub returns-in_err-scale : goal.returns-in_err-scale
returns-in_err-scale c = exit _ _ _ _ c.from_residual-in_err-scale.ensures.1 (names-weaker _ _ _ _ (column_from_number (bytes_of c.args.table) (place_of c.args.table) c.args.table.sound 4 6 (inr (inr (inr (inr (inr (inr (inl refl)))))))) c.in_err-scale.ensures)

pub returns-in_err-nullable : goal.returns-in_err-nullable
returns-in_err-nullable c = exit _ _ _ _ c.from_residual-in_err-nullable.ensures.1 (names-weaker _ _ _ _ (column_from_number (bytes_of c.args.table) (place_of c.args.table) c.args.table.sound 1 7 (inr (inr (inr (inr (inr (inr (inr (inl refl))))))))) c.in_err-nullable.ensures)

pub returns-in_err-unique : goal.returns-in_err-unique
returns-in_err-unique c = exit _ _ _ _ c.from_residual-in_err-unique.ensures.1 (names-weaker _ _ _ _ (column_from_number (bytes_of c.args.table) (place_of c.args.table) c.args.table.sound 1 8 (inr (inr (inr (inr (inr (inr (inr (inr (inl refl)))))))))) c.in_err-unique.ensures)

pub returns-in_err-primary_key : goal.returns-in_err-primary_key
returns-in_err-primary_key c = exit _ _ _ _ c.from_residual-in_err-primary_key.ensures.1 (names-weaker _ _ _ _ (column_from_number (bytes_of c.args.table) (place_of c.args.table) c.args.table.sound 1 9 (inr (inr (inr (inr (inr (inr (inr (inr (inr (inl refl))))))))))) c.in_err-primary_key.ensures)

pub returns-in_err-metadata : goal.returns-in_err-metadata
returns-in_err-metadata c = exit _ _ _ _ c.from_residual-in_err-metadata.ensures.1 (names-weaker _ _ _ _ (column_from_text (bytes_of c.args.table) (place_of c.args.table) c.args.table.sound 10 (inr (inr (inr (inr (inr (inr (inr (inr (inr (inr (inl refl)))))))))))) c.in_err-metadata.ensures)

pub invariant_of-result : goal.invariant_of-result
invariant_of-result c =
    let b = bytes_of c.args.table in let t = place_of c.args.table in record {
      short = sizes b t _ _ _ _ c.args.table.buf.small c.args.table.sound c.in_ok-name.ensures c.in_ok-title.ensures c.in_ok-description.ensures c.in_ok-metadata.ensures;
      known = known_within c.in_ok-kind.kind (number_in 1 b t 1 0) c.in_ok-kind.ensures.0 (kind_known b t c.args.table.sound c.in_ok-kind.ensures.1);
    }

pub returns : goal.returns
returns c =
    let b = bytes_of c.args.table in let t = place_of c.args.table in
    let name = c.in_ok-name.ensures in
    let kind = c.in_ok-kind.ensures in
    let title = c.in_ok-title.ensures in
    let description = c.in_ok-description.ensures in
    let width = c.in_ok-width.ensures in
    let precision = c.in_ok-precision.ensures in
    let scale = c.in_ok-scale.ensures in
    let nullable = c.in_ok-nullable.ensures in
    let unique = c.in_ok-unique.ensures in
    let primary_key = c.in_ok-primary_key.ensures in
    let metadata = c.in_ok-metadata.ensures in
    let fits_width : FitsSigned w32 c.in_ok-width.width = search rules in
    let fits_precision : FitsSigned w32 c.in_ok-precision.precision = search rules in
    let fits_scale : FitsSigned w32 c.in_ok-scale.scale = search rules in (
      same_column b t _ _ _ _ _ _ _ _ _ _ _ name.0 kind.0 title.0 description.0 (to_z-of_z w32 c.in_ok-width.width fits_width ∙ width.0) (to_z-of_z w32 c.in_ok-precision.precision fits_precision ∙ precision.0) (to_z-of_z w32 c.in_ok-scale.scale fits_scale ∙ scale.0) nullable.0 unique.0 primary_key.0 metadata.0,
      column_clean b t c.args.table.sound name.1 kind.1 title.1 description.1 width.1 precision.1 scale.1 nullable.1 unique.1 primary_key.1 metadata.1,
    )
