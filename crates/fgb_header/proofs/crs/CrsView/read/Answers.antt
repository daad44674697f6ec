use Rattle.std.proofs.Common.{◌∙◌, ℕ, ◌+◌, ◌*◌, ◌^◌, ◌≤◌, inl, inr, refl, length, List, Option, FitsSigned, w32, arith, rules}
use Rattle.std.proofs.lemmas.Int.{to_z-of_z}
use Rattle.flat_layout.proofs.Judging.{exit, names-weaker}
use Rattle.flat_views.specs.Tables.{bytes_of, place_of}
use Rattle.fgb_schema.specs.Weights.{text_weight}
use Rattle.fgb_header.proofs.RecordFields.{crs_from_text, crs_from_number, crs_clean, same_crs, IsRead, read_within}
use Rattle.fgb_header.proofs.crs.CrsView.read.Goals as goal

-- the sum of the sizes fits
sizes : (b : List ℕ) (t : ℕ) (org name description wkt code_string : Option (List ℕ)) → length b ≤ 268435456
    → IsRead b t 0 org → IsRead b t 2 name → IsRead b t 3 description → IsRead b t 4 wkt → IsRead b t 5 code_string
    → text_weight org + text_weight name + text_weight description + text_weight wkt + text_weight code_string ≤ 5 * 2 ^ 28
sizes b t org name description wkt code_string small o n d w c =
    omega (arith, small, read_within b t 0 org o, read_within b t 2 name n, read_within b t 3 description d, read_within b t 4 wkt w, read_within b t 5 code_string c)

pub returns-in_err-org : goal.returns-in_err-org
returns-in_err-org c = exit _ _ _ _ c.from_residual.ensures.1 (names-weaker _ _ _ _ (crs_from_text (bytes_of c.args.table) (place_of c.args.table) c.args.table.sound 0 (inl refl)) c.in_err-org.ensures)

pub returns-in_err-code : goal.returns-in_err-code
returns-in_err-code c = exit _ _ _ _ c.from_residual-in_err-code.ensures.1 (names-weaker _ _ _ _ (crs_from_number (bytes_of c.args.table) (place_of c.args.table) c.args.table.sound 4 1 (inr (inl refl))) c.in_err-code.ensures)

pub returns-in_err-name : goal.returns-in_err-name
returns-in_err-name c = exit _ _ _ _ c.from_residual-in_err-name.ensures.1 (names-weaker _ _ _ _ (crs_from_text (bytes_of c.args.table) (place_of c.args.table) c.args.table.sound 2 (inr (inr (inl refl)))) c.in_err-name.ensures)

pub returns-in_err-description : goal.returns-in_err-description
returns-in_err-description c = exit _ _ _ _ c.from_residual-in_err-description.ensures.1 (names-weaker _ _ _ _ (crs_from_text (bytes_of c.args.table) (place_of c.args.table) c.args.table.sound 3 (inr (inr (inr (inl refl))))) c.in_err-description.ensures)

pub returns-in_err-wkt : goal.returns-in_err-wkt
returns-in_err-wkt c = exit _ _ _ _ c.from_residual-in_err-wkt.ensures.1 (names-weaker _ _ _ _ (crs_from_text (bytes_of c.args.table) (place_of c.args.table) c.args.table.sound 4 (inr (inr (inr (inr (inl refl)))))) c.in_err-wkt.ensures)

pub returns-in_err-code_string : goal.returns-in_err-code_string
returns-in_err-code_string c = exit _ _ _ _ c.from_residual-in_err-code_string.ensures.1 (names-weaker _ _ _ _ (crs_from_text (bytes_of c.args.table) (place_of c.args.table) c.args.table.sound 5 (inr (inr (inr (inr (inr (inl refl))))))) c.in_err-code_string.ensures)

pub invariant_of-result : goal.invariant_of-result
invariant_of-result c =
    let b = bytes_of c.args.table in let t = place_of c.args.table in record {
      short = sizes b t _ _ _ _ _ c.args.table.buf.small c.in_ok-org.ensures c.in_ok-name.ensures c.in_ok-description.ensures c.in_ok-wkt.ensures c.in_ok-code_string.ensures;
    }

pub returns : goal.returns
returns c =
    let b = bytes_of c.args.table in let t = place_of c.args.table in
    let org = c.in_ok-org.ensures in
    let code = c.in_ok-code.ensures in
    let name = c.in_ok-name.ensures in
    let description = c.in_ok-description.ensures in
    let wkt = c.in_ok-wkt.ensures in
    let code_string = c.in_ok-code_string.ensures in
    let fits : FitsSigned w32 c.in_ok-code.code = search rules in (
      same_crs b t _ _ _ _ _ _ org.0 (to_z-of_z w32 c.in_ok-code.code fits ∙ code.0) name.0 description.0 wkt.0 code_string.0,
      crs_clean b t c.args.table.sound org.1 code.1 name.1 description.1 wkt.1 code_string.1,
    )
