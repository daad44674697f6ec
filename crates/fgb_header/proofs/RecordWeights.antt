-- What a coordinate reference system and a column weigh, where nothing is broken from their table on.
use Rattle.std.proofs.Common.{◌≡◌, inl, inr, ℕ, true, List, length, map, refl, ap, subst, arith}
use Rattle.flat_layout.specs.Layout.{is_table, led_to, text, text_in}
use Rattle.flat_layout.specs.Promises.{IsClean}
use Rattle.flat_layout.proofs.Numbers.{text_in-present}
use Rattle.fgb_schema.specs.Tables.{Content, crs, column, fields, crs_fields, column_fields, string, scalar, link}
use Rattle.fgb_schema.specs.Paths.{Breaks, IsAmong, crs_part, column_part}
use Rattle.fgb_schema.specs.Headers.{crs_at, column_at}
use Rattle.fgb_schema.specs.Weights.{Weighs, text_weight, total}
use Rattle.fgb_schema.proofs.TableParts.{field_part}
use Rattle.fgb_schema.proofs.Weighing.{WeighTogether, together_each, weigh_scalar, weigh_table}
use Rattle.fgb_schema.proofs.FieldWeights.{weigh_text}
use Rattle.fgb_header.specs.Parts.{crs_weight, column_weight}
use Rattle.fgb_header.proofs.RecordFields.{◌&◌, TextClean, BreaksName, crs_from_text, column_from_text, column_from_name, name_present}

module _ (b : List ℕ) (t : ℕ) where
  -- a text weighs its bytes, a number nothing
  abbrev weight_of : ℕ → Content → ℕ
  weight_of id (link x) = text_weight (text_in b t id)
  weight_of id (scalar width) = 0

  abbrev field_weight : ℕ × Content → ℕ
  field_weight x = weight_of x.0 x.1

  module _ (sound : is_table b t ≡ true) where
    crs_text : IsClean (Breaks b (crs_part t)) → (id : ℕ) → IsAmong (id, link string) crs_fields → TextClean b t id
    crs_text clean id among q r broken = clean q r (crs_from_text b t sound id among q r broken)

    column_text : IsClean (Breaks b (column_part t)) → (id : ℕ) → IsAmong (id, link string) column_fields → TextClean b t id
    column_text clean id among q r broken = clean q r (column_from_text b t sound id among q r broken)

    column_name : IsClean (Breaks b (column_part t)) → IsClean (BreaksName b t)
    column_name clean q r broken = clean q r (column_from_name b t sound q r broken)

    crs_together : IsClean (Breaks b (crs_part t)) → WeighTogether b (map (field_part t) crs_fields) (total field_weight crs_fields)
    crs_together clean = together_each b t field_weight crs_fields (
        weigh_text b t 0 (crs_text clean 0 (inl refl))
        & weigh_scalar b 4 t 1
        & weigh_text b t 2 (crs_text clean 2 (inr (inr (inl refl))))
        & weigh_text b t 3 (crs_text clean 3 (inr (inr (inr (inl refl)))))
        & weigh_text b t 4 (crs_text clean 4 (inr (inr (inr (inr (inl refl))))))
        & weigh_text b t 5 (crs_text clean 5 (inr (inr (inr (inr (inr (inl refl)))))))
        & tt)

    column_together : IsClean (Breaks b (column_part t)) → WeighTogether b (map (field_part t) column_fields) (total field_weight column_fields)
    column_together clean = together_each b t field_weight column_fields (
        weigh_text b t 0 (column_text clean 0 (inl refl))
        & weigh_scalar b 1 t 1
        & weigh_text b t 2 (column_text clean 2 (inr (inr (inl refl))))
        & weigh_text b t 3 (column_text clean 3 (inr (inr (inr (inl refl)))))
        & weigh_scalar b 4 t 4
        & weigh_scalar b 4 t 5
        & weigh_scalar b 4 t 6
        & weigh_scalar b 1 t 7
        & weigh_scalar b 1 t 8
        & weigh_scalar b 1 t 9
        & weigh_text b t 10 (column_text clean 10 (inr (inr (inr (inr (inr (inr (inr (inr (inr (inr (inl refl))))))))))))
        & tt)

    -- a name that is there weighs its bytes
    name_weight : IsClean (BreaksName b t) → text_weight (text_in b t 0) ≡ length (text b (led_to b t 0))
    name_weight clean = ap text_weight (text_in-present b t 0 (name_present b t clean sound))

-- each of them weighs 4 and its texts
pub crs_weighs : (b : List ℕ) (t : ℕ) → is_table b t ≡ true → IsClean (Breaks b (crs_part t)) → Weighs b (crs_part t) (crs_weight (crs_at b t))
unfolding fields crs_at
crs_weighs b t sound clean = subst (Weighs b (crs_part t)) (omega arith) (weigh_table b crs t _ sound (crs_together b t sound clean))

pub column_weighs : (b : List ℕ) (t : ℕ) → is_table b t ≡ true → IsClean (Breaks b (column_part t)) → Weighs b (column_part t) (column_weight (column_at b t))
unfolding fields column_at
column_weighs b t sound clean =
    subst (Weighs b (column_part t)) (omega (arith, name_weight b t sound (column_name b t sound clean))) (weigh_table b column t _ sound (column_together b t sound clean))
