-- How many bytes a value has.
use Rattle.std.proofs.Common.{◌≡◌, inl, inr, ℕ, suc, ◌+◌, ◌-◌, ◌*◌, ◌<◌, ◌≤◌, Bool, true, false, List, [], ◌∷◌, ◌++◌, length, map, take, drop, if◌then◌else◌, refl, ap, sym, subst, ◌∙◌, suc-mul, add-mul, zero-mul, arith}
use Rattle.std.specs.Prelude.{nat_lt}
use Rattle.std.specs.List.{All, concat}
use Rattle.std.proofs.lemmas.Bool.{cases_Bool}
use Rattle.std.proofs.lemmas.Bool.Decides.{nat_tests}
use Rattle.std.proofs.lemmas.List.{length-append, length-drop, length-take, length-take-le}
use Rattle.std.proofs.lemmas.List.Elements.{All-cons, All-drop, All-head, All-nil, All-tail, All-take, All-weaker}
use Rattle.byteorder.specs.Endian.{little_bytes}
use Rattle.byteorder.specs.Numbers.{length-bytes_low_first}
use Rattle.fgb_schema.specs.Tables.{has_parts, has_rings}
use Rattle.fgb_schema.specs.Shapes.{Shape, type_in, points_in, rings_in, ordinates_in, parts_in}
use Rattle.owned_shape.specs.Records.{AreChained}
use Rattle.owned_shape.proofs.Chains.{within_last}
use Rattle.owned_shape.proofs.ReadShapes.{ArePartsRead, IsRead}
use Rattle.wkb_writer.specs.declared.dialect.Dialect.TheVariants.{Iso}
use Rattle.wkb_writer.specs.Dimensions.{Dimension, Fits, coordinate_dimension, dimension_of}
use Rattle.wkb_writer.specs.Levels.{rows_in}
use Rattle.wkb_writer.specs.Wkb.{counted, head, line_bytes, nowhere_bytes, point_body, ring_of, row_bytes, rows, value}
use Rattle.wkb_writer.proofs.RowsAt.{length-rows_in}
use Rattle.wkb_writer.proofs.Values.{as_line, as_line_strings, as_lines, as_point, as_points, as_polygons, as_shapes, body_as}

-- the bytes of things of one size
module _ {A : Type 0} (bytes_of : A → List ℕ) (w : ℕ) where
  abbrev Long : A → Type 0
  Long x = length (bytes_of x) ≡ w

  pub pieces_long : (xs : List A) → All Long xs → length (concat (map bytes_of xs)) ≡ length xs * w
  pieces_long [] all = omega arith
  pieces_long (x ∷ xs) all =
      let rest = pieces_long xs (All-tail Long x xs all) in
      let one : Long x = All-head Long x xs all in
      length-append (bytes_of x) (concat (map bytes_of xs)) ∙ omega (arith, one, rest, suc-mul (length xs) w)

  pub counted_long : (xs : List A) → All Long xs → length (counted (map bytes_of xs)) ≡ 4 + length xs * w
  counted_long xs all =
      let count = little_bytes 4 (length (map bytes_of xs)) in
      length-append count (concat (map bytes_of xs)) ∙ omega (arith, length-bytes_low_first 0 4 (length (map bytes_of xs)), pieces_long xs all)

-- the ordinates of a point
pub row_long : (row : List ℕ) → length (row_bytes row) ≡ 8 * length row
row_long [] = refl
row_long (x ∷ row) = length-append (little_bytes 8 x) (row_bytes row) ∙ omega (arith, length-bytes_low_first 0 8 x, row_long row)

nowhere_long : (d : Dimension) → length (nowhere_bytes d) ≡ 8 * coordinate_dimension d
nowhere_long d = elim (cases_Bool d.z) [
  | inl z ↦ elim (cases_Bool d.m) [ inl m ↦ rw (z, m) refl | inr m ↦ rw (z, m) refl ]
  | inr z ↦ elim (cases_Bool d.m) [ inl m ↦ rw (z, m) refl | inr m ↦ rw (z, m) refl ]
]

-- a list with a number for each of some points, or with none
abbrev IsEach : Bool → ℕ → List ℕ → Type 0
IsEach there points list = length list ≡ (if there then points else 0)

each_there : (points : ℕ) (list : List ℕ) → (0 < length list → length list ≡ points) → IsEach (nat_lt 0 (length list)) points list
each_there points [] beside = refl
each_there points (x ∷ list) beside =
    let there : nat_lt 0 (length (x ∷ list)) ≡ true = grind (arith, nat_tests) in
    rw there (beside (omega arith))

module _ (z m : Bool) where
  abbrev ordinates : ℕ
  ordinates = 2 + (if z then 1 else 0) + (if m then 1 else 0)

  first_long : (there : Bool) (points : ℕ) (list : List ℕ) → IsEach there (suc points) list → length (take 1 list) ≡ (if there then 1 else 0)
  first_long true points list each = omega (arith, each, length-take 1 list)
  first_long false points list each = omega (arith, each, length-take 1 list)

  others_each : (there : Bool) (points : ℕ) (list : List ℕ) → IsEach there (suc points) list → IsEach there points (drop 1 list)
  others_each true points list each = omega (arith, each, length-drop 1 list)
  others_each false points list each = omega (arith, each, length-drop 1 list)

  abbrev HasAll : List ℕ → Type 0
  HasAll row = length (row_bytes row) ≡ 8 * ordinates

  rows_long : (points : List (ℕ × ℕ)) (zs ms : List ℕ) → IsEach z (length points) zs → IsEach m (length points) ms → All HasAll (rows points zs ms)
  rows_long [] zs ms heights measures = All-nil HasAll
  rows_long (p ∷ points) zs ms heights measures =
      let row : List ℕ = p.0 ∷ p.1 ∷ take 1 zs ++ take 1 ms in
      let one : HasAll row = row_long row ∙ omega (arith, length-append (take 1 zs) (take 1 ms), first_long z (length points) zs heights, first_long m (length points) ms measures) in
      All-cons HasAll row (rows points (drop 1 zs) (drop 1 ms)) one
      (rows_long points (drop 1 zs) (drop 1 ms) (others_each z (length points) zs heights) (others_each m (length points) ms measures))

-- rings that follow one another, each behind this front
module _ (front : List ℕ) (points : List (List ℕ)) (w : ℕ) (wide : All (Long row_bytes w) points) where
  abbrev ring_bytes : ℕ × ℕ → List ℕ
  ring_bytes ring = front ++ line_bytes (ring_of points ring)

  ring_long : (ring : ℕ × ℕ) → ring.0 ≤ ring.1 → ring.1 ≤ length points → length (ring_bytes ring) + ring.0 * w ≡ length front + 4 + ring.1 * w
  ring_long ring up within =
      let rest = drop ring.0 points in
      let size = ring.1 - ring.0 in
      let enough : size ≤ length rest = omega (arith, up, within, length-drop ring.0 points) in
      let line = counted_long row_bytes w (ring_of points ring) (All-take (Long row_bytes w) size rest (All-drop (Long row_bytes w) ring.0 points wide)) in
      let count : length (ring_of points ring) ≡ size = length-take-le size rest enough in
      let both : ring.1 * w ≡ ring.0 * w + size * w = ap (λ n. n * w) (omega (arith, up)) ∙ add-mul ring.0 size w in
      omega (arith, length-append front (line_bytes (ring_of points ring)), line, ap (λ n. n * w) count, both)

  rings_long : (first last : ℕ) (rings : List (ℕ × ℕ)) → AreChained first last rings → last ≤ length points
      → length (concat (map ring_bytes rings)) + first * w ≡ length rings * (length front + 4) + last * w
  rings_long first last [] chained within = omega (arith, ap (λ n. n * w) chained)
  rings_long first last (ring ∷ rest) chained within =
      let later = within_last ring.1 last rest chained.2 in
      let one = ring_long ring (omega (arith, chained.0, chained.1)) (omega (arith, later, within)) in
      omega (arith, length-append (ring_bytes ring) (concat (map ring_bytes rest)), one, rings_long ring.1 last rest chained.2 within, ap (λ n. n * w) chained.0, suc-mul (length rest) (length front + 4))

  -- as many as cover all points
  pub cover_long : (rings : List (ℕ × ℕ)) → AreChained 0 (length points) rings → length (counted (map ring_bytes rings)) ≡ 4 + length rings * (length front + 4) + length points * w
  cover_long rings chained =
      let count = length (map ring_bytes rings) in
      omega (arith, length-append (little_bytes 4 count) (concat (map ring_bytes rings)), length-bytes_low_first 0 4 count, rings_long 0 (length points) rings chained (omega arith), zero-mul w)

-- a shape that was read, and a dimension that fits it
module _ (d : Dimension) (s : Shape) where
  abbrev pub w : ℕ
  w = 8 * coordinate_dimension d

  abbrev pub parts_bytes : List (List ℕ)
  parts_bytes = map (value d) (parts_in s)

  -- so many bytes of its own stand behind its head
  abbrev pub IsBodySize : ℕ → Type 0
  IsBodySize n = n + length (concat parts_bytes) ≡ length (body_as Iso d s (type_in s))

  module _ (fits : Fits d s) (read : IsRead s) (parts : ArePartsRead s) where
    wide_by : (points : List (ℕ × ℕ)) → points ≡ points_in s → All (Long row_bytes w) (rows points (ordinates_in s).z (ordinates_in s).m)
    wide_by [] is = All-nil (Long row_bytes w)
    wide_by (p ∷ points) is =
        let own = dimension_of s in
        let same : own ≡ d = fits.same (λ gone. cc (is, gone)) in
        let size = length (p ∷ points) in
        let zs = (ordinates_in s).z in let ms = (ordinates_in s).m in
        subst (λ e. All (Long row_bytes (8 * coordinate_dimension e)) (rows (p ∷ points) zs ms)) same
        (rows_long own.z own.m (p ∷ points) zs ms (each_there size zs (λ some. read.z some ∙ ap length (sym is))) (each_there size ms (λ some. read.m some ∙ ap length (sym is))))

    wide : All (Long row_bytes w) (rows_in s)
    wide = wide_by (points_in s) refl

    point_long : (points : List (List ℕ)) → All (Long row_bytes w) points → length (point_body d points) ≡ w
    point_long [] all = nowhere_long d
    point_long (row ∷ points) all = All-head (Long row_bytes w) row points all

    lone : has_parts (type_in s) ≡ false → length (concat parts_bytes) ≡ 0
    lone lacks = ap (λ ps. length (concat (map (value d) ps))) (parts.no_parts lacks)

    -- by its type, of so many points and rings
    module _ (k : ℕ) (kind : k ≡ type_in s) (row points rings : ℕ) (of_row : row ≡ w) (of_points : points ≡ length (points_in s)) (of_rings : rings ≡ length (rings_in s)) where
      as_type : (n : ℕ) → k ≡ n → length (body_as Iso d s n) ≡ length (body_as Iso d s (type_in s))
      as_type n is = ap (λ n. length (body_as Iso d s n)) (sym is ∙ kind)

      no_parts : (n : ℕ) → k ≡ n → has_parts n ≡ false → length (concat parts_bytes) ≡ 0
      no_parts n is lacks = lone (ap has_parts (sym kind ∙ is) ∙ lacks)

      chained : (n : ℕ) → k ≡ n → has_rings n ≡ true → AreChained 0 (length (rows_in s)) (rings_in s)
      chained n is has = subst (λ last. AreChained 0 last (rings_in s)) (sym (length-rows_in s)) (read.chained (ap has_rings (sym kind ∙ is) ∙ has))

      of_rows : length (rows_in s) * w ≡ points * row
      of_rows = ap (λ n. n * w) (length-rows_in s ∙ sym of_points) ∙ ap (λ n. points * n) (sym of_row)

      pub point_size : k ≡ 1 → IsBodySize row
      point_size is = omega (arith, of_row, no_parts 1 is refl, point_long (rows_in s) wide, ap length (as_point Iso d s), as_type 1 is)

      pub line_size : k ≡ 2 → (n : ℕ) → n ≡ 4 + points * row → IsBodySize n
      line_size is n counted = omega (arith, counted, of_rows, no_parts 2 is refl, counted_long row_bytes w (rows_in s) wide, ap length (as_line Iso d s), as_type 2 is)

      pub polygon_size : k ≡ 3 → (n : ℕ) → n ≡ 4 + rings * 4 → IsBodySize (n + points * row)
      polygon_size is n counted =
          omega (arith, counted, of_rings, of_rows, no_parts 3 is refl, cover_long [] (rows_in s) w wide (rings_in s) (chained 3 is refl), ap length (as_lines Iso d s), as_type 3 is)

      pub points_size : k ≡ 4 → (n : ℕ) → n ≡ 4 + points * (5 + row) → IsBodySize n
      points_size is n counted =
          let front = head Iso 1 d in
          let bytes : List ℕ → List ℕ = λ row. front ++ row_bytes row in
          let each : All (Long bytes (5 + w)) (rows_in s) = All-weaker (Long row_bytes w) (Long bytes (5 + w)) (λ row long. length-append front (row_bytes row) ∙ omega (arith, long)) (rows_in s) wide in
          let all : length (rows_in s) * (5 + w) ≡ points * (5 + row) = ap (λ n. n * (5 + w)) (length-rows_in s ∙ sym of_points) ∙ ap (λ n. points * (5 + n)) (sym of_row) in
          omega (arith, counted, all, no_parts 4 is refl, counted_long bytes (5 + w) (rows_in s) each, ap length (as_points Iso d s), as_type 4 is)

      pub lines_size : k ≡ 5 → (n : ℕ) → n ≡ 4 + rings * 9 → IsBodySize (n + points * row)
      lines_size is n counted =
          let front = head Iso 2 d in
          omega (arith, counted, of_rings, of_rows, no_parts 5 is refl, cover_long front (rows_in s) w wide (rings_in s) (chained 5 is refl), ap length (as_line_strings Iso d s front refl), as_type 5 is)

      several : length (counted parts_bytes) ≡ 4 + length (concat parts_bytes)
      several = length-append (little_bytes 4 (length parts_bytes)) (concat parts_bytes) ∙ omega (arith, length-bytes_low_first 0 4 (length parts_bytes))

      pub polygons_size : k ≡ 6 → IsBodySize 4
      polygons_size is = omega (arith, several, ap length (as_polygons Iso d s), as_type 6 is)

      pub shapes_size : k ≡ 7 → IsBodySize 4
      shapes_size is = omega (arith, several, ap length (as_shapes Iso d s), as_type 7 is)
