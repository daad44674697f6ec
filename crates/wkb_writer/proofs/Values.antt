-- The value of a shape, from its head and its body.
use Rattle.std.proofs.Common.{◌≡◌, ℕ, List, ◌++◌, map, refl, ap, sym, ◌∙◌}
use Rattle.std.proofs.lemmas.List.{append_assoc}
use Rattle.fgb_schema.specs.Shapes.{Shape, type_in, rings_in, parts_in}
use Rattle.wkb_writer.specs.declared.dialect.Dialect.{Dialect}
use Rattle.wkb_writer.specs.Dimensions.{Dimension}
use Rattle.wkb_writer.specs.Levels.{rows_in}
use Rattle.wkb_writer.specs.Wkb.{body, body_of, counted, head, line_bytes, point_body, ring_of, row_bytes, value_in}
use Rattle.wkb_writer.proofs.Trees.{value_of}

module _ (dialect : Dialect) (d : Dimension) (s : Shape) where
  -- the body of a shape if this were its type
  abbrev pub body_as : ℕ → List ℕ
  body_as kind = body dialect d kind (rows_in s) (rings_in s) (map (value_in dialect d) (parts_in s))

  pub body_whole : (kind n : ℕ) (bytes old new : List ℕ) → kind ≡ type_in s → kind ≡ n → new ≡ old ++ bytes → bytes ≡ body_as n → new ≡ old ++ body_of dialect d s
  body_whole kind n bytes old new is known grown behind =
      let as_type : bytes ≡ body_as (type_in s) = behind ∙ ap body_as (sym known ∙ is) in
      grown ∙ ap (λ ys. old ++ ys) as_type

  pub whole : (kind : ℕ) (front old between new : List ℕ) → kind ≡ type_in s → front ≡ head dialect kind d → between ≡ old ++ front → new ≡ between ++ body_of dialect d s
      → new ≡ old ++ value_in dialect d s
  whole kind front old between new is in_front begun grown =
      let begins : front ≡ head dialect (type_in s) d = in_front ∙ ap (λ k. head dialect k d) is in
      grown ∙ ap (λ ys. ys ++ body_of dialect d s) begun ∙ append_assoc old front (body_of dialect d s) ∙ ap (λ ys. old ++ (ys ++ body_of dialect d s)) begins
      ∙ ap (λ ys. old ++ ys) (sym (value_of dialect d s))

  pub as_point : point_body d (rows_in s) ≡ body_as 1
  unfolding body
  as_point = refl

  pub as_line : line_bytes (rows_in s) ≡ body_as 2
  unfolding body
  as_line = refl

  pub as_lines : counted (map (λ ring. line_bytes (ring_of (rows_in s) ring)) (rings_in s)) ≡ body_as 3
  unfolding body
  as_lines = refl

  pub as_points : counted (map (λ row. head dialect 1 d ++ row_bytes row) (rows_in s)) ≡ body_as 4
  unfolding body
  as_points = refl

  pub as_line_strings : (front : List ℕ) → front ≡ head dialect 2 d → counted (map (λ ring. front ++ line_bytes (ring_of (rows_in s) ring)) (rings_in s)) ≡ body_as 5
  unfolding body
  as_line_strings front is = ap (λ (front : List ℕ). counted (map (λ ring. front ++ line_bytes (ring_of (rows_in s) ring)) (rings_in s))) is

  pub as_polygons : counted (map (value_in dialect d) (parts_in s)) ≡ body_as 6
  unfolding body
  as_polygons = refl

  pub as_shapes : counted (map (value_in dialect d) (parts_in s)) ≡ body_as 7
  unfolding body
  as_shapes = refl
