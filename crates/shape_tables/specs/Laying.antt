-- The table as which a shape is laid (FlatGeobuf, feature.fbs, Geometry): its type always, and a vector where it is not
-- empty. The ends of rings are left out where the points tell them: where there is one ring, with points.
use Rattle.std.specs.Prelude.{ℕ, ◌+◌, ◌==◌, List, [], ◌∷◌, map, if◌then◌else◌, Option, Some, None}
use Rattle.fgb_schema.specs.Shapes.{Shape, shape, Shapes, none as no_shapes, more, Ordinates}
use Rattle.flat_builder.specs.Trees.{Item, number, vector, tables, Fields, none, put, Tables, empty, push}

-- x and y by turns
abbrev pub turns : List (ℕ × ℕ) → List ℕ
turns [] = []
turns (p ∷ rest) = p.0 ∷ p.1 ∷ turns rest

-- the ends of rings, where the points alone do not tell them
abbrev pub told_ends : List (ℕ × ℕ) → List ℕ
told_ends [] = []
told_ends (ring ∷ []) = if ring.0 == ring.1 then ring.1 ∷ [] else []
told_ends (ring ∷ next ∷ rest) = map (λ r. r.1) (ring ∷ next ∷ rest)

-- a vector of numbers of so many bytes each, and one of tables
abbrev pub numbers_item : ℕ → List ℕ → Option Item
numbers_item w [] = None
numbers_item w (first ∷ rest) = Some (vector w (first ∷ rest))

abbrev pub tables_item : Tables → Option Item
tables_item empty = None
tables_item (push before last) = Some (tables (push before last))

-- the table with those of these fields that are there, whose ids go from this one on
abbrev pub with_fields : Fields → ℕ → List (Option Item) → Fields
with_fields fs id [] = fs
with_fields fs id (None ∷ rest) = with_fields fs (id + 1) rest
with_fields fs id (Some it ∷ rest) = with_fields (put fs id it) (id + 1) rest

-- ends, xy, z, m, t, tm, type, parts
abbrev pub shape_items : ℕ → List (ℕ × ℕ) → List (ℕ × ℕ) → Ordinates → Tables → List (Option Item)
shape_items kind own rings ordinates parts =
    numbers_item 4 (told_ends rings) ∷ numbers_item 8 (turns own) ∷ numbers_item 8 ordinates.z ∷ numbers_item 8 ordinates.m
    ∷ numbers_item 8 ordinates.t ∷ numbers_item 8 ordinates.tm ∷ Some (number 1 kind) ∷ tables_item parts ∷ []

unfoldable mutual
  pub shape_table : Shape → Fields
  shape_table (shape kind own rings ordinates parts) = with_fields none 0 (shape_items kind own rings ordinates (part_tables parts empty))

  -- the tables of some shapes behind others
  pub part_tables : Shapes → Tables → Tables
  part_tables no_shapes before = before
  part_tables (more first rest) before = part_tables rest (push before (shape_table first))
