-- The vector of a feature's properties, if there is one: its bytes, and where the first of them stands in the file.
use Rattle.std.specs.Prelude.{ℕ, ◌+◌, List, [], Option, Some, None}
use Rattle.flat_layout.specs.Layout.{elements}
use Rattle.flat_views.specs.declared.vectors.VecView.{VecView}
use Rattle.flat_views.specs.Vectors.{vector_base, vector_bytes, vector_place, vector_width}

abbrev pub bytes_shown : Option VecView → List ℕ
bytes_shown None = []
bytes_shown (Some list) = elements (vector_width list) (vector_bytes list) (vector_place list)

abbrev pub first_place : Option VecView → ℕ
first_place None = 0
first_place (Some list) = vector_base list + vector_place list + 4
