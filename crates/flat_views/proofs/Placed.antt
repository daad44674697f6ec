-- What is said of a table, of a vector, or of a vector of tables, is said of its place.
use Rattle.std.proofs.Common.{◌≡◌, ℕ, true, List, sym, subst}
use Rattle.flat_layout.specs.Layout.{is_vector}
use Rattle.flat_views.specs.declared.tables.Table.{Table}
use Rattle.flat_views.specs.declared.vectors.VecView.{VecView}
use Rattle.flat_views.specs.declared.vectors.TableVec.{TableVec}
use Rattle.flat_views.specs.Tables.{IsTableAt, base_of, bytes_of, place_of}
use Rattle.flat_views.specs.Vectors.{IsVectorAt, vector_base, vector_bytes, vector_place}
use Rattle.flat_views.specs.TableVecs.{IsTableVecAt, tables_base, tables_bytes, tables_place}

module _ (P : ℕ → List ℕ → ℕ → Type 0) {j k v p : ℕ} {s b : List ℕ} where
  moved : j ≡ k → s ≡ b → v ≡ p → P j s v → P k b p
  moved base bytes place said = subst (P k b) place (subst (λ s. P k s v) bytes (subst (λ k. P k s v) base said))

module _ (base : ℕ) (b : List ℕ) (p : ℕ) where
  pub at_table : (table : Table) → IsTableAt b base p table → (P : ℕ → List ℕ → ℕ → Type 0) → P (base_of table) (bytes_of table) (place_of table) → P base b p
  at_table table at P said = moved P at.same_base at.same_bytes at.same_place said

  pub of_place : (table : Table) → IsTableAt b base p table → (P : ℕ → List ℕ → ℕ → Type 0) → P base b p → P (base_of table) (bytes_of table) (place_of table)
  of_place table at P said = moved P (sym at.same_base) (sym at.same_bytes) (sym at.same_place) said

  pub at_vector : (width : ℕ) (vector : VecView) → IsVectorAt b base p width vector → (P : ℕ → List ℕ → ℕ → Type 0) → P (vector_base vector) (vector_bytes vector) (vector_place vector) → P base b p
  at_vector width vector at P said = moved P at.same_base at.same_bytes at.same_place said

  pub at_list : (list : TableVec) → IsTableVecAt b base p list → (P : ℕ → List ℕ → ℕ → Type 0) → P (tables_base list) (tables_bytes list) (tables_place list) → P base b p
  at_list list at P said = moved P at.same_base at.same_bytes at.same_place said

  pub list_of_place : (list : TableVec) → IsTableVecAt b base p list → (P : ℕ → List ℕ → ℕ → Type 0) → P base b p → P (tables_base list) (tables_bytes list) (tables_place list)
  list_of_place list at P said = moved P (sym at.same_base) (sym at.same_bytes) (sym at.same_place) said

-- a vector of tables is sound
pub sound_list : (list : TableVec) → is_vector 4 (tables_bytes list) (tables_place list) ≡ true
sound_list list = subst (λ w. is_vector w (tables_bytes list) (tables_place list) ≡ true) list.wide list.entries.sound
