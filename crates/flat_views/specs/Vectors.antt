-- What clauses see of a vector.
use Rattle.std.specs.Prelude.{◌≡◌, ℕ, List, [], true, false, Option, Some, None, MatchOption}
use Rattle.flat_layout.specs.Layout.{is_absent, led_to, words, longs}
use Rattle.flat_views.specs.Buffers.{buf_bytes, buf_base}
use Rattle.flat_views.specs.declared.vectors.VecView.{VecView}

-- the bytes of its buffer
abbrev pub vector_bytes : VecView → List ℕ
vector_bytes vector = buf_bytes vector.buf

-- where the buffer begins in the file
abbrev pub vector_base : VecView → ℕ
vector_base vector = buf_base vector.buf

-- the place of the vector in the buffer
abbrev pub vector_place : VecView → ℕ
vector_place vector = vector.place

-- the bytes of each element
abbrev pub vector_width : VecView → ℕ
vector_width vector = vector.width

-- the vector at this place of these bytes, with elements of this width
pub record IsVectorAt (bytes : List ℕ) (base place width : ℕ) (vector : VecView) : Type 0 where
  pub same_bytes : vector_bytes vector ≡ bytes
  pub same_base : vector_base vector ≡ base
  pub same_place : vector_place vector ≡ place
  pub same_width : vector_width vector ≡ width

-- field f of the table at t is absent, or the vector that it leads to
abbrev pub ShowsVector : ℕ → List ℕ → ℕ → ℕ → ℕ → Option VecView → Type 0
ShowsVector width bytes base t f o =
    MatchOption o (is_absent bytes t f ≡ true)
    (λ vector. (is_absent bytes t f ≡ false) × IsVectorAt bytes base (led_to bytes t f) width vector)

-- the numbers of a vector of 8 bytes each, and of one of 4 bytes each, none where there is no vector
abbrev pub longs_shown : Option VecView → List ℕ
longs_shown None = []
longs_shown (Some vector) = longs (vector_bytes vector) (vector_place vector)

abbrev pub words_shown : Option VecView → List ℕ
words_shown None = []
words_shown (Some vector) = words (vector_bytes vector) (vector_place vector)
