-- What clauses see of a buffer.
use Rattle.std.specs.Prelude.{◌≡◌, ℕ, ◌+◌, ◌≤◌, true, false, List, length, Option, MatchOption}
use Rattle.flat_layout.specs.Layout.{is_offset, target, is_absent, is_field, field_place}
use Rattle.flat_views.specs.declared.buffer.Buf.{Buf}

-- its bytes
abbrev pub buf_bytes : Buf → List ℕ
buf_bytes buf = buf.bytes.now

-- where they begin in the file
abbrev pub buf_base : Buf → ℕ
buf_base buf = buf.base

-- a sound offset stands at p, and leads here
abbrev pub LeadsTo : List ℕ → ℕ → ℕ → Type 0
LeadsTo b p here = (is_offset b p ≡ true) × (here ≡ target b p) × (here + 4 ≤ length b)

-- field f of w bytes of the table at t is absent, or stands here
abbrev pub ShowsField : ℕ → List ℕ → ℕ → ℕ → Option ℕ → Type 0
ShowsField w b t f o =
    MatchOption o (is_absent b t f ≡ true)
    (λ here. (is_absent b t f ≡ false) × (is_field w b t f ≡ true) × (here ≡ field_place b t f)
    × (here + w ≤ length b))
