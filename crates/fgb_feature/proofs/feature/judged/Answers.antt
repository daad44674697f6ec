use Rattle.std.proofs.Common.{◌≤◌, ℕ, List, length, ap, arith}
use Rattle.std.proofs.lemmas.Grind.{common_steps}
use Rattle.flat_layout.specs.Layout.{elements}
use Rattle.flat_views.specs.Vectors.{vector_bytes, vector_place, vector_width}
use Rattle.fgb_feature.proofs.feature.judged.Goals as goal

-- the elements are in the buffer
within : (w : ℕ) (b : List ℕ) (v : ℕ) → length (elements w b v) ≤ length b
unfolding elements
within w b v = grind (arith, common_steps)

pub read-requires-clause-small : goal.read-requires-clause-small
read-requires-clause-small c =
    let list = c.in-Some.list in
    omega (arith, ap length c.bytes.ensures, within (vector_width list) (vector_bytes list) (vector_place list), list.buf.small)
