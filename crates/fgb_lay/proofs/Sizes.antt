-- The buffers that are left.
use Rattle.std.proofs.Common.{◌≡◌, ◌∙◌, ℕ, ◌+◌, ◌<◌, ◌≤◌, List, [], ◌++◌, length, drop, get_or, Vec, Global, ap, sym, length-append}
use Rattle.std.specs.List.{concat}
use Rattle.std.proofs.lemmas.List.{drop_all, drop_more}
use Rattle.laid_features.specs.Buffers.{framed}
use Rattle.laid_features.proofs.Framing.{framed_long}
use Rattle.fgb_lay.specs.Plans.{framed_all}

-- those from a place on, as they stand in a file
abbrev pub left_bytes : List (Vec ℕ Global) → ℕ → List ℕ
left_bytes buffers i = concat (framed_all (drop i buffers))

pub left_none : (buffers : List (Vec ℕ Global)) (i : ℕ) → length buffers ≤ i → left_bytes buffers i ≡ []
left_none buffers i past = ap (λ bs. concat (framed_all bs)) (drop_all i buffers past)

module _ (buffers : List (Vec ℕ Global)) (i : ℕ) (buffer : Vec ℕ Global) (early : i < length buffers) (is : buffer ≡ get_or buffers i buffer) where
  left_next : left_bytes buffers i ≡ framed buffer.items ++ left_bytes buffers (i + 1)
  left_next =
      ap (λ bs. concat (framed_all bs)) (drop_more buffers i buffer early)
      ∙ ap (λ (b : Vec ℕ Global). framed b.items ++ left_bytes buffers (i + 1)) (sym is)

  -- as it is lent
  pub left_split : (bytes : List ℕ) → bytes ≡ buffer.items → left_bytes buffers i ≡ framed bytes ++ left_bytes buffers (i + 1)
  left_split bytes lent = left_next ∙ ap (λ b. framed b ++ left_bytes buffers (i + 1)) (sym lent)

  pub left_long : length (left_bytes buffers i) ≡ 4 + length buffer.items + length (left_bytes buffers (i + 1))
  left_long =
      ap length left_next ∙ length-append (framed buffer.items) (left_bytes buffers (i + 1))
      ∙ ap (λ n. n + length (left_bytes buffers (i + 1))) (framed_long buffer.items)
