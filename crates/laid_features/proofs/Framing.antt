-- A buffer behind its size prefix is read as a piece of a file.
use Rattle.std.proofs.Common.{◌≡◌, ℕ, ◌+◌, ◌-◌, ◌^◌, ◌<◌, ◌≤◌, List, length, slice_range, sym, ap, subst, ◌∙◌, arith, length-append}
use Rattle.std.proofs.lemmas.List.{take_all}
use Rattle.byteorder.specs.Endian.{little_bytes}
use Rattle.byteorder.specs.Numbers.{little_number-reads_back}
use Rattle.flat_layout.specs.Layout.{number_at}
use Rattle.flat_layout.specs.Promises.{IsClean}
use Rattle.fgb_schema.specs.Headers.{Header}
use Rattle.fgb_schema.specs.Paths.{feature_root}
use Rattle.fgb_schema.specs.Weights.{BreaksBuffer}
use Rattle.fgb_file.specs.File.{IsFeature}
use Rattle.laid_features.specs.Buffers.{framed}

pub framed_long : (buffer : List ℕ) → length (framed buffer) ≡ 4 + length buffer
framed_long buffer = length-append (little_bytes 4 (length buffer)) buffer

-- the buffer in a piece
pub framed_back : (buffer : List ℕ) → slice_range (framed buffer) 4 (length (framed buffer)) ≡ buffer
framed_back buffer = take_all (length (framed buffer) - 4) buffer (omega (arith, framed_long buffer))

size_back : (buffer : List ℕ) → length buffer < 2 ^ 32 → number_at 4 (framed buffer) 0 ≡ length buffer
unfolding number_at
size_back buffer small = little_number-reads_back 4 (length buffer) buffer small

-- one that breaks no rule
pub framed_feature : (header : Header) (buffer : List ℕ) → length buffer ≤ 268435456 → IsClean (BreaksBuffer buffer (feature_root header)) → IsFeature header (framed buffer)
framed_feature header buffer room clean =
    let size : number_at 4 (framed buffer) 0 ≡ length buffer = size_back buffer (omega (arith, room)) in record {
      framed = record { sized = framed_long buffer ∙ ap (λ n. 4 + n) (sym size); small = omega (arith, room, size) };
      clean = subst (λ b. IsClean (BreaksBuffer b (feature_root header))) (sym (framed_back buffer)) clean;
    }
