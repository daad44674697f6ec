-- The start and the header of a packing, as a reader finds them.
use Rattle.std.proofs.Common.{◌≡◌, ◌∙◌, ℕ, ◌+◌, ◌^◌, ◌≤◌, List, ◌++◌, length, slice_range, refl, ap, sym, subst, append_assoc, arith, length-append}
use Rattle.byteorder.specs.Numbers.{little_number-reads_back}
use Rattle.flat_layout.specs.Layout.{number_at}
use Rattle.flat_layout.specs.Promises.{IsClean}
use Rattle.tree_writer.proofs.Slices.{slice_middle}
use Rattle.fgb_schema.specs.Paths.{header_root}
use Rattle.fgb_schema.specs.Headers.{Header, header_of}
use Rattle.fgb_schema.specs.Weights.{BreaksBuffer}
use Rattle.fgb_file.specs.File.{IsHeader, header_buffer, header_end, header_in, header_size}
use Rattle.packed_file.specs.Packing.{start_bytes}

-- the start and a header's buffer, and behind them the bytes of an index and those of features
abbrev pub front : List ℕ → List ℕ
front head = start_bytes head ++ head

abbrev pub made : List ℕ → List ℕ → List ℕ → List ℕ
made head index features = front head ++ index ++ features

pub front_long : (head : List ℕ) → length (front head) ≡ 12 + length head
front_long head = length-append (start_bytes head) head

pub made_long : (head index features : List ℕ) → length (made head index features) ≡ 12 + length head + length index + length features
made_long head index features = omega (arith, front_long head, length-append (front head ++ index) features, length-append (front head) index)

module _ (head index features : List ℕ) (small : length head ≤ 10485760) where
  abbrev image : List ℕ
  image = made head index features

  size_is : header_size image ≡ length head
  unfolding number_at
  size_is = little_number-reads_back 4 (length head) ((head ++ index) ++ features) (omega arith)

  pub end_is : header_end image ≡ length (front head)
  end_is = ap (λ n. 12 + n) size_is ∙ sym (front_long head)

  buffer_is : header_buffer image ≡ head
  buffer_is =
      ap (λ n. slice_range image 12 (12 + n)) size_is
      ∙ ap (λ s. slice_range s 12 (12 + length head)) (append_assoc (front head) index features)
      ∙ slice_middle (start_bytes head) head (index ++ features) 12 (12 + length head) refl refl

  pub header_is : (header : Header) → header_of head ≡ header → header_in image ≡ header
  header_is header shown = ap header_of buffer_is ∙ shown

  pub header_sound : IsClean (BreaksBuffer head header_root) → length image ≤ 2 ^ 48 → IsHeader image
  header_sound clean within = record {
    start = record {
      sized = record { short = within; long = omega (arith, made_long head index features) };
      magic = refl;
      small = omega (arith, size_is);
      inside = omega (arith, size_is, made_long head index features);
    };
    clean = subst (λ b. IsClean (BreaksBuffer b header_root)) (sym buffer_is) clean;
  }
