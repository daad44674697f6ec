-- The start and the header of a file, as a reader finds them.
use Rattle.std.proofs.Common.{◌≡◌, ◌∙◌, ℕ, ◌+◌, ◌-◌, ◌^◌, ◌≤◌, List, ◌++◌, length, refl, ap, sym, subst, arith, length-append}
use Rattle.std.proofs.lemmas.List.{take_at}
use Rattle.byteorder.specs.Numbers.{little_number-reads_back}
use Rattle.flat_layout.specs.Layout.{number_at}
use Rattle.flat_layout.specs.Promises.{IsClean}
use Rattle.fgb_schema.specs.Paths.{header_root}
use Rattle.fgb_schema.specs.Headers.{Header, header_of}
use Rattle.fgb_schema.specs.Weights.{BreaksBuffer}
use Rattle.fgb_file.specs.File.{IsHeader, header_buffer, header_end, header_in, header_size}
use Rattle.packed_file.specs.Packing.{start_bytes}

-- the start and a header's buffer, and behind them the bytes of features
abbrev pub front : List ℕ → List ℕ
front head = start_bytes head ++ head

abbrev pub made : List ℕ → List ℕ → List ℕ
made head features = front head ++ features

pub front_long : (head : List ℕ) → length (front head) ≡ 12 + length head
front_long head = length-append (start_bytes head) head

pub made_long : (head features : List ℕ) → length (made head features) ≡ 12 + length head + length features
made_long head features = omega (arith, front_long head, length-append (front head) features)

module _ (head features : List ℕ) (small : length head ≤ 10485760) where
  abbrev image : List ℕ
  image = made head features

  size_is : header_size image ≡ length head
  unfolding number_at
  size_is = little_number-reads_back 4 (length head) (head ++ features) (omega arith)

  pub end_is : header_end image ≡ length (front head)
  end_is = ap (λ n. 12 + n) size_is ∙ sym (front_long head)

  buffer_is : header_buffer image ≡ head
  buffer_is = take_at head features (header_end image - 12) (omega (arith, size_is))

  pub header_is : (header : Header) → header_of head ≡ header → header_in image ≡ header
  header_is header shown = ap header_of buffer_is ∙ shown

  pub header_sound : IsClean (BreaksBuffer head header_root) → length image ≤ 2 ^ 48 → IsHeader image
  header_sound clean within = record {
    start = record {
      sized = record { short = within; long = omega (arith, made_long head features) };
      magic = refl;
      small = omega (arith, size_is);
      inside = omega (arith, size_is, made_long head features);
    };
    clean = subst (λ b. IsClean (BreaksBuffer b header_root)) (sym buffer_is) clean;
  }
