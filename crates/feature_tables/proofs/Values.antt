-- A value that was laid reads back, whatever follows.
use Rattle.std.proofs.Common.{◌≡◌, ℕ, ℤ, pos, negsuc, suc, ◌+◌, ◌-◌, ◌*◌, ◌^◌, ◌<◌, ◌≤◌, true, false, List, ◌++◌, length, length-append, append_assoc, drop, if◌then◌else◌, refl, ap, sym, ◌∙◌, arith}
use Rattle.std.specs.Prelude.{nat_lt, nat_le, ◌-ℤ◌}
use Rattle.std.specs.Int.{w8, w16, w32, w64, cast_unsigned}
use Rattle.std.specs.Int.RustNames.{FitsSigned}
use Rattle.std.proofs.lemmas.Bool.{and_from, le-leb, lt-ltb}
use Rattle.std.proofs.lemmas.Bool.Decides.{nat_tests}
use Rattle.std.proofs.Math.Facts.{Fits-of_z}
use Rattle.byteorder.specs.Endian.{little_bytes, twos_complement}
use Rattle.byteorder.specs.Numbers.{length-bytes_low_first, little_number-reads_back}
use Rattle.flat_layout.specs.Layout.{number_at}
use Rattle.flat_laid.proofs.Parts.{IsAt, slice_is}
use Rattle.fgb_values.specs.Values.{Content, Whole, Truth, Pattern, Bytes, has_length, is_signed, width, front, size_in, fits, value_in}
use Rattle.feature_tables.specs.Laying.{value_bytes}
use Rattle.feature_tables.specs.Records.{IsValue, byte, ubyte, truth, short, ushort, int, uint, long, ulong, float, double, text, json, date_time, binary}

-- the bytes of a value, in front of others
pub record IsRead (kind : ℕ) (content : Content) (bytes rest : List ℕ) : Type 0 where
  pub whole : fits kind (bytes ++ rest) ≡ true
  pub size : size_in kind (bytes ++ rest) ≡ length bytes
  pub same : value_in kind (bytes ++ rest) ≡ content

-- the number in front of some bytes
pub number_front : (w v : ℕ) (rest : List ℕ) → v < 256 ^ w → number_at w (little_bytes w v ++ rest) 0 ≡ v
unfolding number_at
number_front w v rest low = little_number-reads_back w v rest low

within : (n : ℕ) (bytes rest : List ℕ) → n ≤ length bytes → nat_le n (length (bytes ++ rest)) ≡ true
within n bytes rest few = le-leb n (length (bytes ++ rest)) (omega (arith, few, length-append bytes rest))

-- what a type without a length says of the number in front
module _ (kind v : ℕ) (rest : List ℕ) (plain : has_length kind ≡ false) (low : v < 256 ^ width kind) where
  abbrev laid : List ℕ
  laid = little_bytes (width kind) v

  front_is : front kind (laid ++ rest) ≡ v
  unfolding front
  front_is = number_front (width kind) v rest low

  size_is : size_in kind (laid ++ rest) ≡ width kind
  unfolding size_in
  size_is = rw plain refl

  whole_is : fits kind (laid ++ rest) ≡ true
  unfolding fits
  whole_is =
      let long = length-bytes_low_first 0 (width kind) v in
      and_from (nat_le (width kind) (length (laid ++ rest))) (nat_le (size_in kind (laid ++ rest)) (length (laid ++ rest)))
      (within (width kind) laid rest (omega (arith, long))) (within (size_in kind (laid ++ rest)) laid rest (omega (arith, long, size_is)))

  number_read : (content : Content) → (says : ℕ → Content) → value_in kind (laid ++ rest) ≡ says (front kind (laid ++ rest)) → says v ≡ content → IsRead kind content laid rest
  number_read content says told same = record {
    whole = whole_is;
    size = size_is ∙ sym (length-bytes_low_first 0 (width kind) v);
    same = told ∙ ap says front_is ∙ same;
  }

-- two's complement
positive : (half whole n : ℕ) → n < half → (if nat_lt n half then pos n else pos n -ℤ pos whole) ≡ pos n
positive half whole n low = rw (lt-ltb n half low) refl

negative : (half m n : ℕ) → n < half → suc m ≡ 2 * half → (if nat_lt (suc m - suc n) half then pos (suc m - suc n) else pos (suc m - suc n) -ℤ pos (suc m)) ≡ negsuc n
negative half m n low twice =
    let high : nat_lt (suc m - suc n) half ≡ false = grind (arith, nat_tests) in
    let less : nat_lt (suc m - suc n) (suc m) ≡ true = lt-ltb (suc m - suc n) (suc m) (omega arith) in
    let back : suc m - suc (suc m - suc n) ≡ n = omega (arith, low, twice) in
    rw (high, less) (ap negsuc back)

back_8 : (z : ℤ) → FitsSigned w8 z → twos_complement 1 (cast_unsigned w8 z) ≡ z
back_8 (pos n) room = positive 128 256 n room.sfits
back_8 (negsuc n) room = negative 128 255 n room.sfits refl

back_16 : (z : ℤ) → FitsSigned w16 z → twos_complement 2 (cast_unsigned w16 z) ≡ z
back_16 (pos n) room = positive 32768 65536 n room.sfits
back_16 (negsuc n) room = negative 32768 65535 n room.sfits refl

back_32 : (z : ℤ) → FitsSigned w32 z → twos_complement 4 (cast_unsigned w32 z) ≡ z
back_32 (pos n) room = positive 2147483648 4294967296 n room.sfits
back_32 (negsuc n) room = negative 2147483648 4294967295 n room.sfits refl

back_64 : (z : ℤ) → FitsSigned w64 z → twos_complement 8 (cast_unsigned w64 z) ≡ z
back_64 (pos n) room = positive 9223372036854775808 18446744073709551616 n room.sfits
back_64 (negsuc n) room = negative 9223372036854775808 18446744073709551615 n room.sfits refl

-- some bytes behind their count
module _ (kind : ℕ) (bytes rest : List ℕ) (counted : has_length kind ≡ true) (four : width kind ≡ 4) (room : length (little_bytes 4 (length bytes) ++ bytes) < 2 ^ 32) where
  abbrev text_laid : List ℕ
  text_laid = little_bytes 4 (length bytes) ++ bytes

  laid_length : length text_laid ≡ 4 + length bytes
  laid_length = length-append (little_bytes 4 (length bytes)) bytes ∙ ap (λ n. n + length bytes) (length-bytes_low_first 0 4 (length bytes))

  count_is : front kind (text_laid ++ rest) ≡ length bytes
  unfolding front
  count_is = ap (λ w. number_at w (text_laid ++ rest) 0) four ∙ ap (λ xs. number_at 4 xs 0) (append_assoc (little_bytes 4 (length bytes)) bytes rest)
      ∙ number_front 4 (length bytes) (bytes ++ rest) (omega (arith, room, laid_length))

  text_size : size_in kind (text_laid ++ rest) ≡ 4 + length bytes
  unfolding size_in
  text_size = rw (counted, four, count_is) refl

  text_whole : fits kind (text_laid ++ rest) ≡ true
  unfolding fits
  text_whole =
      and_from (nat_le (width kind) (length (text_laid ++ rest))) (nat_le (size_in kind (text_laid ++ rest)) (length (text_laid ++ rest)))
      (within (width kind) text_laid rest (omega (arith, laid_length, four))) (within (size_in kind (text_laid ++ rest)) text_laid rest (omega (arith, laid_length, text_size)))

  text_there : IsAt (text_laid ++ rest) 4 bytes
  text_there = record {
    behind = rest;
    reads = ap (drop 4) (append_assoc (little_bytes 4 (length bytes)) bytes rest);
    inside = omega (arith, laid_length, length-append text_laid rest);
  }

  text_same : value_in kind (text_laid ++ rest) ≡ Bytes bytes
  unfolding value_in
  text_same = rw (counted, four, text_size) (ap Bytes (slice_is (text_laid ++ rest) bytes 4 (4 + length bytes) refl text_there))

  text_read : IsRead kind (Bytes bytes) text_laid rest
  text_read = record { whole = text_whole; size = text_size ∙ sym laid_length; same = text_same }

-- a value of any type, whose count has room
pub value_read : (kind : ℕ) (content : Content) (rest : List ℕ) → IsValue kind content → length (value_bytes kind content) < 2 ^ 32 → IsRead kind content (value_bytes kind content) rest
unfolding value_bytes value_in has_length is_signed width
value_read kind content rest (byte {z} room) few = number_read 0 (cast_unsigned w8 z) rest refl (omega (arith, Fits-of_z room)) (Whole z) (λ n. Whole (twos_complement 1 n)) refl (ap Whole (back_8 z room))
value_read kind content rest (ubyte {n} low) few = number_read 1 n rest refl low (Whole (pos n)) (λ n. Whole (pos n)) refl refl
value_read kind content rest (truth {y = true}) few = number_read 2 1 rest refl (omega arith) (Truth true) (λ n. Truth (nat_lt 0 n)) refl refl
value_read kind content rest (truth {y = false}) few = number_read 2 0 rest refl (omega arith) (Truth false) (λ n. Truth (nat_lt 0 n)) refl refl
value_read kind content rest (short {z} room) few = number_read 3 (cast_unsigned w16 z) rest refl (omega (arith, Fits-of_z room)) (Whole z) (λ n. Whole (twos_complement 2 n)) refl (ap Whole (back_16 z room))
value_read kind content rest (ushort {n} low) few = number_read 4 n rest refl low (Whole (pos n)) (λ n. Whole (pos n)) refl refl
value_read kind content rest (int {z} room) few = number_read 5 (cast_unsigned w32 z) rest refl (omega (arith, Fits-of_z room)) (Whole z) (λ n. Whole (twos_complement 4 n)) refl (ap Whole (back_32 z room))
value_read kind content rest (uint {n} low) few = number_read 6 n rest refl low (Whole (pos n)) (λ n. Whole (pos n)) refl refl
value_read kind content rest (long {z} room) few = number_read 7 (cast_unsigned w64 z) rest refl (omega (arith, Fits-of_z room)) (Whole z) (λ n. Whole (twos_complement 8 n)) refl (ap Whole (back_64 z room))
value_read kind content rest (ulong {n} low) few = number_read 8 n rest refl low (Whole (pos n)) (λ n. Whole (pos n)) refl refl
value_read kind content rest (float {n} low) few = number_read 9 n rest refl low (Pattern n) (λ n. Pattern n) refl refl
value_read kind content rest (double {n} low) few = number_read 10 n rest refl low (Pattern n) (λ n. Pattern n) refl refl
value_read kind content rest (text {bytes} each) few = text_read 11 bytes rest refl refl few
value_read kind content rest (json {bytes} each) few = text_read 12 bytes rest refl refl few
value_read kind content rest (date_time {bytes} each) few = text_read 13 bytes rest refl refl few
value_read kind content rest (binary {bytes} each) few = text_read 14 bytes rest refl refl few
