-- What was asked of a file: how it follows from what was asked of its start, its header and its features.
use Rattle.std.proofs.Common.{◌≡◌, ℕ, ◌+◌, ◌-◌, List, [], ◌∷◌, ◌++◌, length, refl, sym, ap, subst, ◌∙◌, zero-add, arith}
use Rattle.std.specs.List.{AllByRecursion, range_with_len}
use Rattle.std.proofs.lemmas.List.{append-nil}
use Rattle.fgb_outside.specs.Source.{Source, added}
use Rattle.fgb_outside.specs.Asked.{IsInside, Reads, ReadsFront}
use Rattle.fgb_outside.proofs.Asking.{range_with_len-append, reads_reads, reads_weaken, reads_along, reads_front, front_longer, front_weaken, front_along, reads_then_front}
use Rattle.fgb_file.specs.File.{header_size, header_end, IsStart, IsUnindexed, IsDeclared, of_start, of_header, of_features}
use Rattle.fgb_reader.specs.Starts.{IsOfStart}
use Rattle.fgb_reader.specs.Requests.{AsksAtMost, AsksAll, AsksFront, mebibytes, requests}
use Rattle.fgb_reader.proofs.Going.{asks_on}

-- all of some positions is a front of them
pub whole_front : {P : ℕ × ℕ → Type 0} {s s' : Source} (xs : List ℕ) → Reads P s s' xs → ReadsFront P s s' xs
whole_front xs reads = front_along (xs ++ []) xs (append-nil xs) (reads_front [] reads)

declared_start : (image : List ℕ) (size : ℕ) → length image ≡ size → (pair : ℕ × ℕ) → IsOfStart size pair → IsDeclared image pair
declared_start image size is pair of = of_start (record { short = omega (arith, is, of.short); long = omega (arith, is, of.long) }) of.inside

-- the start failed: where the file has none, nothing was asked for
pub front_of_start : (image : List ℕ) (s s' : Source) (size : ℕ) → length image ≡ size → ReadsFront (IsOfStart size) s s' (range_with_len 0 12) → AsksFront image s s'
front_of_start image s s' size is front = cases front.pairs refl
  where
    cases : (pairs : List (ℕ × ℕ)) → pairs ≡ front.pairs → AsksFront image s s'
    cases [] same = record {
      keeps = front.keeps;
      pairs = [];
      rest = range_with_len 0 (length image);
      asks = refl;
      allowed = tt;
      told = λ known. front.told known ∙ ap (added s.asked) (sym same);
    }
    cases (p ∷ ps) same =
        let all : AllByRecursion (IsOfStart size) (p ∷ ps) = subst (AllByRecursion (IsOfStart size)) (sym same) front.allowed in
        let whole : 12 + (length image - 12) ≡ length image = omega (arith, is, all.0.long) in
        front_along _ _ (sym (range_with_len-append 0 12 (length image - 12)) ∙ ap (range_with_len 0) whole)
        (front_longer (range_with_len 12 (length image - 12)) (front_weaken (IsOfStart size) (IsDeclared image) (declared_start image size is) front))

-- a start that breaks no rule, and a header of its size
module _ (image : List ℕ) (size len : ℕ) (is : length image ≡ size) (start : IsStart image) (same : len ≡ header_size image) where
  front_whole : range_with_len 0 12 ++ range_with_len 12 len ++ range_with_len (12 + len) (size - (12 + len)) ≡ range_with_len 0 (length image)
  front_whole =
      let e : 12 + len + (size - (12 + len)) ≡ length image = omega (arith, is, same, start.inside) in
      ap (λ xs. xs ++ range_with_len (12 + len) (size - (12 + len))) (sym (range_with_len-append 0 12 len))
      ∙ ap (λ k. range_with_len 0 (12 + len) ++ range_with_len k (size - (12 + len))) (sym (zero-add (12 + len)))
      ∙ sym (range_with_len-append 0 (12 + len) (size - (12 + len)))
      ∙ ap (range_with_len 0) e

  declared_header : (pair : ℕ × ℕ) → IsInside 12 (12 + len) pair → IsDeclared image pair
  declared_header pair inside = of_header start (subst (λ n. IsInside 12 (12 + n) pair) same inside)

  declared_features : IsUnindexed image → (pair : ℕ × ℕ) → IsInside (12 + len) size pair → IsDeclared image pair
  declared_features unindexed pair inside = of_features unindexed (subst (λ n. IsInside (header_end image) n pair) (sym is) (subst (λ n. IsInside (12 + n) size pair) same inside))

  two : {s s1 s2 : Source} → Reads (IsOfStart size) s s1 (range_with_len 0 12) → Reads (IsInside 12 (12 + len)) s1 s2 (range_with_len 12 len) → Reads (IsDeclared image) s s2 (range_with_len 0 12 ++ range_with_len 12 len)
  two first second = reads_reads (reads_weaken (IsOfStart size) (IsDeclared image) (declared_start image size is) first) (reads_weaken (IsInside 12 (12 + len)) (IsDeclared image) declared_header second)

  -- the header failed
  pub front_of_header : {s s1 s2 : Source} → Reads (IsOfStart size) s s1 (range_with_len 0 12) → ReadsFront (IsInside 12 (12 + len)) s1 s2 (range_with_len 12 len) → AsksFront image s s2
  front_of_header first second = front_along _ _ front_whole (front_longer (range_with_len (12 + len) (size - (12 + len)))
      (reads_then_front (reads_weaken (IsOfStart size) (IsDeclared image) (declared_start image size is) first) (front_weaken (IsInside 12 (12 + len)) (IsDeclared image) declared_header second)))

  -- the file was refused behind the header, in front of the features
  pub front_behind : {s s1 s2 : Source} → Reads (IsOfStart size) s s1 (range_with_len 0 12) → Reads (IsInside 12 (12 + len)) s1 s2 (range_with_len 12 len) → AsksFront image s s2
  front_behind first second = front_along _ _ front_whole (reads_front (range_with_len (12 + len) (size - (12 + len))) (two first second))

  -- reading stopped in the features
  pub front_in_features : {s s1 s2 s3 : Source} → IsUnindexed image → Reads (IsOfStart size) s s1 (range_with_len 0 12) → Reads (IsInside 12 (12 + len)) s1 s2 (range_with_len 12 len)
      → ReadsFront (IsInside (12 + len) size) s2 s3 (range_with_len (12 + len) (size - (12 + len))) → AsksFront image s s3
  front_in_features unindexed first second third = front_along _ _ front_whole (reads_then_front (two first second) (front_weaken (IsInside (12 + len) size) (IsDeclared image) (declared_features unindexed) third))

  -- the features were read to their end
  all_read : {s s1 s2 s3 : Source} → IsUnindexed image → Reads (IsOfStart size) s s1 (range_with_len 0 12) → Reads (IsInside 12 (12 + len)) s1 s2 (range_with_len 12 len)
      → Reads (IsInside (12 + len) size) s2 s3 (range_with_len (12 + len) (size - (12 + len))) → Reads (IsDeclared image) s s3 (range_with_len 0 (length image))
  all_read unindexed first second third = reads_along _ _ front_whole (reads_reads (two first second) (reads_weaken (IsInside (12 + len) size) (IsDeclared image) (declared_features unindexed) third))

  pub asks_all : {s s1 s2 s3 : Source} → IsUnindexed image → Reads (IsOfStart size) s s1 (range_with_len 0 12) → AsksAtMost 1 s s1
      → Reads (IsInside 12 (12 + len)) s1 s2 (range_with_len 12 len) → AsksAtMost (mebibytes len) s1 s2
      → Reads (IsInside (12 + len) size) s2 s3 (range_with_len (12 + len) (size - (12 + len))) → AsksAtMost (mebibytes (size - (12 + len))) s2 s3 → AsksAll image s s3
  asks_all {s = s} {s1 = s1} {s2 = s2} {s3 = s3} unindexed first one second few third more =
      let most : 1 + mebibytes len + mebibytes (size - (12 + len)) ≡ requests image =
      ap (λ n. 1 + mebibytes n + mebibytes (size - (12 + n))) same ∙ ap (λ n. 1 + mebibytes (header_size image) + mebibytes (n - header_end image)) (sym is) in
      record {
        reads = all_read unindexed first second third;
        few = subst (λ n. AsksAtMost n s s3) most (asks_on s s2 s3 (1 + mebibytes len) (mebibytes (size - (12 + len))) (asks_on s s1 s2 1 (mebibytes len) one second.keeps few) third.keeps more);
      }
