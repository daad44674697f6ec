-- Bytes that tell what they were made of, and where they end.
use Rattle.std.proofs.Common.{◌≡◌, ℕ, ◌^◌, ◌<◌, List, [], ◌∷◌, ◌++◌, length, drop, map, refl, sym, ap, ap₂, ◌∙◌, append_assoc, arith}
use Rattle.std.specs.List.{All, concat, flat_map}
use Rattle.std.proofs.lemmas.List.{drop_at, length-map}
use Rattle.std.proofs.lemmas.List.Elements.{All-head, All-tail}
use Rattle.byteorder.specs.Endian.{big_from, little_from, big_bytes, little_bytes}
use Rattle.byteorder.specs.Numbers.{big_number-reads_back, little_number-reads_back, length-bytes_high_first, length-bytes_low_first}
use Rattle.wkb_grammar.specs.Grammar.{Order, big, little, number_bytes, counted_in, AreCounted}

-- whatever follows, the bytes that f makes of a thing tell the thing
pub record IsTold {A : Type 0} (P : A → Type 0) (f : A → List ℕ) : Type 0 where
  pub told : (a b : A) (r s : List ℕ) → P a → P b → f a ++ r ≡ f b ++ s → (a ≡ b) × (r ≡ s)

-- the same of fewer things
pub told_weaker : {A : Type 0} (P Q : A → Type 0) (f : A → List ℕ) → ((a : A) → Q a → P a) → IsTold P f → IsTold Q f
told_weaker P Q f weaker t = record { told = λ a b r s p q same. t.told a b r s (weaker a p) (weaker b q) same }

-- bytes of one length, which can be read back
read_back : (f : ℕ → List ℕ) (read : List ℕ → ℕ) (width : ℕ) → ((x : ℕ) → length (f x) ≡ width)
    → ((x : ℕ) (rest : List ℕ) → x < 256 ^ width → read (f x ++ rest) ≡ x) → IsTold (λ x. x < 256 ^ width) f
read_back f read width sized back = record {
  told = λ a b r s low small same. (
    sym (back a r low) ∙ ap read same ∙ back b s small,
    sym (drop_at (f a) r width (sized a)) ∙ ap (drop width) same ∙ drop_at (f b) s width (sized b),
  );
}

-- numbers in either order
pub number_told : (order : Order) (width : ℕ) → IsTold (λ x. x < 256 ^ width) (number_bytes order width)
number_told big width = read_back (big_bytes width) (big_from 0 width) width (length-bytes_high_first width) (big_number-reads_back width)
number_told little width = read_back (little_bytes width) (little_from 0 width) width (length-bytes_low_first 0 width) (little_number-reads_back width)

-- as many things on both sides
pub each_told : {A : Type 0} (P : A → Type 0) (f : A → List ℕ) → IsTold P f → (xs ys : List A) (r s : List ℕ)
    → length xs ≡ length ys → All P xs → All P ys → flat_map f xs ++ r ≡ flat_map f ys ++ s → (xs ≡ ys) × (r ≡ s)
each_told P f t [] [] r s even p q same = (refl, same)
each_told P f t [] (y ∷ ys) r s even p q same = absurd (omega arith)
each_told P f t (x ∷ xs) [] r s even p q same = absurd (omega arith)
each_told P f t (x ∷ xs) (y ∷ ys) r s even p q same =
    let first = t.told x y (flat_map f xs ++ r) (flat_map f ys ++ s) (All-head P x xs p) (All-head P y ys q)
    (sym (append_assoc (f x) (flat_map f xs) r) ∙ same ∙ append_assoc (f y) (flat_map f ys) s) in
    let others = each_told P f t xs ys r s (omega arith) (All-tail P x xs p) (All-tail P y ys q) first.1 in
    (ap₂ (λ z zs. z ∷ zs) first.0 others.0, others.1)

pub concat-map : {A : Type 0} (f : A → List ℕ) (xs : List A) → concat (map f xs) ≡ flat_map f xs
concat-map f [] = refl
concat-map f (x ∷ xs) = ap (λ r. f x ++ r) (concat-map f xs)

-- things in front of which stands how many they are
pub counted_told : {A : Type 0} (order : Order) (P : A → Type 0) (f : A → List ℕ) → IsTold P f → IsTold (λ xs. All P xs × AreCounted xs) (λ xs. counted_in order (map f xs))
counted_told order P f t = record {
  told = λ xs ys r s p q same.
      let count = (number_told order 4).told (length (map f xs)) (length (map f ys)) (concat (map f xs) ++ r) (concat (map f ys) ++ s)
      (omega (arith, p.1, length-map xs f)) (omega (arith, q.1, length-map ys f))
      (sym (append_assoc (number_bytes order 4 (length (map f xs))) (concat (map f xs)) r) ∙ same
      ∙ append_assoc (number_bytes order 4 (length (map f ys))) (concat (map f ys)) s) in
      each_told P f t xs ys r s (sym (length-map xs f) ∙ count.0 ∙ length-map ys f) p.0 q.0
      (ap (λ l. l ++ r) (sym (concat-map f xs)) ∙ count.1 ∙ ap (λ l. l ++ s) (concat-map f ys));
}
