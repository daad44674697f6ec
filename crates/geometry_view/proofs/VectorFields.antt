-- The fields of a geometry that lead to a vector: what is broken in one is broken in all of them, and they are clean
-- one by one.
use Rattle.std.proofs.Common.{◌≡◌, ◌⊎◌, inl, inr, ⊎_elim, ℕ, ◌||◌, ◌&&◌, Bool, true, false, List, [], ◌∷◌, ◌++◌, if◌then◌else◌, refl, ap, sym, ◌∙◌, arith, subst}
use Rattle.std.specs.List.{AllByRecursion}
use Rattle.std.proofs.lemmas.Bool.{cases_Bool}
use Rattle.flat_layout.specs.declared.Rule.{Rule}
use Rattle.flat_layout.specs.Layout.{is_absent, is_field, is_offset, is_vector, field_place, led_to, count}
use Rattle.flat_layout.specs.Promises.{IsClean, BreaksVector, BreaksTo}
use Rattle.flat_layout.proofs.Judging.{vector-clean}
use Rattle.fgb_schema.specs.Tables.{has_points, has_rings, has_parts, numbers}
use Rattle.fgb_schema.specs.Paths.{IsAmong, is_listed, count_in}
use Rattle.fgb_schema.proofs.TablesParts.{among_front}
use Rattle.fgb_schema.proofs.Links.{IsLink, linked, linked_own}
use Rattle.geometry_view.specs.Lists.{vectors_of, BreaksVectors}

-- membership in a list of two, and in one that may be left out
module _ {A : Type 0} where
  pub among_back : (x : A) (xs ys : List A) → IsAmong x ys → IsAmong x (xs ++ ys)
  among_back x [] ys among = among
  among_back x (z ∷ zs) ys among = inr (among_back x zs ys among)

  pub among_split : (x : A) (xs ys : List A) → IsAmong x (xs ++ ys) → IsAmong x xs ⊎ IsAmong x ys
  among_split x [] ys among = inr among
  among_split x (z ∷ zs) ys (inl same) = inl (inl same)
  among_split x (z ∷ zs) ys (inr later) = ⊎_elim (λ front. inl (inr front)) (λ back. inr back) (among_split x zs ys later)

  pub among_if : (s : Bool) (x : A) (xs : List A) → s ≡ true → IsAmong x xs → IsAmong x (if s then xs else [])
  among_if s x xs is among = subst (λ s. IsAmong x (if s then xs else [])) (sym is) among

  pub among_given : (s : Bool) (x : A) (xs : List A) → IsAmong x (if s then xs else []) → (s ≡ true) × IsAmong x xs
  among_given true x xs among = (refl, among)
  among_given false x xs among = absurd among

  pub among_all : (P : A → Type 0) (x : A) (xs : List A) → AllByRecursion P xs → IsAmong x xs → P x
  among_all P x [] all among = absurd among
  among_all P x (z ∷ zs) all (inl same) = subst P (sym same) all.0
  among_all P x (z ∷ zs) all (inr later) = among_all P x zs all.1 later

-- the field, the offset in it or the vector breaks nothing
abbrev pub VectorClean : List ℕ → ℕ → ℕ × ℕ → Type 0
VectorClean b t x = IsClean (BreaksTo (BreaksVector x.1) b t x.0)

-- a field with its width: the ends; xy, z, m, t and tm; the parts
abbrev pub ring_vectors : List (ℕ × ℕ)
ring_vectors = (0, 4) ∷ []

abbrev pub point_vectors : List (ℕ × ℕ)
point_vectors = (1, 8) ∷ (2, 8) ∷ (3, 8) ∷ (4, 8) ∷ (5, 8) ∷ []

abbrev pub part_vectors : List (ℕ × ℕ)
part_vectors = (7, 4) ∷ []

module _ (k : ℕ) where
  abbrev rings_read : List (ℕ × ℕ)
  rings_read = if has_rings k then ring_vectors else []

  abbrev points_read : List (ℕ × ℕ)
  points_read = if has_points k then point_vectors else []

  abbrev parts_read : List (ℕ × ℕ)
  parts_read = if has_parts k then part_vectors else []

  -- what holds of each of these fields holds of the one that is among them
  pub each_vector : (P : ℕ × ℕ → Type 0) → (has_rings k ≡ true → P (0, 4)) → (has_points k ≡ true → AllByRecursion P point_vectors) → (has_parts k ≡ true → P (7, 4))
      → (x : ℕ × ℕ) → IsAmong x (vectors_of k) → P x
  each_vector P rings points parts x among = ⊎_elim
      (λ front. ⊎_elim
      (λ ring. let given = among_given (has_rings k) x ring_vectors ring in among_all P x ring_vectors (rings given.0, tt) given.1)
      (λ point. let given = among_given (has_points k) x point_vectors point in among_all P x point_vectors (points given.0) given.1)
      (among_split x rings_read points_read front))
      (λ part. let given = among_given (has_parts k) x part_vectors part in among_all P x part_vectors (parts given.0, tt) given.1)
      (among_split x (rings_read ++ points_read) parts_read among)

  module _ (b : List ℕ) (t : ℕ) where
    pub from_ring : has_rings k ≡ true → (q : ℕ) (r : Rule) → BreaksTo (BreaksVector 4) b t 0 q r → BreaksVectors k b t q r
    from_ring rings q r broken = record {
      vector = (0, 4);
      among = among_front (0, 4) (rings_read ++ points_read) parts_read (among_front (0, 4) rings_read points_read (among_if (has_rings k) (0, 4) ring_vectors rings (inl refl)));
      broken = broken;
    }

    pub from_point : has_points k ≡ true → (x : ℕ × ℕ) → IsAmong x point_vectors → (q : ℕ) (r : Rule) → BreaksTo (BreaksVector x.1) b t x.0 q r → BreaksVectors k b t q r
    from_point points x among q r broken = record {
      vector = x;
      among = among_front x (rings_read ++ points_read) parts_read (among_back x rings_read points_read (among_if (has_points k) x point_vectors points among));
      broken = broken;
    }

    pub from_part : has_parts k ≡ true → (q : ℕ) (r : Rule) → BreaksTo (BreaksVector 4) b t 7 q r → BreaksVectors k b t q r
    from_part parts q r broken = record {
      vector = (7, 4);
      among = among_back (7, 4) (rings_read ++ points_read) parts_read (among_if (has_parts k) (7, 4) part_vectors parts (inl refl));
      broken = broken;
    }

    pub ring_clean : IsClean (BreaksVectors k b t) → has_rings k ≡ true → VectorClean b t (0, 4)
    ring_clean clean rings q r broken = clean q r (from_ring rings q r broken)

    pub point_clean : IsClean (BreaksVectors k b t) → has_points k ≡ true → (x : ℕ × ℕ) → IsAmong x point_vectors → VectorClean b t x
    point_clean clean points x among q r broken = clean q r (from_point points x among q r broken)

    pub part_clean : IsClean (BreaksVectors k b t) → has_parts k ≡ true → VectorClean b t (7, 4)
    part_clean clean parts q r broken = clean q r (from_part parts q r broken)

-- how many elements it has
module _ (b : List ℕ) (t f : ℕ) where
  pub count_there : is_absent b t f ≡ false → count_in b t f ≡ count b (led_to b t f)
  count_there present = rw present refl

  pub count_absent : is_absent b t f ≡ true → count_in b t f ≡ 0
  count_absent absent = rw absent refl

module _ (width : ℕ) (b : List ℕ) (t f : ℕ) where
  -- a field that breaks nothing and is there is a link to a sound vector
  pub vector_link : VectorClean b t (f, width) → is_absent b t f ≡ false → IsLink b t f
  vector_link clean present = linked b (numbers width) (BreaksVector width) t f clean present

  pub vector_sound : VectorClean b t (f, width) → is_absent b t f ≡ false → is_vector width b (led_to b t f) ≡ true
  vector_sound clean present = vector-clean width b (led_to b t f) (linked_own b (numbers width) (BreaksVector width) t f clean (vector_link clean present))

  pub listed : VectorClean b t (f, width) → is_listed width b t f ≡ true
  listed clean = elim (cases_Bool (is_absent b t f)) [
    | inl absent ↦ ap (λ x. x || (is_field 4 b t f && is_offset b (field_place b t f) && is_vector width b (led_to b t f))) absent
    | inr present ↦ let l = vector_link clean present in rw (present, l.field, l.offset, vector_sound clean present) refl
  ]

  -- the same of one that is absent or sound
  all_three : is_listed width b t f ≡ true → is_absent b t f ≡ false → (is_field 4 b t f && is_offset b (field_place b t f) && is_vector width b (led_to b t f)) ≡ true
  all_three whole present = ap (λ x. x || (is_field 4 b t f && is_offset b (field_place b t f) && is_vector width b (led_to b t f))) (sym present) ∙ whole

  pub listed_link : is_listed width b t f ≡ true → is_absent b t f ≡ false → IsLink b t f
  listed_link whole present = let all = all_three whole present in record {
    present = present;
    field = grind (arith, all);
    offset = grind (arith, all);
  }

  pub listed_sound : is_listed width b t f ≡ true → is_absent b t f ≡ false → is_vector width b (led_to b t f) ≡ true
  listed_sound whole present = let all = all_three whole present in grind (arith, all)
