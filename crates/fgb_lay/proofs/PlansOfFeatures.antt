-- What is planned of features is their file.
use Rattle.std.proofs.Common.{◌≡◌, ◌∙◌, ℕ, ◌+◌, ◌-◌, ◌^◌, ◌<◌, ◌≤◌, min, List, [], ◌∷◌, ◌++◌, length, map, Vec, Global, refl, ap, sym, subst, arith}
use Rattle.std.specs.Prelude.{vec_items}
use Rattle.std.specs.List.{AllByRecursion, concat}
use Rattle.std.proofs.lemmas.List.{length-map}
use Rattle.flat_layout.specs.Promises.{IsClean}
use Rattle.fgb_schema.specs.Headers.{Header, header_of}
use Rattle.fgb_schema.specs.Features.{Feature}
use Rattle.fgb_schema.specs.Paths.{header_root}
use Rattle.fgb_schema.specs.Weights.{BreaksBuffer}
use Rattle.fgb_file.specs.File.{IsFeature}
use Rattle.packed_file.specs.Packing.{header_bytes, packed_header, start_bytes}
use Rattle.laid_features.specs.Buffers.{IsTooLarge, buffer_of, buffers_of, framed, pieces_of, shown_in}
use Rattle.plain_file.specs.Plain.{large_file, large_header, plain_file, plain_head, plain_header}
use Rattle.plain_file.proofs.Plain.{plain_file_long, plain_header_shown, plain_is_file}
use Rattle.fgb_lay.specs.Laying.{HasNoRoom, IsLaid, laid_file, of_feature, of_file}
use Rattle.fgb_lay.specs.Plans.{IsPlan, framed_all, planned_bytes}
use Rattle.fgb_lay.specs.declared.planning.Plan.{Plan}

framed_each : (features : List Feature) → map framed (buffers_of features) ≡ pieces_of features
framed_each [] = refl
framed_each (f ∷ rest) = ap (λ ps. framed (buffer_of f) ∷ ps) (framed_each rest)

module _ (header : Header) (features : List Feature) (count : ℕ) (counted : count ≡ length features) where
  many : count ≡ length (pieces_of features)
  many = counted ∙ sym (length-map features (λ f. framed (buffer_of f)))

  head_same : header_bytes header count 0 ≡ plain_head header (pieces_of features)
  head_same = ap (λ n. header_bytes header n 0) many

  -- a header that is too large
  pub no_header : 10485760 < length (header_bytes header count 0) → HasNoRoom header features
  no_header large = of_file (large_header (subst (λ head. 10485760 < length head) head_same large))

  module _ (head : List ℕ) (buffers : List (Vec ℕ Global)) (is_head : head ≡ header_bytes header count 0) (are_buffers : map vec_items buffers ≡ buffers_of features) where
    head_is : head ≡ plain_head header (pieces_of features)
    head_is = is_head ∙ head_same

    pieces_are : framed_all buffers ≡ pieces_of features
    pieces_are = ap (map framed) are_buffers ∙ framed_each features

    whole : start_bytes head ++ head ++ concat (framed_all buffers) ≡ laid_file header features
    unfolding plain_file
    whole =
        ap (λ h. start_bytes h ++ h ++ concat (framed_all buffers)) head_is
        ∙ ap (λ ps. start_bytes (plain_head header (pieces_of features)) ++ plain_head header (pieces_of features) ++ concat ps) pieces_are

    long : length (laid_file header features) ≡ 12 + length head + length (concat (framed_all buffers))
    long =
        plain_file_long header (pieces_of features)
        ∙ ap (λ h. 12 + length h + length (concat (pieces_of features))) (sym head_is)
        ∙ ap (λ ps. 12 + length head + length (concat ps)) (sym pieces_are)

    module _ (bytes : ℕ) (sized : bytes ≡ min (length (concat (framed_all buffers))) (2 ^ 64 - 1)) where
      -- a file that is too large
      pub no_file : 2 ^ 48 < 12 + length head + bytes → HasNoRoom header features
      no_file large = of_file (large_file (omega (arith, long, sized, large)))

      module _ (size : ℕ) (size_is : size ≡ 12 + length head + bytes) (within : size ≤ 2 ^ 48) (small : length head ≤ 10485760) where
        exact : size ≡ length (laid_file header features)
        exact = omega (arith, long, sized, size_is, within)

        has_room : (IsTooLarge features → ⊥) → HasNoRoom header features → ⊥
        has_room room (of_feature large) = room large
        has_room room (of_file (large_header large)) = omega (arith, large, small, ap length head_is)
        has_room room (of_file (large_file large)) = omega (arith, large, exact, within)

        valid : IsClean (BreaksBuffer head header_root) → header_of head ≡ packed_header header count 0 → AllByRecursion (IsFeature header) (pieces_of features)
            → map (shown_in header) (pieces_of features) ≡ features → IsLaid header features
        valid clean shows each shown =
            let pieces = pieces_of features in
            let few : length (plain_head header pieces) ≤ 10485760 = subst (λ h. length h ≤ 10485760) head_is small in
            let told : header_of (plain_head header pieces) ≡ plain_header header pieces = ap header_of (sym head_is) ∙ shows ∙ ap (λ n. packed_header header n 0) many in
            let sound : IsClean (BreaksBuffer (plain_head header pieces) header_root) = subst (λ h. IsClean (BreaksBuffer h header_root)) head_is clean in
            let short : length (plain_file header pieces) ≤ 2 ^ 48 = omega (arith, exact, within) in record {
              file = plain_is_file header pieces few told sound short each;
              told = plain_header_shown header pieces few told;
              shown = shown;
            }

        pub is_plan : (plan : Plan) → plan.head.items ≡ head → plan.buffers.items ≡ buffers → plan.size ≡ size → (IsTooLarge features → ⊥)
            → IsClean (BreaksBuffer head header_root) → header_of head ≡ packed_header header count 0 → AllByRecursion (IsFeature header) (pieces_of features)
            → map (shown_in header) (pieces_of features) ≡ features → IsPlan header features plan
        unfolding planned_bytes
        is_plan plan heads holds sizes room clean shows each shown = record {
          whole = ap (λ h. start_bytes h ++ h ++ concat (framed_all plan.buffers.items)) heads ∙ ap (λ bs. start_bytes head ++ head ++ concat (framed_all bs)) holds ∙ whole;
          size = sizes ∙ exact;
          fits = has_room room;
          valid = valid clean shows each shown;
        }
