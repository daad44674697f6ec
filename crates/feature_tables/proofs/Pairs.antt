-- Properties that were laid read back, and break nothing.
use Rattle.std.proofs.Common.{◌≡◌, ℕ, zero, suc, ◌+◌, ◌^◌, ◌<◌, ◌≤◌, true, false, List, [], ◌∷◌, ◌++◌, length, length-append, append_assoc, drop, slice_index, refl, ap, ap₂, sym, subst, ◌∙◌, arith}
use Rattle.std.specs.Prelude.{nat_lt, nat_le, ◌&&◌}
use Rattle.std.specs.List.{AllByRecursion}
use Rattle.std.proofs.lemmas.Bool.{and_from, le-leb, lt-ltb, true≢false}
use Rattle.std.proofs.lemmas.List.{drop_at, drop-drop, length-drop}
use Rattle.byteorder.specs.Endian.{little_bytes}
use Rattle.byteorder.specs.Numbers.{length-bytes_low_first}
use Rattle.flat_layout.specs.Layout.{number_at}
use Rattle.flat_layout.specs.declared.Rule.{Rule}
use Rattle.flat_layout.specs.Promises.{IsClean}
use Rattle.fgb_values.specs.Values.{Content, fits, size_in, value_in}
use Rattle.fgb_schema.specs.Properties.{Property, key, type_under, is_pair, pair_size, property_in, properties_within, properties_in, IsKeyPlace, front, behind, BreaksPair, cut_key, no_column, cut_value, BreaksProperties}
use Rattle.feature_tables.specs.Laying.{value_bytes, pair_bytes, properties_bytes}
use Rattle.feature_tables.specs.Records.{IsProperty, NamesColumn}
use Rattle.feature_tables.proofs.Values.{IsRead, number_front, value_read}

pair_length : (p : Property) → length (pair_bytes p) ≡ 2 + length (value_bytes p.kind p.content)
unfolding pair_bytes
pair_length p = length-append (little_bytes 2 p.column) (value_bytes p.kind p.content) ∙ ap (λ n. n + length (value_bytes p.kind p.content)) (length-bytes_low_first 0 2 p.column)

-- the pairs behind one have room
first_room : (p : Property) (rest : List ℕ) → length (pair_bytes p ++ rest) < 2 ^ 32 → length (pair_bytes p) < 2 ^ 32
first_room p rest room = omega (arith, room, length-append (pair_bytes p) rest)

rest_room : (p : Property) (rest : List ℕ) (n : ℕ) → length (pair_bytes p ++ rest) < n → length rest + 2 < n
rest_room p rest n room = omega (arith, room, length-append (pair_bytes p) rest, pair_length p)

module _ (kinds : List ℕ) where
  -- what stands in front of some bytes is the pair of this property
  record IsPair (p : Property) (b rest : List ℕ) : Type 0 where
    pub long : 2 ≤ length b
    pub column : key b ≡ p.column
    pub fitting : fits (type_under kinds b) (drop 2 b) ≡ true
    pub size : pair_size kinds b ≡ length (pair_bytes p)
    pub same : property_in kinds b ≡ p
    pub left : drop (pair_size kinds b) b ≡ rest

  module _ (p : Property) (rest : List ℕ) (is : IsProperty p) (named : NamesColumn kinds p) (room : length (pair_bytes p) < 2 ^ 32) where
    abbrev laid : List ℕ
    laid = little_bytes 2 p.column ++ value_bytes p.kind p.content ++ rest

    value : IsRead p.kind p.content (value_bytes p.kind p.content) rest
    value = value_read p.kind p.content rest is.value (omega (arith, room, pair_length p))

    apart : laid ≡ little_bytes 2 p.column ++ (value_bytes p.kind p.content ++ rest)
    apart = append_assoc (little_bytes 2 p.column) (value_bytes p.kind p.content) rest

    column_is : key laid ≡ p.column
    unfolding key
    column_is = ap (λ xs. number_at 2 xs 0) apart ∙ number_front 2 p.column (value_bytes p.kind p.content ++ rest) is.key

    type_is : type_under kinds laid ≡ p.kind
    unfolding type_under
    type_is = ap (slice_index kinds) column_is ∙ named.same

    value_there : drop 2 laid ≡ value_bytes p.kind p.content ++ rest
    value_there = ap (drop 2) apart ∙ drop_at (little_bytes 2 p.column) (value_bytes p.kind p.content ++ rest) 2 (length-bytes_low_first 0 2 p.column)

    fitting_is : fits (type_under kinds laid) (drop 2 laid) ≡ true
    fitting_is = ap₂ fits type_is value_there ∙ value.whole

    size_is : pair_size kinds laid ≡ 2 + length (value_bytes p.kind p.content)
    unfolding pair_size
    size_is = ap (λ n. 2 + n) (ap₂ size_in type_is value_there ∙ value.size)

    same_property : (column kind : ℕ) (content : Content) → column ≡ p.column → kind ≡ p.kind → content ≡ p.content → (let made : Property = record { column = column; kind = kind; content = content } in made) ≡ p
    same_property column kind content a b c = rw (a, b, c) refl

    property_is : property_in kinds laid ≡ p
    unfolding property_in
    property_is = same_property (key laid) (type_under kinds laid) (value_in (type_under kinds laid) (drop 2 laid)) column_is type_is (ap₂ value_in type_is value_there ∙ value.same)

    pair_read : IsPair p (pair_bytes p ++ rest) rest
    unfolding pair_bytes
    pair_read = record {
      long = omega (arith, pair_length p, length-append (little_bytes 2 p.column ++ value_bytes p.kind p.content) rest);
      column = column_is;
      fitting = fitting_is;
      size = size_is ∙ sym (pair_length p);
      same = property_is;
      left = drop_at (little_bytes 2 p.column ++ value_bytes p.kind p.content) rest (pair_size kinds laid) (pair_length p ∙ sym size_is);
    }

  whole : (p : Property) (b rest : List ℕ) → NamesColumn kinds p → IsPair p b rest → is_pair kinds b ≡ true
  unfolding is_pair
  whole p b rest named pair =
      and_from (nat_le 2 (length b) && nat_lt (key b) (length kinds)) (fits (type_under kinds b) (drop 2 b))
      (and_from (nat_le 2 (length b)) (nat_lt (key b) (length kinds)) (le-leb 2 (length b) pair.long) (lt-ltb (key b) (length kinds) (omega (arith, pair.column, named.there))))
      pair.fitting

  no_pair : is_pair kinds [] ≡ false
  unfolding is_pair
  no_pair = refl

  -- one pair more
  within_more : (n : ℕ) (b rest : List ℕ) (p : Property) → is_pair kinds b ≡ true → property_in kinds b ≡ p → drop (pair_size kinds b) b ≡ rest
      → properties_within (suc n) kinds b ≡ p ∷ properties_within n kinds rest
  within_more n b rest p is same left = rw is (ap₂ (λ p rest. p ∷ properties_within n kinds rest) same left)

  pairs_within : (n : ℕ) (ps : List Property) → length (properties_bytes ps) ≤ n → length (properties_bytes ps) < 2 ^ 32 → AllByRecursion IsProperty ps → AllByRecursion (NamesColumn kinds) ps
      → properties_within n kinds (properties_bytes ps) ≡ ps
  pairs_within zero [] most room are named = refl
  pairs_within zero (p ∷ rest) most room are named = absurd (omega (arith, rest_room p (properties_bytes rest) 1 (omega (arith, most))))
  pairs_within (suc n) [] most room are named = rw no_pair refl
  pairs_within (suc n) (p ∷ rest) most room are named =
      let pair = pair_read p (properties_bytes rest) are.0 named.0 (first_room p (properties_bytes rest) room) in
      within_more n (pair_bytes p ++ properties_bytes rest) (properties_bytes rest) p (whole p (pair_bytes p ++ properties_bytes rest) (properties_bytes rest) named.0 pair) pair.same pair.left
      ∙ ap (λ ps. p ∷ ps) (pairs_within n rest (omega (arith, rest_room p (properties_bytes rest) (suc (suc n)) (omega (arith, most)))) (omega (arith, rest_room p (properties_bytes rest) (2 ^ 32) room)) are.1 named.1)

  pub properties_read : (ps : List Property) → length (properties_bytes ps) < 2 ^ 32 → AllByRecursion IsProperty ps → AllByRecursion (NamesColumn kinds) ps → properties_in kinds (properties_bytes ps) ≡ ps
  unfolding properties_in
  properties_read ps room are named = pairs_within (length (properties_bytes ps)) ps (omega arith) room are named

  -- from a place on stand the pairs of some properties
  record Follow (b : List ℕ) (q : ℕ) : Type 0 where
    pub rest : List Property
    pub room : length (properties_bytes rest) < 2 ^ 32
    pub are : AllByRecursion IsProperty rest
    pub named : AllByRecursion (NamesColumn kinds) rest
    pub here : drop q b ≡ properties_bytes rest

  next_follow : (b : List ℕ) (at : ℕ) (rest : List Property) → length (properties_bytes rest) < 2 ^ 32 → AllByRecursion IsProperty rest → AllByRecursion (NamesColumn kinds) rest
      → drop at b ≡ properties_bytes rest → is_pair kinds (drop at b) ≡ true → Follow b (at + pair_size kinds (drop at b))
  next_follow b at [] room are named here is = absurd (true≢false (sym is ∙ ap (is_pair kinds) here ∙ no_pair))
  next_follow b at (p ∷ rest) room are named here is = record {
    rest = rest;
    room = omega (arith, rest_room p (properties_bytes rest) (2 ^ 32) room);
    are = are.1;
    named = named.1;
    here =
        sym (drop-drop (pair_size kinds (drop at b)) at b)
        ∙ ap (λ xs. drop (pair_size kinds xs) xs) here
        ∙ (pair_read p (properties_bytes rest) are.0 named.0 (first_room p (properties_bytes rest) room)).left;
  }

  module _ (ps : List Property) (room : length (properties_bytes ps) < 2 ^ 32) (are : AllByRecursion IsProperty ps) (named : AllByRecursion (NamesColumn kinds) ps) where
    follow : (q : ℕ) → IsKeyPlace kinds (properties_bytes ps) q → Follow (properties_bytes ps) q
    follow q front = record { rest = ps; room = room; are = are; named = named; here = refl }
    follow q (behind {at} place is) = let before = follow at place in next_follow (properties_bytes ps) at before.rest before.room before.are before.named before.here is

  -- a whole pair breaks nothing
  pair_kept : (b : List ℕ) (q : ℕ) (r : Rule) (p : Property) (rest : List ℕ) → NamesColumn kinds p → IsPair p (drop q b) rest → BreaksPair kinds b q r → ⊥
  pair_kept b q r p rest named pair (cut_key short) = omega (arith, short, pair.long, length-drop q b)
  pair_kept b q r p rest named pair (no_column long none) = omega (arith, none, pair.column, named.there)
  pair_kept b q r p rest named pair (cut_value long early cut) = true≢false (sym pair.fitting ∙ ap (fits (type_under kinds (drop q b))) (drop-drop 2 q b) ∙ cut)

  kept : (b : List ℕ) (q : ℕ) (r : Rule) (rest : List Property) → length (properties_bytes rest) < 2 ^ 32 → AllByRecursion IsProperty rest → AllByRecursion (NamesColumn kinds) rest
      → drop q b ≡ properties_bytes rest → q < length b → BreaksPair kinds b q r → ⊥
  kept b q r [] room are named here early broken = omega (arith, early, length-drop q b, ap length here)
  kept b q r (p ∷ rest) room are named here early broken =
      pair_kept b q r p (properties_bytes rest) named.0
      (subst (λ xs. IsPair p xs (properties_bytes rest)) (sym here) (pair_read p (properties_bytes rest) are.0 named.0 (first_room p (properties_bytes rest) room))) broken

  pub properties_clean : (ps : List Property) → length (properties_bytes ps) < 2 ^ 32 → AllByRecursion IsProperty ps → AllByRecursion (NamesColumn kinds) ps → IsClean (BreaksProperties kinds (properties_bytes ps))
  properties_clean ps room are named q r broken =
      let rests = follow ps room are named q broken.keyed in
      kept (properties_bytes ps) q r rests.rest rests.room rests.are rests.named rests.here broken.early broken.broken
