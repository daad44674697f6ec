-- Things that are taken one after another, in front of which stands how many they are.
use Rattle.std.proofs.Common.{◌≡◌, ℕ, ◌+◌, ◌<◌, ◌^◌, List, [], ◌∷◌, ◌++◌, length, map, refl, sym, ap₂, subst, arith}
use Rattle.std.specs.List.{All, flat_map}
use Rattle.std.proofs.lemmas.List.{flat_map_more, length-map, length_push}
use Rattle.std.proofs.lemmas.List.Elements.{All-nil, All-push}
use Rattle.flat_layout.specs.declared.Rule.{Rule}
use Rattle.wkb_writer.specs.declared.error.WkbError.{WkbError}
use Rattle.wkb_grammar.specs.Grammar.{Order, AreCounted, counted_in, number_bytes}
use Rattle.wkb_grammar.proofs.Sizes.{length-number}
use Rattle.wkb_grammar.proofs.Told.{concat-map}
use Rattle.wkb_reader.specs.declared.cursor.Cursor.{Cursor}
use Rattle.wkb_reader.specs.Broken.{BreaksCounted, in_thing, no_count}
use Rattle.wkb_reader.specs.Cursors.{Passes, Takes, TakesEach}
use Rattle.wkb_reader.specs.Refusals.{IsCut, cut_item, Refuses}
use Rattle.wkb_reader.proofs.Passing.{carry, passes_more, turned}

module _ {A : Type 0} (bytes : A → List ℕ) (Is : A → Type 0) where
  pub none_yet : (c : Cursor) (Shows : List A → Type 0) → Shows [] → TakesEach 0 c c bytes Is Shows
  none_yet c Shows shown = record {
    taken = [];
    is = (All-nil Is, refl);
    passed = record { stood = refl; moved = omega arith };
    shown = shown;
  }

  pub one_more : (count : ℕ) (a b c : Cursor) (Shows Then : List A → Type 0) (One : A → Type 0) → TakesEach count a b bytes Is Shows → Takes b c bytes Is One
      → ((front : List A) (x : A) → All Is front → Is x → Shows front → One x → Then (front ++ x ∷ [])) → TakesEach (count + 1) a c bytes Is Then
  one_more count a b c Shows Then One before new step = record {
    taken = before.taken ++ new.taken ∷ [];
    is = (All-push Is before.taken new.taken before.is.0 new.is, omega (arith, length_push before.taken new.taken, before.is.1));
    passed = subst (Passes a c) (flat_map_more bytes [] before.taken new.taken) (passes_more a b c (flat_map bytes before.taken) (bytes new.taken) before.passed new.passed);
    shown = step before.taken new.taken before.is.0 new.is before.shown new.shown;
  }

  -- bytes that end inside the count
  pub count_cut : (order : Order) (Breaks : List ℕ → ℕ → Rule → Type 0) (e : WkbError) (start : ℕ) (b : List ℕ) → Refuses start (IsCut 4 b) e → Refuses start (BreaksCounted order Is bytes Breaks b) e
  count_cut order Breaks e start b told = turned e start (IsCut 4 b) (BreaksCounted order Is bytes Breaks b) (λ q r broken. no_number q r broken) told
    where
      no_number : (q : ℕ) (r : Rule) → IsCut 4 b q r → BreaksCounted order Is bytes Breaks b q r
      no_number q r (cut_item short) = no_count short

  module _ (order : Order) (count i : ℕ) (start a b : Cursor) (Shows : List A → Type 0) (small : count < 2 ^ 32) (front : Passes start a (number_bytes order 4 count))
      (each : TakesEach i a b bytes Is Shows) where
    pub passed_all : Passes start b (number_bytes order 4 count ++ flat_map bytes each.taken)
    passed_all = passes_more start a b (number_bytes order 4 count) (flat_map bytes each.taken) front each.passed

    pub all_taken : i ≡ count → Takes start b (λ things. counted_in order (map bytes things)) (λ things. All Is things × AreCounted things) Shows
    all_taken whole =
        let same : number_bytes order 4 count ++ flat_map bytes each.taken ≡ counted_in order (map bytes each.taken) =
        ap₂ (λ n xs. number_bytes order 4 n ++ xs) (omega (arith, whole, each.is.1, length-map each.taken bytes)) (sym (concat-map bytes each.taken)) in
        record {
          taken = each.taken;
          is = (each.is.0, omega (arith, small, whole, each.is.1));
          passed = subst (Passes start b) same passed_all;
          shown = each.shown;
        }

    pub far : b.at ≡ start.at + (4 + length (flat_map bytes each.taken))
    far = omega (arith, front.moved, each.passed.moved, length-number order 4 count)

    pub one_fails : (e : WkbError) (Breaks : List ℕ → ℕ → Rule → Type 0) → i < count → Refuses b.at (Breaks b.rest.now) e → Refuses start.at (BreaksCounted order Is bytes Breaks start.rest.now) e
    one_fails e Breaks early told =
        carry e start.at b.at (4 + length (flat_map bytes each.taken)) (Breaks b.rest.now) (BreaksCounted order Is bytes Breaks start.rest.now) far
        (λ q r broken. in_thing count each.taken b.rest.now small passed_all.stood (omega (arith, early, each.is.1)) each.is.0 broken) told
