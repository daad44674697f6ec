-- How the values of features are gathered, and which feature has none.
use Rattle.std.proofs.Common.{◌≡◌, ◌∙◌, ℕ, ◌+◌, ◌<◌, ◌≤◌, List, [], ◌∷◌, ◌++◌, length, take, drop, get_or, Some, None, Result, Ok, Err, IsErrAnd, refl, sym, ap, subst, arith, drop-cons, add-one}
use Rattle.std.specs.Prelude.{IsSomeAnd, slice_get}
use Rattle.std.specs.List.{AllByRecursion, concat}
use Rattle.std.proofs.lemmas.List.{append-nil, length-take-le, take-append-drop, take_all}
use Rattle.std.proofs.lemmas.List.Folds.{concat-append}
use Rattle.flat_layout.specs.declared.Broken.{Broken}
use Rattle.fgb_schema.specs.Features.{Feature}
use Rattle.fgb_schema.specs.Shapes.{Shape}
use Rattle.fgb_outside.specs.Sink.{Sink, Appends, AppendsPart}
use Rattle.owned_shape.proofs.Fields.{at_place, take_more}
use Rattle.wkb_writer.specs.Dimensions.{HasNoWkb}
use Rattle.wkb_writer.specs.Wkb.{IsWkb}
use Rattle.wkb_writer.proofs.OnlyOne.{none_of_both}
use Rattle.wkb_features.specs.declared.error.ValuesError.{ValuesError}
use Rattle.wkb_features.specs.declared.error.ValuesError.TheVariants.{Memory, Refused, SinkFailed}
use Rattle.wkb_features.specs.Refusals.{AtRefusal, IfRefused, IsFirstWithout, IsNoValue}
use Rattle.wkb_features.specs.Values.{AreEach, AreValues, HasNoValue, HasValue, IsValue, Writes, WritesPart, front}

-- ## One feature

pub no_shape : (feature : Feature) → feature.shape ≡ None → HasNoValue feature
no_shape feature none value is = subst (λ o. IsSomeAnd o (λ u. IsWkb u value)) none is

pub no_spelling : (feature : Feature) (s : Shape) → feature.shape ≡ Some s → HasNoWkb s → HasNoValue feature
no_spelling feature s some lacks value is = none_of_both s value (subst (λ o. IsSomeAnd o (λ u. IsWkb u value)) some is) lacks

pub has_spelling : (feature : Feature) (s : Shape) (value : List ℕ) → feature.shape ≡ Some s → IsWkb s value → IsValue feature value
has_spelling feature s value some is = subst (λ o. IsSomeAnd o (λ u. IsWkb u value)) (sym some) is

-- ## One more

each_more : (features : List Feature) (values : List (List ℕ)) (feature : Feature) (value : List ℕ) → AreEach features values → IsValue feature value → AreEach (features ++ feature ∷ []) (values ++ value ∷ [])
each_more [] [] feature value each is = (is, tt)
each_more [] (w ∷ ws) feature value each is = absurd each
each_more (f ∷ fs) [] feature value each is = absurd each
each_more (f ∷ fs) (w ∷ ws) feature value each is = (each.0, each_more fs ws feature value each.1 is)

each_of : (features : List Feature) (values : List (List ℕ)) → AreEach features values → AllByRecursion HasValue features
each_of [] values each = tt
each_of (f ∷ fs) [] each = absurd each
each_of (f ∷ fs) (w ∷ ws) each = ((w, each.0), each_of fs ws each.1)

pub values_none : AreValues [] []
values_none = record { values = []; each = tt; whole = refl }

module _ (features : List Feature) (i : ℕ) (before : List ℕ) (are : AreValues (take i features) before) where
  pub values_all : length features ≤ i → AreValues features before
  values_all late = subst (λ fs. AreValues fs before) (take_all i features late) are

  module _ (feature : Feature) (early : i < length features) (is : feature ≡ get_or features i feature) where
    pub values_more : (value after : List ℕ) → IsValue feature value → after ≡ before ++ value → AreValues (take (i + 1) features) after
    values_more value after spelled grown =
        let longer = are.values ++ value ∷ [] in
        subst (λ fs. AreValues fs after) (sym (take_more features i feature (at_place features i feature early is))) (record {
          values = longer;
          each = each_more (take i features) are.values feature value are.each spelled;
          whole = grown ∙ ap (λ bytes. bytes ++ value) are.whole ∙ ap (λ bytes. concat are.values ++ bytes) (sym (append-nil value)) ∙ sym (concat-append are.values (value ∷ []));
        })

    -- it is the first that has none
    pub first_without : (places : List ℕ) (place : ℕ) (broken : Broken) → slice_get places i ≡ Some place → IsNoValue feature place broken → IsFirstWithout features places broken
    first_without places place broken there lacks =
        let rest = drop (i + 1) features in
        let split : drop i features ≡ feature ∷ rest =
        drop-cons features i feature early ∙ ap (λ n. get_or features i feature ∷ drop n features) (sym (add-one i)) ∙ ap (λ f. f ∷ rest) (sym is) in
        record {
          front = take i features;
          feature = feature;
          rest = rest;
          split = sym (take-append-drop i features) ∙ ap (λ fs. take i features ++ fs) split;
          earlier = each_of (take i features) are.values are.each;
          there = ap (slice_get places) (length-take-le i features (omega (arith, early))) ∙ there ∙ ap Some (sym lacks.at);
          none = record { none = lacks.none; at = refl; rule = lacks.rule };
        }

-- ## All

module _ (features : List Feature) (values lent : List ℕ) (o o' : Sink) (are : AreValues features values) (same : lent ≡ values) where
  pub writes_all : Appends o o' lent → Writes features o o'
  writes_all written = record { bytes = values; are = are; written = subst (Appends o o') same written }

  pub writes_front : AppendsPart o o' lent → WritesPart features o o'
  writes_front written = front are (subst (AppendsPart o o') same written)

-- ## Exits

-- that of the `?` of a refusal
at_error : (error other : ValuesError) (P : Broken → Type 0) → other ≡ error → AtRefusal error P → AtRefusal other P
at_error error other P is holds = subst (λ e. AtRefusal e P) (sym is) holds

refusal_map : (error : ValuesError) (P Q : Broken → Type 0) → ((broken : Broken) → P broken → Q broken) → AtRefusal error P → AtRefusal error Q
refusal_map (Refused broken) P Q f p = f broken p
refusal_map SinkFailed P Q f p = tt
refusal_map Memory P Q f p = tt

pub refusal_exit : {T : Type 0} (r : Result T ValuesError) (error : ValuesError) (P Q : Broken → Type 0) → IsErrAnd r (λ e. e ≡ error) → ((broken : Broken) → P broken → Q broken) → AtRefusal error P → IfRefused r Q
refusal_exit (Ok x) error P Q is f holds = tt
refusal_exit (Err e) error P Q is f holds = at_error error e Q is (refusal_map error P Q f holds)
