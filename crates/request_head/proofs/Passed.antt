-- The fields that a loop has passed.
use Rattle.std.proofs.Common.{◌≡◌, ◌<◌, ◌+◌, ◌∙◌, ℕ, zero, suc, refl, sym, ap, arith, Bool, true, false, List, [], ◌∷◌, ◌++◌, length, take, drop, get_or, append-nil, take-append-drop, Bor, Option, Some, None}
use Rattle.std.specs.Prelude.{◌&&◌, if◌then◌else◌, map}
use Rattle.std.specs.List.{list_all}
use Rattle.std.specs.Option.{is_some, option_map, option_to_list}
use Rattle.std.proofs.lemmas.Bool.{false≢true}
use Rattle.std.proofs.lemmas.Grind.{flat_map-append}
use Rattle.std.proofs.lemmas.List.{map-append, take_more}
use Rattle.httparse.specs.declared.spans.HeaderSpan.{HeaderSpan}
use Rattle.http1.specs.Fields.{Header, is_named, values_named}
use Rattle.request_head.specs.Requests.{only}

and_false : (b : Bool) → (b && false) ≡ false
and_false true = refl
and_false false = refl

and_first : (a b : Bool) → (a && b) ≡ true → a ≡ true
and_first true b h = refl
and_first false b h = h

and_rest : (a b : Bool) → (a && b) ≡ true → b ≡ true
and_rest true b h = h
and_rest false b h = absurd (false≢true h)

module _ (test : Header → Bool) (at : HeaderSpan → Header) where
  -- one that fails
  pub all_fails : (fields : List HeaderSpan) (i : ℕ) (d : HeaderSpan) → i < length fields → test (at (get_or fields i d)) ≡ false
      → list_all test (map at fields) ≡ false
  all_fails [] i d inside fails = absurd (omega arith)
  all_fails (f ∷ fields) zero d inside fails = ap (λ b. b && list_all test (map at fields)) fails
  all_fails (f ∷ fields) (suc i) d inside fails =
      ap (λ b. test (at f) && b) (all_fails fields i d (omega arith) fails) ∙ and_false (test (at f))

  -- one more that passes
  pub all_more : (fields : List HeaderSpan) (i : ℕ) (d : HeaderSpan) → i < length fields → list_all test (map at (take i fields)) ≡ true
      → test (at (get_or fields i d)) ≡ true → list_all test (map at (take (i + 1) fields)) ≡ true
  all_more fields i d inside before passes =
      ap (λ fs. list_all test (map at fs)) (take_more fields i d inside) ∙ ends (take i fields) before
    where
      ends : (front : List HeaderSpan) → list_all test (map at front) ≡ true → list_all test (map at (front ++ get_or fields i d ∷ [])) ≡ true
      ends [] h = ap (λ b. b && true) passes
      ends (f ∷ front) h =
          let first : test (at f) ≡ true = and_first (test (at f)) (list_all test (map at front)) h in
          let rest : list_all test (map at front) ≡ true = and_rest (test (at f)) (list_all test (map at front)) h in
          ap (λ b. b && list_all test (map at (front ++ get_or fields i d ∷ []))) first ∙ ends front rest

-- what a field adds to the values of this name
abbrev value_if : List ℕ → Header → List (List ℕ)
value_if name field = if is_named name field then field.1 ∷ [] else []

values_append : (name : List ℕ) (xs ys : List Header) → values_named name (xs ++ ys) ≡ values_named name xs ++ values_named name ys
values_append name xs ys = flat_map-append (value_if name) xs ys

pub values_more : (name : List ℕ) (at : HeaderSpan → Header) (fields : List HeaderSpan) (i : ℕ) (d : HeaderSpan) → i < length fields
    → values_named name (map at (take (i + 1) fields)) ≡ values_named name (map at (take i fields)) ++ value_if name (at (get_or fields i d))
values_more name at fields i d inside =
    ap (λ fs. values_named name (map at fs)) (take_more fields i d inside)
    ∙ ap (values_named name) (map-append at (take i fields) (get_or fields i d ∷ []))
    ∙ values_append name (map at (take i fields)) (at (get_or fields i d) ∷ [])
    ∙ ap (λ vs. values_named name (map at (take i fields)) ++ vs) (append-nil (value_if name (at (get_or fields i d))))

-- the next field has another name
pub found_still : (name : List ℕ) (at : HeaderSpan → Header) (fields : List HeaderSpan) (i : ℕ) (d : HeaderSpan) (found : Option (List ℕ)) → i < length fields
    → option_to_list found ≡ values_named name (map at (take i fields)) → is_named name (at (get_or fields i d)) ≡ false
    → option_to_list found ≡ values_named name (map at (take (i + 1) fields))
found_still name at fields i d found inside before other =
    before ∙ sym (append-nil (values_named name (map at (take i fields))))
    ∙ ap (λ b. values_named name (map at (take i fields)) ++ (if b then (at (get_or fields i d)).1 ∷ [] else [])) (sym other)
    ∙ sym (values_more name at fields i d inside)

-- it has this name
pub found_now : (name : List ℕ) (at : HeaderSpan → Header) (fields : List HeaderSpan) (i : ℕ) (d : HeaderSpan) (found : Option (List ℕ)) → i < length fields
    → option_to_list found ≡ values_named name (map at (take i fields)) → is_some found ≡ false → is_named name (at (get_or fields i d)) ≡ true
    → (at (get_or fields i d)).1 ∷ [] ≡ values_named name (map at (take (i + 1) fields))
found_now name at fields i d (Some v) inside before none same = absurd (false≢true (sym none))
found_now name at fields i d None inside before none same =
    ap (λ vs. vs ++ (at (get_or fields i d)).1 ∷ []) before
    ∙ ap (λ b. values_named name (map at (take i fields)) ++ (if b then (at (get_or fields i d)).1 ∷ [] else [])) (sym same)
    ∙ sym (values_more name at fields i d inside)

-- and so had one before it
pub found_twice : (name : List ℕ) (at : HeaderSpan → Header) (fields : List HeaderSpan) (i : ℕ) (d : HeaderSpan) (found : Option (List ℕ)) → i < length fields
    → option_to_list found ≡ values_named name (map at (take i fields)) → is_some found ≡ true → is_named name (at (get_or fields i d)) ≡ true
    → None ≡ only (values_named name (map at fields))
found_twice name at fields i d None inside before some same = absurd (false≢true some)
found_twice name at fields i d (Some v) inside before some same =
    let two : values_named name (map at (take (i + 1) fields)) ≡ v ∷ (at (get_or fields i d)).1 ∷ [] =
    values_more name at fields i d inside
    ∙ ap (λ vs. vs ++ value_if name (at (get_or fields i d))) (sym before)
    ∙ ap (λ b. (v ∷ []) ++ (if b then (at (get_or fields i d)).1 ∷ [] else [])) same in
    ap (λ vs. only (vs ++ values_named name (map at (drop (i + 1) fields)))) (sym two)
    ∙ ap only (sym (values_append name (map at (take (i + 1) fields)) (map at (drop (i + 1) fields))))
    ∙ ap (λ fs. only (values_named name fs)) (sym (map-append at (take (i + 1) fields) (drop (i + 1) fields)))
    ∙ ap (λ fs. only (values_named name (map at fs))) (take-append-drop (i + 1) fields)

-- what was found is the only one
pub found_only : (found : Option (List ℕ)) (values : List (List ℕ)) → option_to_list found ≡ values → found ≡ only values
found_only None values e = ap only e
found_only (Some v) values e = ap only e

pub some_seen : (found : Option (Bor (List ℕ))) → is_some (option_map (λ value. value.now) found) ≡ is_some found
some_seen None = refl
some_seen (Some v) = refl
