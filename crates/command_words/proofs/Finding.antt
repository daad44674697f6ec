-- What words give, one word after another.
use Rattle.std.proofs.Common.{◌≡◌, ◌∙◌, ◌||◌, if◌then◌else◌, nat_eq, ℕ, ◌+◌, ◌<◌, [], ◌∷◌, ◌++◌, List, length, get_or, take, drop, Bool, true, false, refl, ap, sym, subst}
use Rattle.std.specs.Borrow.{Bor}
use Rattle.std.specs.Prelude.{Option, Some, None}
use Rattle.std.specs.Option.{MatchOption}
use Rattle.std.specs.List.{filter, cons_option, list_all, list_any, starts_with}
use Rattle.std.specs.Str.{IsCharBoundary}
use Rattle.std.specs.Str.Pattern.{StripsPrefix, FindsTextPrefix}
use Rattle.std.proofs.lemmas.Str.Pattern.{starts_text}
use Rattle.std.proofs.lemmas.List.{take_more, map-append}
use Rattle.std.proofs.lemmas.List.Elements.{filter-append, filter_map-append}
use Rattle.std.proofs.lemmas.List.Folds.{list_all-map, list_all_at, list_any_at, list_any_more}
use Rattle.command_words.specs.Words.{texts, is_file_word, value_of, values}
use Rattle.command_words.specs.Asking.{IsGiven, at_most_one}
use Rattle.command_words.specs.declared.given.Given.{Given}

module _ (words : List (Bor (List ℕ))) (i : ℕ) (d : Bor (List ℕ)) (inside : i < length words) where
  pub texts_more : texts (take (i + 1) words) ≡ texts (take i words) ++ (get_or words i d).now ∷ []
  texts_more = ap texts (take_more words i d inside) ∙ map-append (λ w. w.now) (take i words) (get_or words i d ∷ [])

  -- with one more word
  pub values_more : (name : List ℕ) (later : Given) (more : List (List ℕ)) → values name ((get_or words i d).now ∷ []) ≡ more
      → IsGiven later (values name (texts (take i words)) ++ more) → IsGiven later (values name (texts (take (i + 1) words)))
  values_more name later more here = subst (IsGiven later) (sym (ap (values name) texts_more ∙ (filter_map-append (value_of name) (texts (take i words)) _ ∙ ap (λ xs. values name (texts (take i words)) ++ xs) here)))

  pub files_more : (later : Given) (more : List (List ℕ)) → filter is_file_word ((get_or words i d).now ∷ []) ≡ more
      → IsGiven later (filter is_file_word (texts (take i words)) ++ more) → IsGiven later (filter is_file_word (texts (take (i + 1) words)))
  files_more later more here = subst (IsGiven later) (sym (ap (filter is_file_word) texts_more ∙ (filter-append is_file_word (texts (take i words)) _ ∙ ap (λ xs. filter is_file_word (texts (take i words)) ++ xs) here)))

-- ## Tests of words

module _ (p : List ℕ → Bool) where
  any_map : (words : List (Bor (List ℕ))) → list_any p (texts words) ≡ list_any (λ w. p w.now) words
  any_map [] = refl
  any_map (w ∷ words) = ap (λ b. p w.now || b) (any_map words)

  module _ (words : List (Bor (List ℕ))) (i : ℕ) (d : Bor (List ℕ)) (inside : i < length words) where
    pub any_at : p (get_or words i d).now ≡ true → list_any p (texts words) ≡ true
    any_at is = any_map words ∙ list_any_at (λ w. p w.now) words i d inside is

    pub any_more : p (get_or words i d).now ≡ false → list_any p (texts (take i words)) ≡ false → list_any p (texts (take (i + 1) words)) ≡ false
    any_more is none =
        let earlier : list_any (λ w. p w.now) (take i words) ≡ false = sym (any_map (take i words)) ∙ none in
        any_map (take (i + 1) words) ∙ (list_any_more (λ w. p w.now) words i d inside ∙ (ap (λ b. b || p (get_or words i d).now) earlier ∙ is))

    pub all_at : p (get_or words i d).now ≡ false → list_all p (texts words) ≡ false
    all_at is = list_all-map p (λ w. w.now) words ∙ list_all_at (λ w. p w.now) words i d inside is

-- ## A word without the name of an option

pub value_read : (word name : List ℕ) (r : Option (Bor (List ℕ))) → MatchOption r (FindsTextPrefix name word None) (λ x. StripsPrefix (FindsTextPrefix name) word x.now)
    → values name (word ∷ []) ≡ at_most_one r
value_read word name None lacks = ap (λ b. cons_option (if b then Some (drop (length name) word) else None) []) (sym (starts_text false name word lacks))
value_read word name (Some value) strips =
    let begins : true ≡ starts_with nat_eq word name = starts_text true name word (strips.0, strips.1, subst (IsCharBoundary word) (sym strips.1.0) strips.1.2) in
    ap (λ b. cons_option (if b then Some (drop (length name) word) else None) []) (sym begins) ∙ ap (λ v. v ∷ []) (sym (strips.2 ∙ ap (λ n. drop n word) strips.1.0))
