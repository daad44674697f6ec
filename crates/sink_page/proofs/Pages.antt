-- What is written in pieces, and what is left on a page.
use Rattle.std.proofs.Common.{◌≡◌, ◌≤◌, ℕ, List, [], ◌++◌, refl, sym, ap, subst, ◌∙◌, take, drop, append_assoc, Result, Ok, Err, IsOk, arith}
use Rattle.std.specs.Prelude.{OnOk, OnErr}
use Rattle.std.proofs.lemmas.Bool.{true≢false}
use Rattle.std.proofs.lemmas.List.{append-nil, take-append-drop}
use Rattle.fgb_outside.specs.Sink.{Sink, Appends, AppendsPart}
use Rattle.fgb_outside.proofs.Shown.{appends_nothing, appends_appends, appends_then_part, part_longer}
use Rattle.sink_page.specs.Pages.{Adds, AddsPart}

pub adds_nothing : (o : Sink) (page : List ℕ) → Adds o o page page []
adds_nothing o page = record { written = []; appends = appends_nothing o; whole = sym (append-nil page); later = omega arith }

-- one text and then another
pub adds_adds : (a b c : Sink) (p q r xs ys : List ℕ) → Adds a b p q xs → Adds b c q r ys → Adds a c p r (xs ++ ys)
adds_adds a b c p q r xs ys first second = record {
  written = first.written ++ second.written;
  appends = appends_appends a b c first.written second.written first.appends second.appends;
  whole = append_assoc first.written second.written r ∙ ap (λ zs. first.written ++ zs) second.whole ∙ sym (append_assoc first.written q ys) ∙ ap (λ zs. zs ++ ys) first.whole ∙ append_assoc p xs ys;
  later = omega (arith, first.later, second.later);
}

-- some text stands written but for what is left on the page, and then that is written, or a front of it
module _ (a b : Sink) (page xs : List ℕ) (adds : Adds a b [] page xs) where
  pub adds_whole : (c : Sink) → Appends b c page → Appends a c xs
  adds_whole c rest = subst (Appends a c) adds.whole (appends_appends a b c adds.written page adds.appends rest)

  pub adds_part : (c : Sink) → AppendsPart b c page → AppendsPart a c xs
  adds_part c rest = subst (AppendsPart a c) adds.whole (appends_then_part a b c adds.written page adds.appends rest)

-- nothing was written
pub part_nothing : (o : Sink) (page text : List ℕ) → AddsPart o o page page text
part_nothing o page text = record { written = []; rest = text; appends = appends_nothing o; front = refl; later = omega arith }

-- a front of a full page was written, and the rest of it is forgotten
pub part_forgotten : (a b : Sink) (page page' text full : List ℕ) → full ≡ page ++ text → page' ≡ [] → AppendsPart a b full → a.faults ≤ b.faults → AddsPart a b page page' text
part_forgotten a b page page' text full is none part later = record {
  written = take part.0 full;
  rest = drop part.0 full;
  appends = part.1;
  front = ap (λ p. (take part.0 full ++ p) ++ drop part.0 full) none ∙ ap (λ xs. xs ++ drop part.0 full) (append-nil (take part.0 full)) ∙ take-append-drop part.0 full ∙ is;
  later = later;
}

-- a front of a text behind some text
pub adds_then_part : (a b c : Sink) (p q r xs ys : List ℕ) → Adds a b p q xs → AddsPart b c q r ys → AddsPart a c p r (xs ++ ys)
adds_then_part a b c p q r xs ys first second = record {
  written = first.written ++ second.written;
  rest = second.rest;
  appends = appends_appends a b c first.written second.written first.appends second.appends;
  front = ap (λ zs. zs ++ second.rest) (append_assoc first.written second.written r) ∙ append_assoc first.written (second.written ++ r) second.rest
      ∙ ap (λ zs. first.written ++ zs) second.front ∙ sym (append_assoc first.written q ys) ∙ ap (λ zs. zs ++ ys) first.whole ∙ append_assoc p xs ys;
  later = omega (arith, first.later, second.later);
}

-- all of a text is a front of more
pub part_of_adds : (a b : Sink) (p q xs more : List ℕ) → Adds a b p q xs → AddsPart a b p q (xs ++ more)
part_of_adds a b p q xs more adds = record {
  written = adds.written;
  rest = more;
  appends = adds.appends;
  front = ap (λ zs. zs ++ more) adds.whole ∙ append_assoc p xs more;
  later = adds.later;
}

-- and a front of a text too
pub part_more : (a b : Sink) (p q xs more : List ℕ) → AddsPart a b p q xs → AddsPart a b p q (xs ++ more)
part_more a b p q xs more part = record {
  written = part.written;
  rest = part.rest ++ more;
  appends = part.appends;
  front = sym (append_assoc (part.written ++ q) part.rest more) ∙ ap (λ zs. zs ++ more) part.front ∙ append_assoc p xs more;
  later = part.later;
}

-- what is left on the page is written behind, or a front of it
pub adds_left : (a b : Sink) (page xs : List ℕ) → AddsPart a b [] page xs → (c : Sink) → AppendsPart b c page → AppendsPart a c xs
adds_left a b page xs part c left =
    subst (AppendsPart a c) part.front (part_longer a c (part.written ++ page) part.rest (appends_then_part a b c part.written page part.appends left))

-- a page was written, and a piece behind it, or a front of that
module _ (a b c : Sink) (page page' text : List ℕ) (none : page' ≡ []) (written : Appends a b page) (sooner : a.faults ≤ b.faults) (later : b.faults ≤ c.faults) where
  pub passed : Appends b c text → Adds a c page page' text
  passed appends = record {
    written = page ++ text;
    appends = appends_appends a b c page text written appends;
    whole = ap (λ r. (page ++ text) ++ r) none ∙ append-nil (page ++ text);
    later = omega (arith, sooner, later);
  }

  pub part_passed : AppendsPart b c text → AddsPart a c page page' text
  part_passed part = record {
    written = page ++ take part.0 text;
    rest = drop part.0 text;
    appends = appends_appends a b c page (take part.0 text) written part.1;
    front = ap (λ r. ((page ++ take part.0 text) ++ r) ++ drop part.0 text) none ∙ ap (λ xs. xs ++ drop part.0 text) (append-nil (page ++ take part.0 text))
        ∙ append_assoc page (take part.0 text) (drop part.0 text) ∙ ap (λ xs. page ++ xs) (take-append-drop part.0 text);
    later = omega (arith, sooner, later);
  }

-- a front of a page was written, the rest of it is forgotten, and nothing behind it is written
pub page_forgotten : (a b : Sink) (page page' text : List ℕ) → page' ≡ [] → AppendsPart a b page → a.faults ≤ b.faults → AddsPart a b page page' text
page_forgotten a b page page' text none part later = part_more a b page page' [] text (part_forgotten a b page page' [] page (sym (append-nil page)) none part later)

-- ## Facts of results

pub on_err : {T E : Type 0} (r : Result T E) (P : Type 0) → P → OnErr r P
on_err (Ok x) P p = tt
on_err (Err e) P p = p

pub on_ok : {T E : Type 0} (r : Result T E) (P : Type 0) → (IsOk r → P) → OnOk r P
on_ok (Ok x) P p = p refl
on_ok (Err e) P p = tt

pub of_ok : {T E : Type 0} (r : Result T E) (P : Type 0) → OnOk r P → IsOk r → P
of_ok (Ok x) P p is = p
of_ok (Err e) P p is = absurd (true≢false (sym is))

pub on_ok_map : {T E : Type 0} (r : Result T E) (P Q : Type 0) → (P → Q) → OnOk r P → OnOk r Q
on_ok_map (Ok x) P Q f p = f p
on_ok_map (Err e) P Q f p = tt

pub on_err_map : {T E : Type 0} (r : Result T E) (P Q : Type 0) → (P → Q) → OnErr r P → OnErr r Q
on_err_map (Ok x) P Q f p = tt
on_err_map (Err e) P Q f p = f p
