-- The exits of a `?`, and what a call gave.
use Rattle.std.proofs.Common.{◌≡◌, ℕ, List, [], ◌∷◌, ◌++◌, Option, Some, None, Result, Ok, Err, IsErrAnd, IfErr, sym, ap, ◌∙◌, subst}
use Rattle.flat_layout.specs.declared.Broken.{Broken}
use Rattle.order_keys.specs.declared.bounds.Bounds.{Bounds}
use Rattle.level_bounds.specs.Levels.{Shape}
use Rattle.found_features.specs.Entries.{Entry}
use Rattle.found_features.specs.Lent.{entry_of}
use Rattle.found_features.specs.declared.visitor.Found.{Found}
use Rattle.hit_reader.specs.Met.{BreaksHit}
use Rattle.box_query.specs.Answers.{Answers}
use Rattle.slice_hits.specs.Answering.{GoesOn, PassesOn, Refuses}
use Rattle.slice_hits.specs.Searching.{ReadsLeaf}

pub err_exit : {T : Type 0} (P : Broken → Type 0) (r : Result T Broken) (e : Broken) → IsErrAnd r (λ y. y ≡ e) → P e → IfErr r P
err_exit P (Ok x) e is holds = tt
err_exit P (Err y) e is holds = subst P (sym is) holds

module _ (image : List ℕ) where
  pub leaf_exit : (t : Shape) (k : ℕ) (r : Result Found Broken) (e : Broken) → IsErrAnd r (λ y. y ≡ e) → BreaksHit image t k e.place e.rule → ReadsLeaf image t k r
  leaf_exit t k (Ok x) e is breaks = absurd is
  leaf_exit t k (Err y) e is breaks = subst (λ (b : Broken). BreaksHit image t k b.place b.rule) (sym is) breaks

  module _ (boxes : List Bounds) (entries : List Entry) (Stands : List Entry → Type 0) where
    pub passes_exit : (r : Result (Option Found) Broken) (e : Broken) → IsErrAnd r (λ y. y ≡ e) → Refuses image boxes e entries → PassesOn image boxes entries Stands r
    passes_exit (Ok x) e is refuses = absurd is
    passes_exit (Err y) e is refuses = subst (λ b. Refuses image boxes b entries) (sym is) refuses

    pub goes_exit : (r : Result (Option Found) Broken) (e : Broken) → IsErrAnd r (λ y. y ≡ e) → Refuses image boxes e entries → GoesOn image boxes entries Stands r
    goes_exit (Ok x) e is refuses = absurd is
    goes_exit (Err y) e is refuses = subst (λ b. Refuses image boxes b entries) (sym is) refuses

    -- what a call gave
    pub gives_found : (r : Result (Option Found) Broken) (o : Option Found) (found : Found) → r ≡ Ok o → o ≡ Some found → GoesOn image boxes entries Stands r → Stands (entries ++ entry_of found ∷ [])
    gives_found r o found is some goes = subst (GoesOn image boxes entries Stands) (is ∙ ap Ok some) goes

    pub gives_none : (r : Result (Option Found) Broken) (o : Option Found) → r ≡ Ok o → o ≡ None → GoesOn image boxes entries Stands r → Answers image boxes entries
    gives_none r o is none goes = subst (GoesOn image boxes entries Stands) (is ∙ ap Ok none) goes

-- a walk that is over gives no feature
pub none_found : (r : Result (Option Found) Broken) (o : Option Found) (found : Found) → r ≡ Ok o → o ≡ Some found → r ≡ Ok None → ⊥
none_found r o found is some none = let e : ◌≡◌ {A = Result (Option Found) Broken} (Ok (Some found)) (Ok None) = sym (is ∙ ap Ok some) ∙ none in cc
