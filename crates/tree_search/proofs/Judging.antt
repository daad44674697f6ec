-- Faults of groups, one after another, and what was found in them.
use Rattle.std.proofs.Common.{◌≡◌, ℕ, zero, suc, ◌+◌, ◌<◌, List, [], ◌∷◌, ◌++◌, length, get_or, map, Result, Ok, Err, IsErrAnd, sym, ap, subst, ◌∙◌, append_assoc, append-nil, arith}
use Rattle.std.specs.List.{AllByRecursion, flat_map, range_with_len}
use Rattle.std.proofs.lemmas.List.{map-append}
use Rattle.std.proofs.lemmas.List.Concat.{flat_map-append}
use Rattle.fgb_outside.proofs.Asking.{range_with_len-append}
use Rattle.flat_layout.specs.declared.Broken.{Broken}
use Rattle.node_items.proofs.Runs.{BeginsWith, first_fault, none_in}
use Rattle.read_stop.specs.Stops.{AtRefusal}
use Rattle.read_stop.specs.declared.stop.ReadStop.{ReadStop}
use Rattle.read_stop.proofs.Stopping.{refusal_map}
use Rattle.index_reader.specs.Parts.{IsFirstRead}
use Rattle.tree_search.specs.declared.search.Hit.{Hit}

pub each_of_all : {X : Type 0} (P : X → Type 0) (xs : List X) (i : ℕ) (d : X) → AllByRecursion P xs → i < length xs → P (get_or xs i d)
each_of_all P [] i d all under = absurd (omega arith)
each_of_all P (x ∷ xs) zero d all under = all.0
each_of_all P (x ∷ xs) (suc i) d all under = each_of_all P xs i d all.1 (omega arith)

-- the parts along one more number
pub part_more : {A : Type 0} (f : ℕ → List A) (a n : ℕ) → flat_map f (range_with_len a (n + 1)) ≡ flat_map f (range_with_len a n) ++ f (a + n)
part_more f a n =
    ap (flat_map f) (range_with_len-append a n 1) ∙ flat_map-append f (range_with_len a n) ((a + n) ∷ [])
    ∙ ap (λ l. flat_map f (range_with_len a n) ++ l) (append-nil (f (a + n)))

-- no fault in one more group
pub clean_more : (f : ℕ → List Broken) (a n : ℕ) → flat_map f (range_with_len a n) ≡ [] → f (a + n) ≡ [] → flat_map f (range_with_len a (n + 1)) ≡ []
clean_more f a n none here = part_more f a n ∙ ap (λ l. l ++ f (a + n)) none ∙ here

-- the first fault, behind groups without one
pub refused_later : (f : ℕ → List Broken) (a n i : ℕ) (stop : ReadStop) → i < n → flat_map f (range_with_len a i) ≡ [] → AtRefusal stop (BeginsWith (f (a + i))) → AtRefusal stop (BeginsWith (flat_map f (range_with_len a n)))
refused_later f a n i stop under none refused =
    refusal_map stop _ _ (λ e begins. first_fault f a n (a + i) e (omega arith) (omega arith) (λ d from till. none_in f a i d none from till) begins) refused

-- the exit of the `?` of a stop
pub first_stop : {T : Type 0} (r : Result T ReadStop) (stop : ReadStop) (faults : List Broken) → IsErrAnd r (λ s. s ≡ stop) → AtRefusal stop (BeginsWith faults) → IsFirstRead faults r
first_stop (Ok x) stop faults is refused = absurd is
first_stop (Err s) stop faults is refused = subst (λ e. AtRefusal e (BeginsWith faults)) (sym is) refused

-- what was found in one more group
pub found_more : (h : ℕ → Hit) (f : ℕ → List ℕ) (old now new : List Hit) (a n : ℕ) → now ≡ old ++ map h (flat_map f (range_with_len a n)) → new ≡ now ++ map h (f (a + n)) → new ≡ old ++ map h (flat_map f (range_with_len a (n + 1)))
found_more h f old now new a n so_far more =
    more ∙ ap (λ l. l ++ map h (f (a + n))) so_far ∙ append_assoc old (map h (flat_map f (range_with_len a n))) (map h (f (a + n)))
    ∙ ap (λ l. old ++ l) (sym (map-append h (flat_map f (range_with_len a n)) (f (a + n))) ∙ ap (map h) (sym (part_more f a n)))
