-- Lists that grow at their end.
use Rattle.std.proofs.Common.{◌≡◌, ◌∙◌, ℕ, ◌+◌, ◌<◌, List, [], ◌∷◌, ◌++◌, length, take, get_or, ap, sym, subst, add-one, zero, suc, arith}
use Rattle.std.specs.List.{AllByRecursion}
use Rattle.std.proofs.Math.Seq.{take-suc}
use Rattle.std.proofs.lemmas.List.{flat_map_more}
use Rattle.fgb_schema.specs.Properties.{Property}
use Rattle.feature_tables.specs.Laying.{pair_bytes, properties_bytes}
use Rattle.feature_tables.specs.Records.{AreBytes}

all_more : {A : Type 0} (P : A → Type 0) (xs : List A) (x : A) → AllByRecursion P xs → P x → AllByRecursion P (xs ++ x ∷ [])
all_more P [] x all here = (here, all)
all_more P (y ∷ ys) x all here = (all.0, all_more P ys x all.1 here)

pub all_grown : {A : Type 0} (P : A → Type 0) (before after : List A) (x : A) → AllByRecursion P before → P x → after ≡ before ++ x ∷ [] → AllByRecursion P after
all_grown P before after x all here grown = subst (AllByRecursion P) (sym grown) (all_more P before x all here)

-- one element more
pub take_next : {A : Type 0} (xs : List A) (i : ℕ) (x : A) → i < length xs → x ≡ get_or xs i x → take (i + 1) xs ≡ take i xs ++ x ∷ []
take_next xs i x early is = ap (λ n. take n xs) (add-one i) ∙ take-suc xs i x early ∙ ap (λ y. take i xs ++ y ∷ []) (sym is)

-- what holds of each element holds of the one at a place
pub all_at : {A : Type 0} (P : A → Type 0) (xs : List A) (i : ℕ) (x : A) → AllByRecursion P xs → i < length xs → x ≡ get_or xs i x → P x
all_at P [] i x all early is = absurd (omega (arith, early))
all_at P (y ∷ ys) zero x all early is = subst P (sym is) all.0
all_at P (y ∷ ys) (suc i) x all early is = all_at P ys i x all.1 (omega (arith, early)) is

-- what holds of each place holds of each element
pub are_bytes : (xs : List ℕ) → ((i : ℕ) → i < length xs → get_or xs i 0 < 256) → AreBytes xs
are_bytes [] each = tt
are_bytes (x ∷ xs) each = (each 0 (omega arith), are_bytes xs (λ i early. each (suc i) (omega (arith, early))))

-- one property more, and its bytes
pub bytes_next : (ps : List Property) (i : ℕ) (p : Property) (before after : List ℕ) → before ≡ properties_bytes (take i ps) → i < length ps → p ≡ get_or ps i p
    → after ≡ before ++ pair_bytes p → after ≡ properties_bytes (take (i + 1) ps)
bytes_next ps i p before after so_far early is grown =
    grown ∙ ap (λ bytes. bytes ++ pair_bytes p) so_far ∙ flat_map_more pair_bytes [] (take i ps) p ∙ ap properties_bytes (sym (take_next ps i p early is))
