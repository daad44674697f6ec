-- Points, as x and y by turns.
use Rattle.std.proofs.Common.{◌≡◌, ℕ, zero, suc, ◌*◌, ◌<◌, true, List, [], ◌∷◌, length, refl, ap, arith}
use Rattle.std.specs.Prelude.{slice_index}
use Rattle.std.specs.List.{All, AllByRecursion}
use Rattle.std.proofs.lemmas.List.Elements.{All-head, All-tail}
use Rattle.order_keys.specs.Keys.{is_finite}
use Rattle.fgb_schema.specs.Shapes.{pairs_of}
use Rattle.shape_tables.specs.Laying.{turns}
use Rattle.shape_tables.specs.Records.{IsNumber, IsPoint}

pub turned_back : (ps : List (ℕ × ℕ)) → pairs_of (turns ps) ≡ ps
turned_back [] = refl
turned_back (p ∷ rest) = ap (λ ps. p ∷ ps) (turned_back rest)

pub length-turns : (ps : List (ℕ × ℕ)) → length (turns ps) ≡ 2 * length ps
length-turns [] = refl
length-turns (p ∷ rest) = omega (arith, length-turns rest)

pub turned_numbers : (ps : List (ℕ × ℕ)) → All IsPoint ps → AllByRecursion IsNumber (turns ps)
turned_numbers [] all = tt
turned_numbers (p ∷ rest) all = let here = All-head IsPoint p rest all in (here.0, (here.1, turned_numbers rest (All-tail IsPoint p rest all)))

pub finite_at : (xs : List ℕ) (i : ℕ) → AllByRecursion IsNumber xs → i < length xs → is_finite (slice_index xs i) ≡ true
finite_at [] i all early = absurd (omega (arith, early))
finite_at (x ∷ xs) zero all early = all.0.0
finite_at (x ∷ xs) (suc i) all early = finite_at xs i all.1 (omega (arith, early))
