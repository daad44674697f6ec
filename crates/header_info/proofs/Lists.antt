-- Lists that grow at their end.
use Rattle.std.proofs.Common.{◌≡◌, ◌∙◌, ℕ, ◌+◌, ◌<◌, List, [], ◌∷◌, ◌++◌, length, take, get_or, Some, ap, sym, add-one}
use Rattle.std.specs.Prelude.{slice_get}
use Rattle.std.specs.List.{AllByRecursion}
use Rattle.std.proofs.Math.Seq.{take-suc}
use Rattle.std.proofs.lemmas.Option.{slice_get_within, get_or_from_slice_get}
use Rattle.std.proofs.lemmas.List.Sums.{fold-append}
use Rattle.flat_builder.specs.Trees.{Fields, push, empty}
use Rattle.flat_builder.specs.Shown.{tables_of}
use Rattle.fgb_schema.specs.Headers.{Column}
use Rattle.header_tables.specs.Laying.{column_table, column_tables}

pub all_more : {A : Type 0} (P : A → Type 0) (xs : List A) (x : A) → AllByRecursion P xs → P x → AllByRecursion P (xs ++ x ∷ [])
all_more P [] x all here = (here, all)
all_more P (y ∷ ys) x all here = (all.0, all_more P ys x all.1 here)

pub take_more : {A : Type 0} (xs : List A) (i : ℕ) (x : A) → slice_get xs i ≡ Some x → take (i + 1) xs ≡ take i xs ++ x ∷ []
take_more xs i x at =
    ap (λ n. take n xs) (add-one i) ∙ take-suc xs i x (slice_get_within xs i x at)
    ∙ ap (λ y. take i xs ++ y ∷ []) (get_or_from_slice_get xs i x x at)

tables_of-more : (ts : List Fields) (t : Fields) → tables_of (ts ++ t ∷ []) ≡ push (tables_of ts) t
tables_of-more ts t = fold-append push empty ts (t ∷ [])

column_tables-more : (columns : List Column) (c : Column) → column_tables (columns ++ c ∷ []) ≡ push (column_tables columns) (column_table c)
unfolding column_tables
column_tables-more columns c = fold-append (λ before k. push before (column_table k)) empty columns (c ∷ [])

-- no column, and one more
pub tables_none : (all : List Fields) → all ≡ [] → tables_of all ≡ column_tables []
unfolding column_tables
tables_none all none = ap tables_of none

pub tables_next : (all more : List Fields) (columns : List Column) (i : ℕ) (c : Column) (t : Fields) → tables_of all ≡ column_tables (take i columns)
    → i < length columns → c ≡ get_or columns i c → t ≡ column_table c → more ≡ all ++ t ∷ [] → tables_of more ≡ column_tables (take (i + 1) columns)
tables_next all more columns i c t so_far early at is grown =
    ap tables_of grown ∙ tables_of-more all t ∙ ap (λ before. push before t) so_far ∙ ap (push (column_tables (take i columns))) is
    ∙ sym (column_tables-more (take i columns) c)
    ∙ ap column_tables (ap (λ k. take i columns ++ k ∷ []) at ∙ sym (take-suc columns i c early) ∙ ap (λ n. take n columns) (sym (add-one i)))
