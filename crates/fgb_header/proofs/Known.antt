-- What is known of a header that was read.
use Rattle.std.proofs.Common.{◌≡◌, ℕ, ◌≤◌, nat_le, true, List, length, Option, Some, None, inl, inr, refl, arith}
use Rattle.std.specs.Option.{ForSome}
use Rattle.std.proofs.lemmas.Bool.{cases_Bool}
use Rattle.std.proofs.lemmas.Bool.Decides.{nat_tests}
use Rattle.flat_layout.specs.declared.Rule.TheVariants.{ColumnCount}
use Rattle.flat_layout.specs.Layout.{is_vector, count}
use Rattle.flat_layout.specs.Promises.{IsClean}
use Rattle.flat_views.specs.declared.vectors.TableVec.{TableVec}
use Rattle.flat_views.specs.TableVecs.{tables_bytes, tables_place}
use Rattle.flat_views.proofs.Placed.{sound_list}
use Rattle.fgb_schema.specs.Paths.{here, Breaks, BreaksMore, columns_part}
use Rattle.fgb_header.specs.declared.columns.Columns.{Columns}
use Rattle.fgb_header.specs.Parts.{columns_shown, listed}
use Rattle.fgb_header.proofs.Entries.{listed_length}

up_to : (n : ℕ) → nat_le n 65536 ≡ true → n ≤ 65536
up_to n few = grind (arith, nat_tests)

-- a list that breaks no rule is not too long
few_in : (b : List ℕ) (v : ℕ) → is_vector 4 b v ≡ true → IsClean (Breaks b (columns_part v)) → count b v ≤ 65536
unfolding BreaksMore
few_in b v sound clean = elim (cases_Bool (nat_le (count b v) 65536)) [
  | inl few ↦ up_to (count b v) few
  | inr many ↦ absurd (clean v ColumnCount (record {
    part = columns_part v;
    path = here;
    broken = inr (record { known = sound; other = many; place = refl; rule = refl });
  }))
]

few_listed : (list : Option TableVec) → ForSome list (λ tables. IsClean (Breaks (tables_bytes tables) (columns_part (tables_place tables)))) → length (listed list) ≤ 65536
few_listed None clean = omega arith
few_listed (Some tables) clean =
    let few : count (tables_bytes tables) (tables_place tables) ≤ 65536 = few_in (tables_bytes tables) (tables_place tables) (sound_list tables) (clean tables refl) in
    let same : length (listed (Some tables)) ≡ count (tables_bytes tables) (tables_place tables) = listed_length (Some tables) tables refl in omega arith

-- there are at most 65,536 columns
pub few_columns : (columns : Columns) → length (columns_shown columns) ≤ 65536
few_columns columns = few_listed columns.list columns.clean
