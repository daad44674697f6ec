use Rattle.std.proofs.Common.{ℕ, ◌^◌, ◌<◌, ◌≤◌, List, length, arith}
use Rattle.std.specs.List.{AllByRecursion}
use Rattle.flat_builder.specs.Laying.{laid}
use Rattle.fgb_schema.specs.Headers.{Header}
use Rattle.header_tables.specs.Laying.{header_table}
use Rattle.header_tables.specs.Records.{IsRecord}
use Rattle.fgb_file.specs.File.{IsFeature}
use Rattle.plain_file.specs.Plain.{IsTooLarge, plain_head, plain_header}
use Rattle.plain_file.proofs.Plain.{plain_file_long, plain_header_shown, plain_is_file, small_file, small_head}
use Rattle.plain_file.proofs.Writable.{still_writable}
use Rattle.plain_file.proofs.plain_files_are_files.Goals as goal

-- what is laid for the header is short enough to be read back
module _ (header : Header) (pieces : List (List ℕ)) (is : IsRecord header) (each : AllByRecursion (IsFeature header) pieces) (fits : IsTooLarge header pieces → ⊥) where
  writable : IsRecord (plain_header header pieces)
  writable = still_writable header pieces is each (small_file header pieces fits)

  short : length (laid (header_table (plain_header header pieces))) < 2 ^ 31
  short = let small : length (plain_head header pieces) ≤ 10485760 = small_head header pieces fits in omega (arith, small)

pub returns-clause-file : goal.returns-clause-file
returns-clause-file c = λ header pieces is each fits.
    let told = plain_header header pieces in
    let back = c.laid_headers_read_back.ensures in
    plain_is_file header pieces (small_head header pieces fits) (back.shown told (writable header pieces is each fits) (short header pieces is each fits))
    (back.clean told (writable header pieces is each fits) (short header pieces is each fits)) (small_file header pieces fits) each

pub returns-clause-header : goal.returns-clause-header
returns-clause-header c = λ header pieces is each fits.
    let told = plain_header header pieces in
    plain_header_shown header pieces (small_head header pieces fits) (c.laid_headers_read_back.ensures.shown told (writable header pieces is each fits) (short header pieces is each fits))

pub returns-clause-long : goal.returns-clause-long
returns-clause-long c = λ header pieces. plain_file_long header pieces
