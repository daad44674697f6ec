-- What the words were read as.
use Rattle.std.specs.Prelude.{◌≡◌, ◌≤◌, List, [], ◌∷◌, ℕ, length, Option, Some, None}
use Rattle.std.specs.Option.{option_map}
use Rattle.std.specs.Borrow.{Bor}
use Rattle.fgb_where.specs.declared.words.Condition.{Condition}
use Rattle.command_words.specs.Words.{Comparison, Input, file_named, file_served}
use Rattle.command_words.specs.Requests.{Request, query, check, pack, convert, make, report, serve}
use Rattle.command_words.specs.declared.asked.FileWord.{FileWord}
use Rattle.command_words.specs.declared.asked.FileWord.TheVariants.{Name, Http}
use Rattle.command_words.specs.declared.asked.Asked.{Asked}
use Rattle.command_words.specs.declared.asked.Asked.TheVariants.{Query, Check, Pack, Convert, Make, Report, Serve}
use Rattle.command_words.specs.declared.given.Given.{Given}
use Rattle.command_words.specs.declared.given.Given.TheVariants.{Never, Once, Often}

-- what a file word that was read names
abbrev pub input_in : FileWord → Input
input_in (Name name) = file_named name.now
input_in (Http port path) = file_served port path.now

-- a condition that was read, in words
abbrev pub comparison_in : Condition → Comparison
comparison_in c = record { name = c.name.now; op = c.op; value = c.value.now }

abbrev pub request_of : Asked → Request
request_of (Query q) = query (input_in q.file) q.boxes q.gap (option_map comparison_in q.condition) q.output
request_of (Check file) = check (input_in file)
request_of (Pack packing) = pack (input_in packing.file) packing.node_size
request_of (Convert converting) = convert (input_in converting.file) converting.from converting.to
request_of (Make making) = make making.count making.start
request_of (Report reporting) = report (input_in reporting.file) reporting.boxes reporting.gap
request_of (Serve serving) = serve serving.file.now serving.port serving.connections

-- the text, where there is one
abbrev pub at_most_one : Option (Bor (List ℕ)) → List (List ℕ)
at_most_one None = []
at_most_one (Some text) = text.now ∷ []

-- how many texts there are, and the one
abbrev pub IsGiven : Given → List (List ℕ) → Type 0
IsGiven Never found = found ≡ []
IsGiven (Once text) found = found ≡ text.now ∷ []
IsGiven Often found = 2 ≤ length found
