-- What the words of a command ask for.
use Rattle.std.specs.Prelude.{◌≡◌, ◌≤◌, ℕ, IsTrue, ⊤, List, [], ◌∷◌, codes, Option, Some, None}
use Rattle.std.specs.List.{list_all}
use Rattle.range_client.specs.Requests.{IsPath}
use Rattle.order_keys.specs.declared.bounds.Bounds.{Bounds}
use Rattle.text_query.specs.declared.output.Output.{Output}
use Rattle.command_words.specs.declared.command.Command.{Command}
use Rattle.command_words.specs.declared.command.Command.TheVariants as a
use Rattle.command_words.specs.declared.command.Target.{Target}
use Rattle.command_words.specs.declared.command.Target.TheVariants.{Nothing, File, Http}
use Rattle.command_words.specs.declared.format.Format.{Format}
use Rattle.command_words.specs.Words.{Input, file_named, file_served, is_known, values, GivesFile, GivesNumber, GivesBoxes, GivesFormat, GivesNoFile, Comparison, IsGap, IsWhere, IsOutput}

-- what can be asked: for the features of this file that meet one of these boxes, with this gap, and for which this condition
-- holds, if there is one, in this form; whether this file breaks a rule; for the packing of this file with nodes of so many children; for the conversion of this file from this
-- form to that one; to make so many features from this one on and query them; for reports on the features of this file that
-- meet one of these boxes, with this gap; or to serve the file of this name at this port for so many connections
pub data Request : Type 0 where
  query : Input → List Bounds → ℕ → Option Comparison → Output → Request
  check : Input → Request
  pack : Input → ℕ → Request
  convert : Input → Format → Format → Request
  make : ℕ → ℕ → Request
  report : Input → List Bounds → ℕ → Request
  serve : List ℕ → ℕ → ℕ → Request

-- the command of a request
abbrev pub command_of : Request → Command
command_of (query input boxes gap condition output) = a.Query
command_of (check input) = a.Check
command_of (pack input node_size) = a.Pack
command_of (convert input from to) = a.Convert
command_of (make count start) = a.Make
command_of (report input boxes gap) = a.Report
command_of (serve name port connections) = a.Serve

-- the word of a command
abbrev pub command_name : Command → List ℕ
command_name a.Query = codes "query"
command_name a.Check = codes "check"
command_name a.Pack = codes "pack"
command_name a.Convert = codes "convert"
command_name a.Make = codes "make"
command_name a.Report = codes "report"
command_name a.Serve = codes "serve"

-- each of the words behind the command can stand there
abbrev pub AreKnown : List (List ℕ) → List (List ℕ) → Type 0
AreKnown names words = IsTrue (list_all (is_known names) words)

-- `FILE --box=BOXES`, with `--gap=G` and `--where=NAME:OP:VALUE` or without them, and with `--out=lines`, `--out=fgb`,
-- `--out=wkb` or none of them
pub record AsksQuery (words : List (List ℕ)) (input : Input) (boxes : List Bounds) (gap : ℕ) (condition : Option Comparison) (output : Output) : Type 0 where
  pub known : AreKnown (codes "--box=" ∷ codes "--gap=" ∷ codes "--where=" ∷ codes "--out=" ∷ []) words
  pub file : GivesFile words input
  pub sought : GivesBoxes words boxes
  pub bridged : IsGap (values (codes "--gap=") words) gap
  pub filtered : IsWhere (values (codes "--where=") words) condition
  pub chosen : IsOutput (values (codes "--out=") words) output

-- `FILE`
pub record AsksCheck (words : List (List ℕ)) (input : Input) : Type 0 where
  pub known : AreKnown [] words
  pub file : GivesFile words input

-- `FILE --node=N`, with a number from 2 to 65535
pub record AsksPack (words : List (List ℕ)) (input : Input) (node_size : ℕ) : Type 0 where
  pub known : AreKnown (codes "--node=" ∷ []) words
  pub file : GivesFile words input
  pub children : GivesNumber words (codes "--node=") 2 65535 node_size

-- `FILE --from=FORM --to=FORM`, where each form is `fgb` or `wkb`
pub record AsksConvert (words : List (List ℕ)) (input : Input) (from to : Format) : Type 0 where
  pub known : AreKnown (codes "--from=" ∷ codes "--to=" ∷ []) words
  pub file : GivesFile words input
  pub read_as : GivesFormat words (codes "--from=") from
  pub written_as : GivesFormat words (codes "--to=") to

-- `--count=N --start=K`, with numbers from 0 to 1000000 and from 0 to 1000000000, and no file word
pub record AsksMake (words : List (List ℕ)) (count start : ℕ) : Type 0 where
  pub known : AreKnown (codes "--count=" ∷ codes "--start=" ∷ []) words
  pub no_file : GivesNoFile words
  pub so_many : GivesNumber words (codes "--count=") 0 1000000 count
  pub from_on : GivesNumber words (codes "--start=") 0 1000000000 start

-- `FILE --box=BOXES`, with `--gap=G` or without it
pub record AsksReport (words : List (List ℕ)) (input : Input) (boxes : List Bounds) (gap : ℕ) : Type 0 where
  pub known : AreKnown (codes "--box=" ∷ codes "--gap=" ∷ []) words
  pub file : GivesFile words input
  pub sought : GivesBoxes words boxes
  pub bridged : IsGap (values (codes "--gap=") words) gap

-- `FILE --port=P --connections=N`, with a port from 1 to 65535 and a number from 1 to 1000000, and a file word that is a name
pub record AsksServe (words : List (List ℕ)) (name : List ℕ) (port connections : ℕ) : Type 0 where
  pub known : AreKnown (codes "--port=" ∷ codes "--connections=" ∷ []) words
  pub file : GivesFile words (file_named name)
  pub at_port : GivesNumber words (codes "--port=") 1 65535 port
  pub as_often : GivesNumber words (codes "--connections=") 1 1000000 connections

-- the words behind the command ask for this, in any order
abbrev pub AsksBehind : List (List ℕ) → Request → Type 0
AsksBehind words (query input boxes gap condition output) = AsksQuery words input boxes gap condition output
AsksBehind words (check input) = AsksCheck words input
AsksBehind words (pack input node_size) = AsksPack words input node_size
AsksBehind words (convert input from to) = AsksConvert words input from to
AsksBehind words (make count start) = AsksMake words count start
AsksBehind words (report input boxes gap) = AsksReport words input boxes gap
AsksBehind words (serve name port connections) = AsksServe words name port connections

-- the words ask for this
pub record Asks (words : List (List ℕ)) (request : Request) : Type 0 where
  pub rest : List (List ℕ)
  pub order : words ≡ command_name (command_of request) ∷ rest
  pub behind : AsksBehind rest request

-- they ask for nothing that there is
abbrev pub IsUsage : List (List ℕ) → Type 0
IsUsage words = (request : Request) → Asks words request → ⊥

-- they ask for nothing that this call does
abbrev pub IsUsageOf : (Request → Type 0) → List (List ℕ) → Type 0
IsUsageOf IsDone words = (request : Request) → Asks words request → IsDone request → ⊥

-- the requests of each call
abbrev pub IsRun : Request → Type 0
IsRun (query input boxes gap condition output) = ⊤
IsRun (check input) = ⊤
IsRun (pack input node_size) = ⊤
IsRun (convert input from to) = ⊤
IsRun (make count start) = ⊤
IsRun (report input boxes gap) = ⊥
IsRun (serve name port connections) = ⊥

abbrev pub IsReport : Request → Type 0
IsReport (query input boxes gap condition output) = ⊥
IsReport (check input) = ⊥
IsReport (pack input node_size) = ⊥
IsReport (convert input from to) = ⊥
IsReport (make count start) = ⊥
IsReport (report input boxes gap) = ⊤
IsReport (serve name port connections) = ⊥

abbrev pub IsServe : Request → Type 0
IsServe (query input boxes gap condition output) = ⊥
IsServe (check input) = ⊥
IsServe (pack input node_size) = ⊥
IsServe (convert input from to) = ⊥
IsServe (make count start) = ⊥
IsServe (report input boxes gap) = ⊥
IsServe (serve name port connections) = ⊤

-- what a request reads, if it reads a file, and the port that it serves at, or 0
abbrev pub input_of : Request → Option Input
input_of (query input boxes gap condition output) = Some input
input_of (check input) = Some input
input_of (pack input node_size) = Some input
input_of (convert input from to) = Some input
input_of (make count start) = None
input_of (report input boxes gap) = Some input
input_of (serve name port connections) = Some (file_named name)

abbrev pub port_of : Request → ℕ
port_of (query input boxes gap condition output) = 0
port_of (check input) = 0
port_of (pack input node_size) = 0
port_of (convert input from to) = 0
port_of (make count start) = 0
port_of (report input boxes gap) = 0
port_of (serve name port connections) = port

-- the gap of a request, or 0
abbrev pub gap_of : Request → ℕ
gap_of (query input boxes gap condition output) = gap
gap_of (check input) = 0
gap_of (pack input node_size) = 0
gap_of (convert input from to) = 0
gap_of (make count start) = 0
gap_of (report input boxes gap) = gap
gap_of (serve name port connections) = 0

-- what a target is
abbrev pub input_at : Target → Option Input
input_at Nothing = None
input_at (File name) = Some (file_named name.now)
input_at (Http port path) = Some (file_served port path.now)

-- a port and a path of a server can be asked there
abbrev pub IsReachable : Target → Type 0
IsReachable Nothing = ⊤
IsReachable (File name) = ⊤
IsReachable (Http port path) = (1 ≤ port) × IsPath path.now
