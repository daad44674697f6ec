-- The digits of a number, and the words behind a command.
use Rattle.std.proofs.Common.{◌≡◌, ◌∙◌, if◌then◌else◌, ℕ, ◌<◌, ◌≤◌, ◌^◌, ◌-◌, List, [], ◌∷◌, length, get_or, take, drop, true, codes, refl, sym, ap, subst, arith, nat_eq}
use Rattle.std.specs.Borrow.{Bor}
use Rattle.std.specs.List.{starts_with}
use Rattle.std.proofs.lemmas.List.{take_all}
use Rattle.std.specs.Str.{all_ascii_digits}
use Rattle.std.specs.Str.Parse.{digits_value}
use Rattle.std.proofs.lemmas.Str.Parse.{digits_value_short}
use Rattle.order_keys.proofs.Spelling.{decimal}
use Rattle.order_keys.specs.declared.bounds.Bounds.{Bounds}
use Rattle.text_query.specs.declared.output.Output.{Output}
use Rattle.command_words.specs.declared.command.Command.{Command}
use Rattle.command_words.specs.declared.command.Command.TheVariants.{Query, Check, Pack, Convert, Make, Report, Serve}
use Rattle.std.specs.Prelude.{Option}
use Rattle.command_words.specs.Words.{Comparison, Input, is_number, texts}
use Rattle.command_words.specs.declared.format.Format.{Format}
use Rattle.command_words.specs.Requests.{Request, query, check, pack, convert, make, report, serve, command_of, command_name, Asks, AsksBehind, AsksQuery, AsksCheck, AsksPack, AsksConvert, AsksMake, AsksReport, AsksServe}

pub number_parts : (digits : List ℕ) → is_number digits ≡ true → (1 ≤ length digits) × (length digits ≤ 10) × (all_ascii_digits digits ≡ true)
number_parts digits is = grind arith

-- a number fits 64 bits
pub number_short : (digits : List ℕ) → is_number digits ≡ true → digits_value 10 digits < 2 ^ 64
number_short digits is =
    let parts = number_parts digits is in
    omega (arith, digits_value_short decimal digits 10 parts.2 parts.1)

-- ## The words behind a command

-- a word tells its command
kind : List ℕ → Command
kind word =
    if starts_with nat_eq word (codes "query") then Query
    else if starts_with nat_eq word (codes "check") then Check
    else if starts_with nat_eq word (codes "pack") then Pack
    else if starts_with nat_eq word (codes "convert") then Convert
    else if starts_with nat_eq word (codes "make") then Make
    else if starts_with nat_eq word (codes "report") then Report
    else Serve

kind_is : (command : Command) → kind (command_name command) ≡ command
unfolding kind
kind_is Query = refl
kind_is Check = refl
kind_is Pack = refl
kind_is Convert = refl
kind_is Make = refl
kind_is Report = refl
kind_is Serve = refl

-- a request of this command, which the words behind it ask for
pub record Heads (rest : List (List ℕ)) (command : Command) (request : Request) : Type 0 where
  pub same : command_of request ≡ command
  pub behind : AsksBehind rest request

same_rest : (a b : List ℕ) (rest others : List (List ℕ)) → a ∷ rest ≡ b ∷ others → (a ≡ b) × (rest ≡ others)
same_rest a b rest others is = (cc, cc)

heads : (words rest : List (List ℕ)) (word : List ℕ) (command : Command) (request : Request) → words ≡ word ∷ rest → word ≡ command_name command → Asks words request → Heads rest command request
heads words rest word command request order is asks =
    let apart = same_rest word (command_name (command_of request)) rest asks.rest (sym order ∙ asks.order) in
    record {
      same = sym (kind_is (command_of request)) ∙ (ap kind (sym apart.0 ∙ is) ∙ kind_is command);
      behind = subst (λ r. AsksBehind r request) (sym apart.1) asks.behind;
    }

-- words are the first and the others
parts : (words : List (Bor (List ℕ))) (d : Bor (List ℕ)) → 1 ≤ length words → texts words ≡ (get_or words 0 d).now ∷ texts (take (length words - 1) (drop 1 words))
parts [] d some = absurd (omega (arith, some))
parts (w ∷ ws) d some = ap (λ r. w.now ∷ texts r) (sym (take_all (length (w ∷ ws) - 1) ws (omega arith)))

pub headed : (words : List (Bor (List ℕ))) (d : Bor (List ℕ)) → 1 ≤ length words → (found command : Command) (request : Request) → (get_or words 0 d).now ≡ command_name found → found ≡ command → Asks (texts words) request
    → Heads (texts (take (length words - 1) (drop 1 words))) command request
headed words d some found command request is same asks = heads (texts words) _ (get_or words 0 d).now command request (parts words d some) (is ∙ ap command_name same) asks

module _ (rest : List (List ℕ)) where
  pub query_asked : (request : Request) → Heads rest Query request → (input : Input) × (boxes : List Bounds) × (gap : ℕ) × (condition : Option Comparison) × (output : Output) × (query input boxes gap condition output ≡ request) × AsksQuery rest input boxes gap condition output
  query_asked (query input boxes gap condition output) head = (input, boxes, gap, condition, output, refl, head.behind)
  query_asked other head = absurd (cc)

  pub check_asked : (request : Request) → Heads rest Check request → (input : Input) × (check input ≡ request) × AsksCheck rest input
  check_asked (check input) head = (input, refl, head.behind)
  check_asked other head = absurd (cc)

  pub pack_asked : (request : Request) → Heads rest Pack request → (input : Input) × (node_size : ℕ) × (pack input node_size ≡ request) × AsksPack rest input node_size
  pack_asked (pack input node_size) head = (input, node_size, refl, head.behind)
  pack_asked other head = absurd (cc)

  pub convert_asked : (request : Request) → Heads rest Convert request → (input : Input) × (from : Format) × (to : Format) × (convert input from to ≡ request) × AsksConvert rest input from to
  convert_asked (convert input from to) head = (input, from, to, refl, head.behind)
  convert_asked other head = absurd (cc)

  pub make_asked : (request : Request) → Heads rest Make request → (count : ℕ) × (start : ℕ) × (make count start ≡ request) × AsksMake rest count start
  make_asked (make count start) head = (count, start, refl, head.behind)
  make_asked other head = absurd (cc)

  pub report_asked : (request : Request) → Heads rest Report request → (input : Input) × (boxes : List Bounds) × (gap : ℕ) × (report input boxes gap ≡ request) × AsksReport rest input boxes gap
  report_asked (report input boxes gap) head = (input, boxes, gap, refl, head.behind)
  report_asked other head = absurd (cc)

  pub serve_asked : (request : Request) → Heads rest Serve request → (name : List ℕ) × (port : ℕ) × (connections : ℕ) × (serve name port connections ≡ request) × AsksServe rest name port connections
  serve_asked (serve name port connections) head = (name, port, connections, refl, head.behind)
  serve_asked other head = absurd (cc)
