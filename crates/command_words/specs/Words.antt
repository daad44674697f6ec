-- Words behind a command, and what they give.
use Rattle.std.specs.Prelude.{◌≡◌, ◌⊎◌, ◌≤◌, ◌&&◌, ◌||◌, ◌++◌, ℕ, not, nat_eq, nat_lt, nat_le, Bool, false, IsTrue, if◌then◌else◌, List, [], ◌∷◌, length, drop, codes, map, Option, Some, None}
use Rattle.std.specs.List.{starts_with, filter, filter_map, list_any}
use Rattle.std.specs.Str.{all_ascii_digits}
use Rattle.std.specs.Str.Parse.{digits_value}
use Rattle.std.specs.Borrow.{Bor}
use Rattle.range_client.specs.Requests.{IsPath}
use Rattle.order_keys.specs.declared.bounds.Bounds.{Bounds}
use Rattle.box_list.specs.Lists.{SpellsBoxes}
use Rattle.fgb_where.specs.declared.words.Op.{Op}
use Rattle.fgb_where.specs.Words.{Spells}
use Rattle.text_query.specs.declared.output.Output.{Output}
use Rattle.text_query.specs.declared.output.Output.TheVariants.{Lines, Fgb, Wkb}
use Rattle.command_words.specs.declared.format.Format.{Format}
use Rattle.command_words.specs.declared.format.Format.TheVariants as f

-- the texts of some words
abbrev pub texts : List (Bor (List ℕ)) → List (List ℕ)
texts words = map (λ word. word.now) words

-- a word that can be the file word: it is not empty, and is no option
abbrev pub is_file_word : List ℕ → Bool
is_file_word word = nat_lt 0 (length word) && not (starts_with nat_eq word (codes "-"))

-- what a word gives an option, whose name is as `--box=`, and what these words give it
abbrev pub value_of : List ℕ → List ℕ → Option (List ℕ)
value_of name word = if starts_with nat_eq word name then Some (drop (length name) word) else None

abbrev pub values : List ℕ → List (List ℕ) → List (List ℕ)
values name words = filter_map (value_of name) words

-- a word that can stand behind a command with these options
abbrev pub is_known : List (List ℕ) → List ℕ → Bool
is_known names word = is_file_word word || list_any (starts_with nat_eq word) names

-- ## Numbers

-- 1 to 10 decimal digits, and the number that they spell
abbrev pub is_number : List ℕ → Bool
is_number digits = nat_le 1 (length digits) && (nat_le (length digits) 10 && all_ascii_digits digits)

pub record SpellsNumber (digits : List ℕ) (number : ℕ) : Type 0 where
  pub form : IsTrue (is_number digits)
  pub value : number ≡ digits_value 10 digits

-- the same of a number between these
pub record SpellsWithin (digits : List ℕ) (least most number : ℕ) : Type 0 where
  pub spelled : SpellsNumber digits number
  pub wide : least ≤ number
  pub narrow : number ≤ most

-- ## The file word

-- what is read: the file of this name, or the one that a server on this machine serves at this port and path
pub data Input : Type 0 where
  file_named : List ℕ → Input
  file_served : ℕ → List ℕ → Input

-- the text spells a port and the path behind it
pub record SpellsServed (text : List ℕ) (port : ℕ) (path : List ℕ) : Type 0 where
  pub digits : List ℕ
  pub parts : text ≡ digits ++ path
  pub spelled : SpellsWithin digits 1 65535 port
  pub path_is : IsPath path

-- the file word names this: a word that begins with `http://` names a port and a path of this machine
abbrev pub Names : List ℕ → Input → Type 0
Names word (file_named name) = (name ≡ word) × (starts_with nat_eq word (codes "http://") ≡ false)
Names word (file_served port path) = (text : List ℕ) × (word ≡ codes "http://127.0.0.1:" ++ text) × SpellsServed text port path

-- ## What words give

-- there is one file word, and it names this
pub record GivesFile (words : List (List ℕ)) (input : Input) : Type 0 where
  pub word : List ℕ
  pub once : filter is_file_word words ≡ word ∷ []
  pub names : Names word input

-- there is no file word
abbrev pub GivesNoFile : List (List ℕ) → Type 0
GivesNoFile words = filter is_file_word words ≡ []

-- the option of this name is given once, and its value is a number between these
pub record GivesNumber (words : List (List ℕ)) (name : List ℕ) (least most number : ℕ) : Type 0 where
  pub digits : List ℕ
  pub once : values name words ≡ digits ∷ []
  pub within : SpellsWithin digits least most number

-- `--box=BOXES` is given once: one to eight boxes as `MINX,MINY,MAXX,MAXY`, with a `+` between two
pub record GivesBoxes (words : List (List ℕ)) (boxes : List Bounds) : Type 0 where
  pub text : List ℕ
  pub once : values (codes "--box=") words ≡ text ∷ []
  pub few : length boxes ≤ 8
  pub spelled : SpellsBoxes text boxes

-- a gap from 0 to 1048576 is given once, or it is 0, and none is given
pub data IsGap (given : List (List ℕ)) (gap : ℕ) : Type 0 where
  told : (digits : List ℕ) → given ≡ digits ∷ [] → SpellsWithin digits 0 1048576 gap → IsGap given gap
  untold : given ≡ [] → gap ≡ 0 → IsGap given gap

-- a condition in words: a name, a relation and a value
pub record Comparison : Type 0 where
  pub name : List ℕ
  pub op : Op
  pub value : List ℕ

-- a condition is given once, or there is none, and none is given
abbrev pub IsWhere : List (List ℕ) → Option Comparison → Type 0
IsWhere given None = given ≡ []
IsWhere given (Some c) = (text : List ℕ) × (given ≡ text ∷ []) × Spells text c.name c.op c.value

-- the name of a form
abbrev pub format_name : Format → List ℕ
format_name f.Fgb = codes "fgb"
format_name f.Wkb = codes "wkb"

-- the option of this name is given once, and its value is the name of this form
abbrev pub GivesFormat : List (List ℕ) → List ℕ → Format → Type 0
GivesFormat words name form = values name words ≡ format_name form ∷ []

-- the name of an output
abbrev pub output_name : Output → List ℕ
output_name Lines = codes "lines"
output_name Fgb = codes "fgb"
output_name Wkb = codes "wkb"

-- this output is named once, or it is lines, and none is named
abbrev pub IsOutput : List (List ℕ) → Output → Type 0
IsOutput names output = (names ≡ output_name output ∷ []) ⊎ ((names ≡ []) × (output ≡ Lines))
