-- Heads that are those of wanted replies, and what is wrong with others.
use Rattle.std.specs.Prelude.{◌≡◌, ℕ, Bool, false, IsTrue, List, codes, bytes_eq, decimal, Some}
use Rattle.std.specs.Option.{option_map_or}
use Rattle.httparse.specs.Grammar.{ResponseHead}
use Rattle.range_text.specs.declared.answers.ContentRange.{ContentRange as Content}
use Rattle.range_text.specs.Ranges.{SpellsContent}
use Rattle.response_head.specs.Responses.{IsResponse, ResponseParts, only_value, parts_of}
use Rattle.range_client.specs.declared.demands.Demand.{Demand}
use Rattle.range_client.specs.declared.faults.BadKind.{BadKind}
use Rattle.range_client.specs.declared.faults.BadKind.TheVariants.{Ended, Head, Status, ContentRange, Length}
use Rattle.range_client.specs.declared.judge.Told.{Told}
use Rattle.range_client.specs.Demands.{is_size, is_status, length_wanted, range_wanted}

-- the one Content-Range field of a response tells this
pub record TellsRange (response : ResponseParts) (range : Content) : Type 0 where
  pub value : List ℕ
  pub only : only_value (codes "content-range") response ≡ Some value
  pub spells : SpellsContent value range

-- it tells the range that is wanted, of a file of this size
abbrev pub HasRange : Demand → ResponseParts → ℕ → Type 0
HasRange demand response size = TellsRange response (range_wanted demand response.status size) × IsTrue (is_size demand response.status size)

-- the one Content-Length field of a response is just this number
abbrev pub tells_length : ResponseParts → ℕ → Bool
tells_length response count = option_map_or (λ value. bytes_eq value (decimal count)) (only_value (codes "content-length") response) false

-- the response is wanted, and tells the size of the file and the length of the body
pub record IsWanted (demand : Demand) (response : ResponseParts) (told : Told) : Type 0 where
  pub status : IsTrue (is_status demand response.status)
  pub range : HasRange demand response told.size
  pub count : told.count ≡ length_wanted demand response.status
  pub length_is : IsTrue (tells_length response told.count)

-- the first thing that is wrong with a response
abbrev pub Lacks : Demand → ResponseParts → BadKind → Type 0
Lacks demand response Ended = ⊥
Lacks demand response Head = ⊥
Lacks demand response Status = is_status demand response.status ≡ false
Lacks demand response ContentRange = IsTrue (is_status demand response.status) × ((size : ℕ) → ¬ HasRange demand response size)
Lacks demand response Length =
    IsTrue (is_status demand response.status) × ((size : ℕ) × HasRange demand response size)
    × (tells_length response (length_wanted demand response.status) ≡ false)

-- the bytes are the head of a wanted response
pub record IsGood (demand : Demand) (head : List ℕ) (told : Told) : Type 0 where
  pub tree : ResponseHead
  pub reads : IsResponse head tree
  pub wanted : IsWanted demand (parts_of tree) told

-- the first thing that is wrong with the bytes of a head
abbrev pub IsWrong : Demand → List ℕ → BadKind → Type 0
IsWrong demand head Head = (tree : ResponseHead) → ¬ IsResponse head tree
IsWrong demand head kind = (tree : ResponseHead) × IsResponse head tree × Lacks demand (parts_of tree) kind
