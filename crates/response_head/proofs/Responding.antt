-- Bytes are at most one head.
use Rattle.std.proofs.Common.{◌≡◌, ℕ, List, []}
use Rattle.httparse.specs.Grammar.{ResponseHead}
use Rattle.httparse.proofs.GrammarLemmas.{response_unique}
use Rattle.response_head.specs.Responses.{IsResponse}

pub one_response : (bytes : List ℕ) (a b : ResponseHead) → IsResponse bytes a → IsResponse bytes b → a ≡ b
one_response bytes a b first second = (response_unique bytes a b [] [] first.reads second.reads).0
