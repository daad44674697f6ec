-- Whether bytes are a request is decided.
use Rattle.std.proofs.Common.{◌≡◌, ◌∙◌, ℕ, Bool, true, false, refl, sym, ap, arith, List, [], ◌∷◌, length, inl, inr, Some, None}
use Rattle.std.specs.Prelude.{nat_eq}
use Rattle.std.specs.List.{ends_with}
use Rattle.std.proofs.lemmas.Bool.{cases_lt, false≢true}
use Rattle.httparse.specs.Grammar.{ReadsRequest, RequestHead}
use Rattle.httparse.proofs.GrammarLemmas.{request_from_pieces, request_head, request_pieces, request_tree, request_unique}
use Rattle.request_head.specs.Found.{Found}
use Rattle.request_head.specs.Requests.{IsRequest, empty_line}
use Rattle.request_head.proofs.Pieces.{head_decided}

no_request : (bytes : List ℕ) → ((head : RequestHead) → ¬ (IsRequest bytes head)) → Found (IsRequest bytes)
no_request bytes none = record { found = None; fits = tt; nothing = none }

-- a head at the front that is all of the bytes or not
request_from : (bytes : List ℕ) (head : RequestHead) (rest : List ℕ) → ends_with nat_eq bytes empty_line ≡ true → ReadsRequest bytes head rest
    → Found (IsRequest bytes)
request_from bytes head (b ∷ rest) ended reads = no_request bytes (λ other is.
    let same = request_unique bytes other head [] (b ∷ rest) is.reads reads in
    omega (arith, ap length same.1))
request_from bytes head [] ended reads =
    elim (cases_lt 32 (length head.fields)) [
      | inr few ↦ record { found = Some head; fits = record { ended = ended; reads = reads; few = few }; nothing = tt }
      | inl many ↦ no_request bytes (λ other is.
          let same = request_unique bytes other head [] [] is.reads reads in
          omega (arith, is.few, ap (λ (h : RequestHead). length h.fields) same.0))
    ]

request_where : (bytes : List ℕ) (ended : Bool) → ends_with nat_eq bytes empty_line ≡ ended → Found (IsRequest bytes)
request_where bytes false unended = no_request bytes (λ head is. false≢true (sym unended ∙ is.ended))
request_where bytes true ended =
    elim (head_decided bytes) [
      | inl found ↦ request_from bytes (request_head found.0) found.1 ended (request_from_pieces bytes found.0 found.1 found.2)
      | inr none ↦ no_request bytes (λ head is. none (request_tree head, [], request_pieces bytes head [] is.reads))
    ]

-- the request that the bytes are
pub request_in : (bytes : List ℕ) → Found (IsRequest bytes)
request_in bytes = request_where bytes (ends_with nat_eq bytes empty_line) refl
