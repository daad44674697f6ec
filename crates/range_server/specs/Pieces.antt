-- Calls of `take`, one after another.
use Rattle.std.specs.Prelude.{◌≡◌, ◌==◌, ℕ, if◌then◌else◌, List, [], ◌∷◌, ◌++◌, length, flat_map}
use Rattle.range_reply.specs.Replies.{reply_of}
use Rattle.range_reply.specs.Heads.{replies}
use Rattle.range_server.specs.Core.{Core, after, answered_with, new_core, used_of}

-- the bytes that a core uses of pieces, and the heads that it answers
abbrev pub all_used : Core → List (List ℕ) → List ℕ
all_used core [] = []
all_used core (piece ∷ pieces) = used_of core piece ++ all_used (after core (used_of core piece)) pieces

abbrev pub all_answered : Core → List (List ℕ) → List (List ℕ)
all_answered core [] = []
all_answered core (piece ∷ pieces) = answered_with core (used_of core piece) ++ all_answered (after core (used_of core piece)) pieces

-- however the input is cut into pieces, the replies are those to the bytes used
abbrev pub ForAnyPieces : Type 0
ForAnyPieces =
    (image : List ℕ) (pieces : List (List ℕ))
    → flat_map (reply_of image) (all_answered (new_core (length image)) pieces) ≡ replies image (all_used (new_core (length image)) pieces)

-- a piece that comes on one of several connections
pub record Event : Type 0 where
  pub connection : ℕ
  pub piece : List ℕ

-- the cores behind it: that of its connection has taken the piece, and the others are as they were
abbrev pub after_event : (ℕ → Core) → Event → ℕ → Core
after_event cores event n = if n == event.connection then after (cores n) (used_of (cores n) event.piece) else cores n

-- the bytes that one connection uses of events, and the heads that are answered on it
abbrev pub used_on : ℕ → (ℕ → Core) → List Event → List ℕ
used_on n cores [] = []
used_on n cores (event ∷ events) =
    (if n == event.connection then used_of (cores n) event.piece else []) ++ used_on n (after_event cores event) events

abbrev pub answered_on : ℕ → (ℕ → Core) → List Event → List (List ℕ)
answered_on n cores [] = []
answered_on n cores (event ∷ events) =
    (if n == event.connection then answered_with (cores n) (used_of (cores n) event.piece) else []) ++ answered_on n (after_event cores event) events

-- each of several connections is answered for itself
abbrev pub ForAnyEvents : Type 0
ForAnyEvents =
    (image : List ℕ) (n : ℕ) (events : List Event)
    → flat_map (reply_of image) (answered_on n (λ _. new_core (length image)) events) ≡ replies image (used_on n (λ _. new_core (length image)) events)
