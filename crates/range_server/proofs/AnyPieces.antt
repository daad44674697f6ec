-- The laws on pieces and connections.
use Rattle.std.proofs.Common.{◌≡◌, ℕ, Bool, true, false, cond, ◌==◌, List, [], ◌∷◌, ◌++◌, length, refl, sym, ap, ◌∙◌, arith}
use Rattle.std.specs.Prelude.{flat_map}
use Rattle.range_reply.specs.Replies.{reply_of}
use Rattle.range_reply.specs.Heads.{heads, replies}
use Rattle.range_server.specs.Core.{Core, IsSound, after, answered_with, new_core, used_of}
use Rattle.range_server.specs.Paths.{Path, heads_left}
use Rattle.range_server.specs.Pieces.{Event, ForAnyEvents, ForAnyPieces, after_event, all_answered, all_used, answered_on, used_on}
use Rattle.range_server.proofs.Nexts.{nothing_ends}
use Rattle.range_server.proofs.Cuts.{uses_of}
use Rattle.range_server.proofs.Roads.{left_nothing, path_of}

pub sound_new : (size : ℕ) → IsSound (new_core size)
sound_new size = record { unended = nothing_ends; spent = λ _. refl; most = omega arith; open_below = λ _. omega arith }

pub heads_new : (size : ℕ) (bytes : List ℕ) → heads_left (new_core size) bytes ≡ heads bytes
unfolding heads
heads_new size bytes = refl

step : (core : Core) → IsSound core → (piece : List ℕ) → Path core (used_of core piece) (answered_with core (used_of core piece)) (after core (used_of core piece))
step core sound piece = path_of core (used_of core piece) sound (uses_of core sound piece)

left_of_pieces : (core : Core) → IsSound core → (pieces : List (List ℕ)) → heads_left core (all_used core pieces) ≡ all_answered core pieces
left_of_pieces core sound [] = left_nothing core sound
left_of_pieces core sound (piece ∷ pieces) =
    let p = step core sound piece in
    p.left (all_used (after core (used_of core piece)) pieces)
    ∙ ap (λ hs. answered_with core (used_of core piece) ++ hs) (left_of_pieces (after core (used_of core piece)) p.sound pieces)

replies_are : (image bytes : List ℕ) (answered : List (List ℕ)) → heads_left (new_core (length image)) bytes ≡ answered
    → flat_map (reply_of image) answered ≡ replies image bytes
unfolding replies
replies_are image bytes answered e = ap (flat_map (reply_of image)) (sym e ∙ heads_new (length image) bytes)

pub for_any_pieces : ForAnyPieces
for_any_pieces image pieces =
    replies_are image (all_used (new_core (length image)) pieces) _ (left_of_pieces (new_core (length image)) (sound_new (length image)) pieces)

-- a core that an event may concern
module _ (core : Core) (piece : List ℕ) where
  abbrev next : Bool → Core
  next b = cond b (after core (used_of core piece)) core

  sound_next : (b : Bool) → IsSound core → IsSound (next b)
  sound_next true sound = (step core sound piece).sound
  sound_next false sound = sound

  left_next : (b : Bool) → IsSound core → (rest : List ℕ) (others : List (List ℕ)) → heads_left (next b) rest ≡ others
      → heads_left core (cond b (used_of core piece) [] ++ rest) ≡ cond b (answered_with core (used_of core piece)) [] ++ others
  left_next true sound rest others e =
      (step core sound piece).left rest ∙ ap (λ hs. answered_with core (used_of core piece) ++ hs) e
  left_next false sound rest others e = e

left_of_events : (n : ℕ) (cores : ℕ → Core) → IsSound (cores n) → (events : List Event) → heads_left (cores n) (used_on n cores events) ≡ answered_on n cores events
left_of_events n cores sound [] = left_nothing (cores n) sound
left_of_events n cores sound (event ∷ events) =
    left_next (cores n) event.piece (n == event.connection) sound _ _
    (left_of_events n (after_event cores event) (sound_next (cores n) event.piece (n == event.connection) sound) events)

pub for_any_events : ForAnyEvents
for_any_events image n events =
    replies_are image (used_on n (λ _. new_core (length image)) events) _
    (left_of_events n (λ _. new_core (length image)) (sound_new (length image)) events)
