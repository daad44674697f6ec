-- The core of one connection, and the steps that it takes.
use Rattle.std.specs.Prelude.{◌≡◌, ◌≤◌, ◌<◌, ◌==◌, ◌||◌, ℕ, ◌+◌, ◌-◌, Bool, true, false, if◌then◌else◌, List, [], ◌∷◌, ◌++◌, length, take, None, is_some, unwrap_or}
use Rattle.range_reply.specs.Replies.{closes_after}
use Rattle.range_reply.specs.Heads.{most_heads, next_len}

-- the size of the image, the bytes of a head that has not ended, how many heads were answered, and whether no more are
pub record Core : Type 0 where
  pub size : ℕ
  pub kept : List ℕ
  pub answered : ℕ
  pub closed : Bool

-- one on which nothing has come yet
abbrev pub new_core : ℕ → Core
new_core size = record { size = size; kept = []; answered = 0; closed = false }

-- how many bytes of a piece it uses: up to the end of a head, or of 8,192 bytes without one, or of the piece
abbrev pub used_len : Core → List ℕ → ℕ
used_len core piece =
    if core.closed then 0 else unwrap_or (next_len (core.kept ++ piece)) (length (core.kept ++ piece)) - length core.kept

abbrev pub used_of : Core → List ℕ → List ℕ
used_of core piece = take (used_len core piece) piece

-- the head that it answers with these bytes, if that ends
abbrev pub answered_with : Core → List ℕ → List (List ℕ)
answered_with core used = if is_some (next_len (core.kept ++ used)) then (core.kept ++ used) ∷ [] else []

-- the core behind such an answer, and behind bytes that it used
abbrev pub behind_answer : Core → List ℕ → Core
behind_answer core head = record {
  size = core.size;
  kept = [];
  answered = core.answered + 1;
  closed = closes_after head || (core.answered + 1 == most_heads);
}

abbrev pub after : Core → List ℕ → Core
after core used =
    if is_some (next_len (core.kept ++ used)) then behind_answer core (core.kept ++ used) else record core { kept = core.kept ++ used }

-- what holds of a core: it keeps no whole head, it keeps nothing where it is closed, and it is open while more heads may
-- be answered
pub record IsSound (core : Core) : Type 0 where
  pub unended : next_len core.kept ≡ None
  pub spent : core.closed ≡ true → core.kept ≡ []
  pub most : core.answered ≤ most_heads
  pub open_below : core.closed ≡ false → core.answered < most_heads
