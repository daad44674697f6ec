-- Where a core is led by the bytes that it uses.
use Rattle.std.specs.Prelude.{◌≡◌, ◌≤◌, ◌⊎◌, ◌+◌, ◌-◌, ◌*◌, ℕ, true, if◌then◌else◌, List, [], ◌++◌, length}
use Rattle.std.specs.List.{list_any}
use Rattle.range_reply.specs.Replies.{closes_after}
use Rattle.range_reply.specs.Heads.{heads_within, most_heads}
use Rattle.range_server.specs.Core.{Core, IsSound}

-- the heads that are left for it in these bytes
abbrev pub heads_left : Core → List ℕ → List (List ℕ)
heads_left core bytes = if core.closed then [] else heads_within (most_heads - core.answered) (core.kept ++ bytes)

-- how many bytes it uses at the most
abbrev pub room : Core → ℕ
room core = if core.closed then 0 else (most_heads - core.answered) * 8192 - length core.kept

-- bytes that it used, the heads that it answered on the way, and the core behind them
pub record Path (start : Core) (used : List ℕ) (heads : List (List ℕ)) (end : Core) : Type 0 where
  pub sound : IsSound end
  pub size : end.size ≡ start.size
  pub left : (more : List ℕ) → heads_left start (used ++ more) ≡ heads ++ heads_left end more
  pub room_left : room end + length used ≤ room start
  pub count : end.answered ≡ start.answered + length heads
  pub closing : end.closed ≡ true → (start.closed ≡ true) ⊎ ((list_any closes_after heads ≡ true) ⊎ (end.answered ≡ most_heads))
