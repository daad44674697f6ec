-- The heads of requests in the bytes of a connection (RFC 9112, section 2.2).
use Rattle.std.specs.Prelude.{ℕ, suc, zero, ◌+◌, ◌==◌, ◌||◌, nat_eq, Bool, if◌then◌else◌, List, [], ◌∷◌, length, take, drop, flat_map, Option}
use Rattle.std.specs.List.{ends_with, find, range_with_len}
use Rattle.std.specs.Option.{option_map_or}
use Rattle.request_head.specs.Requests.{empty_line}
use Rattle.range_reply.specs.Replies.{closes_after, reply_of}

-- the first n bytes end in an empty line, or are 8,192
abbrev pub ends_at : List ℕ → ℕ → Bool
ends_at bytes n = ends_with nat_eq (take n bytes) empty_line || (n == 8192)

-- how many bytes are answered next: the fewest such, if there are so many
unfoldable pub next_len : List ℕ → Option ℕ
next_len bytes = find (ends_at bytes) (range_with_len 0 (length bytes + 1))

-- the heads that are answered, at most so many: up to one whose reply closes, or to a rest with no end
unfoldable pub heads_within : ℕ → List ℕ → List (List ℕ)
heads_within zero bytes = []
heads_within (suc left) bytes =
    option_map_or (λ n. take n bytes ∷ (if closes_after (take n bytes) then [] else heads_within left (drop n bytes))) (next_len bytes) []

-- how many heads of one connection are answered
abbrev pub most_heads : ℕ
most_heads = 1000000000

unfoldable pub heads : List ℕ → List (List ℕ)
heads bytes = heads_within most_heads bytes

-- the replies to the heads, one after another
unfoldable pub replies : List ℕ → List ℕ → List ℕ
replies image bytes = flat_map (reply_of image) (heads bytes)
