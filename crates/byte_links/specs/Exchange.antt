-- What is asked and given over a link that serves an image: a request for a part of it, and the reply (RFC 9112, sections 3
-- and 4; RFC 9110, sections 14.2, 14.4, 15.3.7 and 15.5.17).
use Rattle.std.specs.Prelude.{◌≡◌, ◌==◌, ◌≤◌, ◌<◌, ◌⊎◌, ℕ, ◌+◌, ◌-◌, if◌then◌else◌, List, [], ◌∷◌, ◌++◌, length, slice_range, codes, decimal}
use Rattle.std.specs.List.{flat_map}
use Rattle.range_text.specs.declared.answers.ContentRange.TheVariants.{Part, Unsatisfied}
use Rattle.range_text.specs.Ranges.{range_text, content_text}

-- a line, with CR LF at its end
abbrev pub line : List ℕ → List ℕ
line text = text ++ 13 ∷ 10 ∷ []

-- the lines of a head, and the empty line behind them
abbrev pub head : List (List ℕ) → List ℕ
head lines = flat_map line lines ++ line []

-- the request for the bytes from place a to place b
unfoldable pub ask : ℕ → ℕ → List ℕ
ask a b = head (codes "GET /map.fgb HTTP/1.1" ∷ codes "Host: 127.0.0.1" ∷ (codes "Range: " ++ range_text a b) ∷ [])

-- the reply with the bytes from place a to place b
unfoldable pub part_given : List ℕ → ℕ → ℕ → List ℕ
part_given image a b =
    head (codes "HTTP/1.1 206 Partial Content" ∷ codes "Accept-Ranges: bytes" ∷ (codes "Content-Range: " ++ content_text (Part a b (length image)))
    ∷ (codes "Content-Length: " ++ decimal (b - a + 1)) ∷ [])
    ++ slice_range image a (b + 1)

-- the reply that there are no bytes
unfoldable pub nothing_given : List ℕ
nothing_given = head (codes "HTTP/1.1 416 Range Not Satisfiable" ∷ codes "Accept-Ranges: bytes" ∷ (codes "Content-Range: " ++ content_text (Unsatisfied 0)) ∷ codes "Content-Length: 0" ∷ [])

-- the reply to the request for the bytes from place a to place b
abbrev pub give : List ℕ → ℕ → ℕ → List ℕ
give image a b = if length image == 0 then nothing_given else part_given image a b

-- the places lie in the image in order; of an empty one 0 to 0 is asked for
abbrev pub IsWithin : List ℕ → ℕ → ℕ → Type 0
IsWithin image a b = ((a ≤ b) × (b < length image)) ⊎ ((length image ≡ 0) × (a ≡ 0) × (b ≡ 0))

-- how many requests are answered over one link
abbrev pub most_asks : ℕ
most_asks = 1000000000
