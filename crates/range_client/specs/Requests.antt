-- The request of a client (RFC 9110, section 14.2; RFC 9112, section 3).
use Rattle.std.specs.Prelude.{◌≡◌, ◌≤◌, ℕ, IsTrue, List, [], ◌∷◌, ◌++◌, length, take, codes}
use Rattle.std.specs.List.{list_all}
use Rattle.std.specs.Char.{is_ascii_graphic}
use Rattle.range_text.specs.Ranges.{range_text}
use Rattle.byte_links.specs.Exchange.{head}

-- the request for the bytes from place a to place b of the file at this path
unfoldable pub request : List ℕ → ℕ → ℕ → List ℕ
request path a b = head ((codes "GET " ++ path ++ codes " HTTP/1.1") ∷ codes "Host: 127.0.0.1" ∷ (codes "Range: " ++ range_text a b) ∷ [])

-- a path: at most 1,024 visible bytes, the first of them a slash
pub record IsPath (path : List ℕ) : Type 0 where
  pub rooted : take 1 path ≡ codes "/"
  pub short : length path ≤ 1024
  pub visible : IsTrue (list_all is_ascii_graphic path)
