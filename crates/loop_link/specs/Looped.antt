-- What a link to a server of an image is seen as.
use Rattle.std.specs.Prelude.{◌≡◌, ◌≤◌, ◌<◌, ◌^◌, ℕ, min, nat_le, Bool, true, if◌then◌else◌, List, [], length, Some, None}
use Rattle.byte_links.specs.Exchange.{most_asks}
use Rattle.byte_links.specs.Link.{LinkState}
use Rattle.range_server.specs.Core.{Core, new_core}
use Rattle.range_client.specs.Client.{ClientState, IsInStep}
use Rattle.loop_link.specs.Asks.{AsksFor}

-- the image, the most bytes of a read, the core, what is left to be read, how often the image was asked for, whether
-- nothing else was written, and how often a read has met the end
pub record Looped : Type 0 where
  pub image : List ℕ
  pub piece : ℕ
  pub core : Core
  pub coming : List ℕ
  pub asks : ℕ
  pub is_in_step : Bool
  pub ends : ℕ

-- one on which nothing has happened yet
abbrev pub new_looped : List ℕ → ℕ → Looped
new_looped image piece = record { image = image; piece = piece; core = new_core (length image); coming = []; asks = 0; is_in_step = true; ends = 0 }

abbrev pub looped_link : Looped → LinkState
looped_link l = record {
  received = None;
  sent = None;
  faults = 0;
  ends = l.ends;
  image = Some l.image;
  step = (if l.is_in_step then Some (record { coming = l.coming; asks = l.asks }) else None);
}

-- the core has answered just the asks, as long as it answers any
pub record IsInTurn (core : Core) (asks : ℕ) : Type 0 where
  pub kept : core.kept ≡ []
  pub answered : core.answered ≡ min asks most_asks
  pub closed : core.closed ≡ nat_le most_asks asks

pub record IsSound (image : List ℕ) (piece : ℕ) (core : Core) (asks : ℕ) (is_in_step : Bool) (replies : List ℕ) (at : ℕ) : Type 0 where
  pub some : 0 < piece
  pub small : length image ≤ 2 ^ 48
  pub size : core.size ≡ length image
  pub place : at ≤ length replies
  pub turn : is_in_step ≡ true → IsInTurn core asks

-- the piece is an ask of a link in step
pub record IsAsking (l : Looped) (piece : List ℕ) : Type 0 where
  pub in_step : l.is_in_step ≡ true
  pub nothing : l.coming ≡ []
  pub first : ℕ
  pub last : ℕ
  pub asks_for : AsksFor (length l.image) piece first last

-- a client that tells the image, and may ask for any part of it
pub record ReadsImage (image : List ℕ) (client : ClientState) : Type 0 where
  pub image_is : client.link.image ≡ Some image
  pub size_is : client.size ≡ length image
  pub asked : client.asked ≡ Some []
  pub spent : client.spent ≡ None
  pub in_step : IsInStep client.link 1
