-- A size is put in four bytes, and a buffer behind it.
use Rattle.std.proofs.Common.{◌≡◌, ℕ, List, ◌++◌, take, ap, subst}
use Rattle.byteorder.specs.Endian.{little_bytes}
use Rattle.fgb_outside.specs.Sink.{Sink}
use Rattle.sink_page.specs.Pages.{Adds, AddsPart}
use Rattle.sink_page.proofs.Pages.{adds_adds, adds_then_part, part_more}

module _ (a b : Sink) (p q size buffer : List ℕ) (n : ℕ) (is : size ≡ little_bytes 8 n) where
  prefix : take 4 size ≡ little_bytes 4 n
  prefix = ap (take 4) is

  pub put_part : AddsPart a b p q (take 4 size) → AddsPart a b p q (little_bytes 4 n ++ buffer)
  put_part part = part_more a b p q (little_bytes 4 n) buffer (subst (AddsPart a b p q) prefix part)

  module _ (c : Sink) (r : List ℕ) (first : Adds a b p q (take 4 size)) where
    pub put_both : Adds b c q r buffer → Adds a c p r (little_bytes 4 n ++ buffer)
    put_both second = adds_adds a b c p q r (little_bytes 4 n) buffer (subst (Adds a b p q) prefix first) second

    pub put_then_part : AddsPart b c q r buffer → AddsPart a c p r (little_bytes 4 n ++ buffer)
    put_then_part second = adds_then_part a b c p q r (little_bytes 4 n) buffer (subst (Adds a b p q) prefix first) second
