use Rattle.std.proofs.Common.{◌≡◌, ℕ, List, ◌++◌, take, ap, subst}
use Rattle.byteorder.specs.Endian.{little_bytes}
use Rattle.fgb_outside.specs.Sink.{Sink}
use Rattle.text_query.specs.Pages.{Adds, AddsPart}
use Rattle.text_query.proofs.Pages.{adds_adds, adds_then_part, part_more, on_err, on_ok, of_ok, on_err_map}
use Rattle.text_query.proofs.writer.put_copy.Goals as goal

-- a size is put in four bytes, and a buffer behind it
module _ (a b : Sink) (p q size buffer : List ℕ) (n : ℕ) (is : size ≡ little_bytes 8 n) where
  prefix : take 4 size ≡ little_bytes 4 n
  prefix = ap (take 4) is

  put_part : AddsPart a b p q (take 4 size) → AddsPart a b p q (little_bytes 4 n ++ buffer)
  put_part part = part_more a b p q (little_bytes 4 n) buffer (subst (AddsPart a b p q) prefix part)

  module _ (c : Sink) (r : List ℕ) (first : Adds a b p q (take 4 size)) where
    put_both : Adds b c q r buffer → Adds a c p r (little_bytes 4 n ++ buffer)
    put_both second = adds_adds a b c p q r (little_bytes 4 n) buffer (subst (Adds a b p q) prefix first) second

    put_then_part : AddsPart b c q r buffer → AddsPart a c p r (little_bytes 4 n ++ buffer)
    put_then_part second = adds_then_part a b c p q r (little_bytes 4 n) buffer (subst (Adds a b p q) prefix first) second

pub returns-in_err-put-clause-err : goal.returns-in_err-put-clause-err
returns-in_err-put-clause-err g c = on_err c.from_residual.result _ (put_part _ _ _ _ _ _ _ c.to_le_bytes-size.ensures c.in_err-put.ensures.err)

pub returns-clause-ok : goal.returns-clause-ok
returns-clause-ok g c = on_ok c.put-2.result _ (λ ok. put_both _ _ _ _ _ _ _ c.to_le_bytes-size.ensures _ _ c.in_ok-put.ensures.ok (of_ok c.put-2.result _ c.put-2.ensures.ok ok))

pub returns-clause-err : goal.returns-clause-err
returns-clause-err g c = on_err_map c.put-2.result _ _ (λ part. put_then_part _ _ _ _ _ _ _ c.to_le_bytes-size.ensures _ _ c.in_ok-put.ensures.ok part) c.put-2.ensures.err
