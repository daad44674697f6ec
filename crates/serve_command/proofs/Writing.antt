-- A text that is written piece by piece meets the contract of one write.
use Rattle.std.proofs.Common.{◌≡◌, ℕ, List, ◌++◌, Result, Ok, Err, sym, subst, arith}
use Rattle.std.specs.Prelude.{OnOk}
use Rattle.fgb_outside.specs.Sink.{Sink, Appends, AppendsPart, Writes}
use Rattle.fgb_outside.specs.declared.sinks.SinkError.{SinkError}
use Rattle.fgb_outside.proofs.Shown.{rose_since, appends_appends, appends_then_part, part_longer}

-- a piece behind others that were written
pub both : {T U : Type 0} {a b c : Sink} {u : U} (text xs ys piece : List ℕ) (r : Result T SinkError) → text ≡ xs ++ ys → piece ≡ ys → Writes a b xs (Ok u) → Writes b c piece r → Writes a c text r
both {a = a} {b = b} {c = c} text xs ys piece r whole same p q = record {
  written = written r q.written;
  part = subst (AppendsPart a c) (sym whole) (subst (λ zs. AppendsPart a c (xs ++ zs)) same (appends_then_part a b c xs piece p.written q.part));
  later = omega (arith, p.later, q.later);
  later_wants = omega (arith, p.later_wants, q.later_wants);
  failed = λ e. rose_since a.faults b.faults c.faults p.later (q.failed e);
  wanted = λ e. rose_since a.wants b.wants c.wants p.later_wants (q.wanted e);
}
  where
    written : {V : Type 0} (v : Result V SinkError) → OnOk v (Appends b c piece) → OnOk v (Appends a c text)
    written (Ok v) appends = subst (Appends a c) (sym whole) (subst (λ zs. Appends a c (xs ++ zs)) same (appends_appends a b c xs piece p.written appends))
    written (Err e) appends = tt

-- a text that was not written whole, in front of more
pub front : {T : Type 0} {a b : Sink} {e : SinkError} (text xs ys : List ℕ) (r : Result T SinkError) → r ≡ Err e → text ≡ xs ++ ys → Writes {T = T} a b xs (Err e) → Writes a b text r
front {a = a} {b = b} text xs ys r is whole p =
    subst (Writes a b text) (sym is) (record {
      written = tt;
      part = subst (AppendsPart a b) (sym whole) (part_longer a b xs ys p.part);
      later = p.later;
      later_wants = p.later_wants;
      failed = p.failed;
      wanted = p.wanted;
    })
