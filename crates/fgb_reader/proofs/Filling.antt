-- What a window asked for over several fills.
use Rattle.std.proofs.Common.{◌≡◌, ◌-◌, ◌≤◌, ap, subst, arith}
use Rattle.std.specs.List.{range_with_len}
use Rattle.fgb_outside.specs.Source.{Source}
use Rattle.fgb_outside.specs.Asked.{Reads, ReadsFront}
use Rattle.fgb_outside.proofs.Asking.{reads_nothing, reads_along, front_nothing}
use Rattle.section_window.specs.Window.{Held, IsPiece, ahead, Grows}
use Rattle.section_window.proofs.Showing.{grows_ahead, reads_on, front_on}
use Rattle.fgb_reader.specs.Filling.{Fills, FillsPart}

pub fills_nothing : (w : Held) (s : Source) → Fills w w s s
fills_nothing w s =
    let none : 0 ≡ ahead w - ahead w = omega arith in
    record { reads = reads_along _ _ (ap (range_with_len (ahead w)) none) (reads_nothing s); onward = omega arith }

-- one fill
pub fills_one : (w w' : Held) (s s' : Source) → w'.at ≡ w.at → Grows w w' → Reads (IsPiece w.at w.end) s s' (range_with_len (ahead w) (ahead w' - ahead w)) → Fills w w' s s'
fills_one w w' s s' at grows reads = record { reads = reads; onward = grows_ahead w w' at grows }

-- one after the other
pub fills_on : (u v w : Held) (a b c : Source) → v.at ≡ u.at → v.end ≡ u.end → Fills u v a b → Fills v w b c → Fills u w a c
fills_on u v w a b c at end p q = record {
  reads = reads_on (ahead u) (ahead v) (ahead w) p.onward q.onward p.reads
      (subst (λ from. Reads (IsPiece from u.end) b c (range_with_len (ahead v) (ahead w - ahead v))) at (subst (λ till. Reads (IsPiece v.at till) b c (range_with_len (ahead v) (ahead w - ahead v))) end q.reads));
  onward = omega (arith, p.onward, q.onward);
}

pub fills_part : (u v : Held) (a b c : Source) → v.at ≡ u.at → v.end ≡ u.end → ahead v ≤ v.end → Fills u v a b → FillsPart v b c → FillsPart u a c
fills_part u v a b c at end within p q =
    front_on (ahead u) (ahead v) u.end p.onward (omega arith) p.reads
    (subst (λ from. ReadsFront (IsPiece from u.end) b c (range_with_len (ahead v) (u.end - ahead v))) at (subst (λ till. ReadsFront (IsPiece v.at till) b c (range_with_len (ahead v) (till - ahead v))) end q))

-- all of it is a front of what was left
pub fills_whole : (u v : Held) (a b : Source) → v.at ≡ u.at → v.end ≡ u.end → ahead v ≤ v.end → Fills u v a b → FillsPart u a b
fills_whole u v a b at end within p = fills_part u v a b b at end within p (front_nothing b (range_with_len (ahead v) (v.end - ahead v)))
