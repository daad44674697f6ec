use Rattle.std.proofs.Common.{refl, sym, ap, append-nil, [], length, arith}
use Rattle.std.proofs.lemmas.Bool.Decides.{nat_tests}
use Rattle.flat_layout.specs.declared.Rule.TheVariants.{WkbRest, WkbSize}
use Rattle.flat_layout.proofs.Judging.{exit}
use Rattle.wkb_reader.specs.Broken.{BreaksValue, BreaksWhole, alone, in_value, too_long}
use Rattle.wkb_reader.proofs.Fronts.{names_from_start, names_it, none_read, nothing_follows, rest_follows}
use Rattle.wkb_reader.proofs.read.read.Goals as goal

pub returns-then-bytes-gt-MOST-clause-refused : goal.returns-then-bytes-gt-MOST-clause-refused
returns-then-bytes-gt-MOST-clause-refused c = names_it c.refused.result 0 WkbSize (BreaksWhole c.args.dialect c.args.bytes.now) c.refused.ensures (too_long (omega arith))

pub returns-in_err-shape-clause-refused : goal.returns-in_err-shape-clause-refused
returns-in_err-shape-clause-refused c =
    let b = c.args.bytes.now in
    let e = c.in_err-shape.field-0.0 in
    exit _ _ _ e c.from_residual.ensures.1 (names_from_start e 0 (BreaksValue c.args.dialect 1 alone b) (BreaksWhole c.args.dialect b) refl (λ q r broken. in_value (omega arith) broken) c.in_err-shape.ensures.err)

pub returns-in_err-shape-clause-only_memory : goal.returns-in_err-shape-clause-only_memory
returns-in_err-shape-clause-only_memory c g w =
    let b = c.args.bytes.now in
    let e = c.in_err-shape.field-0.0 in
    exit _ _ _ e c.from_residual.ensures.1 (none_read c.args.dialect e 0 b [] b g c.in_err-shape.ensures.err w (sym (append-nil b)))

pub returns-then-not-is_at_end-clause-refused : goal.returns-then-not-is_at_end-clause-refused
returns-then-not-is_at_end-clause-refused c =
    names_it c.refused-then-not-is_at_end.result c.take_value.new.cursor.at WkbRest (BreaksWhole c.args.dialect c.args.bytes.now) c.refused-then-not-is_at_end.ensures
    (rest_follows c.args.dialect c.in_ok-shape.shape _ c.take_value.new.cursor c.in_ok-shape.ensures.ok refl (omega arith)
    (λ none. let gone = ap length none in absurd (grind (arith, nat_tests))))

pub returns-then-not-is_at_end-clause-only_memory : goal.returns-then-not-is_at_end-clause-only_memory
returns-then-not-is_at_end-clause-only_memory c g w =
    let gone = ap length (nothing_follows c.args.dialect c.in_ok-shape.shape g _ c.take_value.new.cursor c.in_ok-shape.ensures.ok w) in
    absurd (grind (arith, nat_tests))
