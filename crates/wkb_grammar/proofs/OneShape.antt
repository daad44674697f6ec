-- Bytes are the value of at most one shape.
use Rattle.std.proofs.Common.{◌≡◌, ℕ, List, [], ap, sym, ◌∙◌, append-nil}
use Rattle.fgb_schema.specs.Shapes.{Shape}
use Rattle.wkb_writer.specs.declared.dialect.Dialect.{Dialect}
use Rattle.wkb_grammar.specs.Grammar.{bytes_of}
use Rattle.wkb_grammar.specs.ShapesShown.{shape_of}
use Rattle.wkb_grammar.specs.Wkb.{IsValueOf}
use Rattle.wkb_grammar.proofs.Apart.{values_are_told_apart}

-- bytes that are a value of one shape are one of no other
pub one_shape : (dialect : Dialect) (g h : Shape) (bytes : List ℕ) → IsValueOf dialect g bytes → IsValueOf dialect h bytes → g ≡ h
one_shape dialect g h bytes first second =
    let same = values_are_told_apart first.dimension second.dimension first.spelled second.spelled [] [] first.is second.is
    (append-nil (bytes_of first.spelled) ∙ sym first.spells ∙ second.spells ∙ sym (append-nil (bytes_of second.spelled))) in
    first.shown ∙ ap shape_of same.0 ∙ sym second.shown
