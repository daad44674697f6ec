-- Bytes that end inside a point.
use Rattle.std.proofs.Common.{◌≡◌, ℕ, ◌+◌, ◌*◌, ◌/◌, ◌<◌, Bool, List, length, subst, arith}
use Rattle.flat_layout.specs.declared.Rule.TheVariants.{WkbEnd}
use Rattle.wkb_writer.specs.declared.dimension.Dimension.{Dimension}
use Rattle.wkb_grammar.specs.Grammar.{Order, beside_of}
use Rattle.wkb_reader.specs.Broken.{BreaksPosition, cut}

-- bytes that end inside an ordinate
pub position_cut : (o : Order) (d : Dimension) (e : Bool) (b : List ℕ) (left : ℕ) → left ≡ length b → left / 8 < 2 + beside_of d → BreaksPosition o d e b (left / 8 * 8) WkbEnd
position_cut o d e b left same few =
    subst (λ n. BreaksPosition o d e b n WkbEnd) (omega arith)
    (cut (left / 8) few (omega (arith, same)) (omega (arith, same)))
