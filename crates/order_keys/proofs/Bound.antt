-- A word spells at most one bound.
use Rattle.std.proofs.Common.{◌≡◌, ℕ, List, Option, Some, None, ap, sym, ◌∙◌}
use Rattle.order_keys.specs.declared.coord.Coord.{Coord}
use Rattle.order_keys.specs.declared.words.Spelling.{Spelling}
use Rattle.order_keys.specs.declared.words.Spelling.TheVariants.{Pattern, Number}
use Rattle.order_keys.specs.Words.{spelling_of, IsBound, SpellsBound}
use Rattle.order_keys.proofs.Exact.{same_pattern}
use Rattle.order_keys.proofs.Fraction.{power_some}

same_coord : (a b : Coord) → a.0 ≡ b.0 → a ≡ b
same_coord a b e = ap (λ (p : ℕ). let c : Coord = record { 0 = p } in c) e

pub same_bound : (s : Option Spelling) (a b : Coord) → IsBound s a → IsBound s b → a ≡ b
same_bound None a b h k = absurd h
same_bound (Some (Pattern p)) a b h k = same_coord a b (h.1 ∙ sym k.1)
same_bound (Some (Number f)) a b h k =
    same_coord a b (same_pattern a.0 b.0 f.is_negative f.number f.divisor (power_some f.divisor h.power) h.exact k.exact)

pub only_bound : (text : List ℕ) (a b : Coord) → SpellsBound text a → SpellsBound text b → a ≡ b
only_bound text a b h k = same_bound (spelling_of text) a b h k
