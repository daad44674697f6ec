-- What is written, read back.
use Rattle.std.proofs.Common.{◌≡◌, ◌≤◌, ◌^◌, ℕ, refl, sym, subst, arith, List}
use Rattle.std.specs.Prelude.{codes, decimal}
use Rattle.range_text.specs.declared.answers.ContentRange.{ContentRange}
use Rattle.range_text.specs.declared.answers.ContentRange.TheVariants.{Part, Unsatisfied}
use Rattle.range_text.specs.Ranges.{IsTellable, SpellsContent, SpellsRange, a_to_b, a_to_b_of, between, content_text, none_of, range_text}
use Rattle.range_text.proofs.Digits.{decimal_spells}

pub range_spelled : (text : List ℕ) (a b : ℕ) → text ≡ range_text a b → a ≤ b → b ≤ 2 ^ 48 → SpellsRange text (between a b)
range_spelled text a b e order small =
    subst (λ value. SpellsRange value (between a b)) (sym e)
    (a_to_b (codes "bytes") (decimal a) (decimal b) a b refl (decimal_spells a (omega arith)) (decimal_spells b small))

pub content_spelled : (text : List ℕ) (range : ContentRange) → text ≡ content_text range → IsTellable range → SpellsContent text range
content_spelled text (Part a b n) e tellable =
    subst (λ value. SpellsContent value (Part a b n)) (sym e)
    (a_to_b_of (codes "bytes") (decimal a) (decimal b) (decimal n) a b n refl
    (decimal_spells a (omega arith)) (decimal_spells b (omega arith)) (decimal_spells n (omega arith)) (tellable.0) (tellable.1.0))
content_spelled text (Unsatisfied n) e small =
    subst (λ value. SpellsContent value (Unsatisfied n)) (sym e)
    (none_of (codes "bytes") (decimal n) n refl (decimal_spells n (omega arith)))
