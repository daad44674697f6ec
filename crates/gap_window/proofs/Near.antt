-- Where asking goes on.
use Rattle.std.proofs.Common.{◌≡◌, ℕ, ◌-◌, ◌<◌, ◌≤◌, Bool, true, false, sym, ap, ◌∙◌, ⊎_elim}
use Rattle.std.specs.Prelude.{◌&&◌, ◌||◌, nat_lt, if◌then◌else◌}
use Rattle.std.proofs.lemmas.Bool.{le-leb, lt-leb, cases_lt}
use Rattle.section_window.specs.Window.{ahead}
use Rattle.gap_window.specs.Bridging.{Bridging, is_near, asks_from}

apart : (b : Bool) → b ≡ true → b ≡ false → ⊥
apart b is not = cc

pub near_within : (w : Bridging) (to : ℕ) → to ≤ ahead w.held → is_near w to ≡ true
unfolding is_near
near_within w to le = ap (λ b. b || (w.begun && nat_lt (to - ahead w.held) w.gap)) (le-leb to (ahead w.held) le)

pub near_behind : (w : Bridging) (to : ℕ) → ahead w.held < to → is_near w to ≡ (w.begun && nat_lt (to - ahead w.held) w.gap)
unfolding is_near
near_behind w to lt = ap (λ b. b || (w.begun && nat_lt (to - ahead w.held) w.gap)) (lt-leb to (ahead w.held) lt)

-- what is far lies behind all that was asked for
pub far_behind : (w : Bridging) (to : ℕ) → is_near w to ≡ false → ahead w.held < to
far_behind w to far = ⊎_elim
    (λ (lt : ahead w.held < to). lt)
    (λ (le : to ≤ ahead w.held). absurd (apart (is_near w to) (near_within w to le) far))
    (cases_lt (ahead w.held) to)

pub asks_near : (w : Bridging) (to : ℕ) → is_near w to ≡ true → asks_from w to ≡ ahead w.held
unfolding asks_from
asks_near w to is = ap (λ b. if b then ahead w.held else to) is

pub asks_far : (w : Bridging) (to : ℕ) → is_near w to ≡ false → asks_from w to ≡ to
unfolding asks_from
asks_far w to far = ap (λ b. if b then ahead w.held else to) far

-- what is tested behind all that was asked for
pub near_told : (w : Bridging) (to a : ℕ) → a ≡ ahead w.held → ahead w.held < to → w.begun ≡ true → nat_lt (to - a) w.gap ≡ is_near w to
near_told w to a is lt begun = ap (λ k. nat_lt (to - k) w.gap) is ∙ sym (near_behind w to lt ∙ ap (λ b. b && nat_lt (to - ahead w.held) w.gap) begun)

pub near_never : (w : Bridging) (to : ℕ) → ahead w.held < to → w.begun ≡ false → false ≡ is_near w to
near_never w to lt begun = sym (near_behind w to lt ∙ ap (λ b. b && nat_lt (to - ahead w.held) w.gap) begun)
