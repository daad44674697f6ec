-- Laws of rising positions whose short holes are filled.
use Rattle.std.proofs.Common.{◌≡◌, ℕ, ◌+◌, ◌-◌, ◌<◌, ◌≤◌, Bool, true, false, List, [], ◌∷◌, ◌++◌, zero, suc, refl, sym, ap, ◌∙◌, ⊎_elim, append_assoc, arith}
use Rattle.std.specs.Prelude.{◌&&◌, nat_lt, if◌then◌else◌, Option, Some, None}
use Rattle.std.specs.List.{range_with_len}
use Rattle.std.proofs.lemmas.Bool.{le-ltb, cases_lt}
use Rattle.fgb_outside.specs.Asked.{Ascends}
use Rattle.fgb_outside.proofs.Asking.{ascends_range, ascends_append, range_split}
use Rattle.section_window.specs.Window.{ahead}
use Rattle.gap_window.specs.Gaps.{hole, bridged, bridged_behind, behind}
use Rattle.gap_window.specs.Bridging.{Bridging, is_near, asks_from, last_asked}
use Rattle.gap_window.proofs.Near.{near_within, near_behind, asks_near, asks_far}

-- several, and then several behind them
pub behind_append : (gap : ℕ) (last : Option ℕ) (xs ys : List ℕ) → bridged_behind gap last (xs ++ ys) ≡ bridged_behind gap last xs ++ bridged_behind gap (behind last xs) ys
behind_append gap last [] ys = refl
behind_append gap last (x ∷ xs) ys =
    ap (λ l. hole gap last x ++ x ∷ l) (behind_append gap (Some (x + 1)) xs ys) ∙ sym (append_assoc (hole gap last x) (x ∷ bridged_behind gap (Some (x + 1)) xs) (bridged_behind gap (behind (Some (x + 1)) xs) ys))

pub bridged_append : (gap : ℕ) (xs ys : List ℕ) → bridged gap (xs ++ ys) ≡ bridged gap xs ++ bridged_behind gap (behind None xs) ys
unfolding bridged
bridged_append gap xs ys = behind_append gap None xs ys

pub behind_behind : (last : Option ℕ) (xs ys : List ℕ) → behind last (xs ++ ys) ≡ behind (behind last xs) ys
behind_behind last [] ys = refl
behind_behind last (x ∷ xs) ys = behind_behind (Some (x + 1)) xs ys

either : (b : Bool) (n from : ℕ) → n ≡ 0 → (if b then range_with_len from n else []) ≡ []
either true n from e = ap (range_with_len from) e
either false n from e = refl

-- no hole lies between neighbours
pub no_hole : (gap at : ℕ) → hole gap (Some at) at ≡ []
no_hole gap at = either (nat_lt (at - at) gap) (at - at) at (omega arith)

pub behind_on : (gap at n : ℕ) → bridged_behind gap (Some at) (range_with_len at n) ≡ range_with_len at n
behind_on gap at zero = refl
behind_on gap at (suc n) = ap (λ l. l ++ at ∷ bridged_behind gap (Some (at + 1)) (range_with_len (at + 1) n)) (no_hole gap at) ∙ ap (λ l. at ∷ l) (behind_on gap (at + 1) n)

-- positions side by side behind others: the hole in front of the first, and they
pub behind_range : (gap : ℕ) (last : Option ℕ) (to n : ℕ) → 0 < n → bridged_behind gap last (range_with_len to n) ≡ hole gap last to ++ range_with_len to n
behind_range gap last to zero some = absurd (omega arith)
behind_range gap last to (suc n) some = ap (λ l. hole gap last to ++ to ∷ l) (behind_on gap (to + 1) n)

pub range_ends : (last : Option ℕ) (to n : ℕ) → 0 < n → behind last (range_with_len to n) ≡ Some (to + n)
range_ends last to zero some = absurd (omega arith)
range_ends last to (suc zero) some = refl
range_ends last to (suc (suc n)) some = let e : to + 1 + suc n ≡ to + suc (suc n) = omega arith in range_ends (Some (to + 1)) (to + 1) (suc n) (omega arith) ∙ ap Some e

-- a gap of no length fills nothing
none_filled : (b : Bool) (l : List ℕ) → b ≡ false → (if b then l else []) ≡ []
none_filled b l e = ap (λ c. if c then l else []) e

hole_zero : (last : Option ℕ) (x : ℕ) → hole 0 last x ≡ []
hole_zero None x = refl
hole_zero (Some from) x = none_filled (nat_lt (x - from) 0) (range_with_len from (x - from)) (le-ltb (x - from) 0 (omega arith))

pub behind_zero : (last : Option ℕ) (xs : List ℕ) → bridged_behind 0 last xs ≡ xs
behind_zero last [] = refl
behind_zero last (x ∷ xs) = ap (λ l. l ++ x ∷ bridged_behind 0 (Some (x + 1)) xs) (hole_zero last x) ∙ ap (λ l. x ∷ l) (behind_zero (Some (x + 1)) xs)

pub bridged_zero : (xs : List ℕ) → bridged 0 xs ≡ xs
unfolding bridged
bridged_zero xs = behind_zero None xs

-- rising positions rise with their holes filled
part_rises : (b : Bool) (from x n : ℕ) → from + n ≡ x → Ascends from x (if b then range_with_len from n else [])
part_rises true from x n e = rw (← e) (ascends_range from n)
part_rises false from x n e = omega (arith, e)

pub behind_rises : (gap from low high : ℕ) (xs : List ℕ) → from ≤ low → Ascends low high xs → Ascends from high (bridged_behind gap (Some from) xs)
behind_rises gap from low high [] le rises = omega (arith, le, rises)
behind_rises gap from low high (x ∷ xs) le rises =
    ascends_append from x high (hole gap (Some from) x) (x ∷ bridged_behind gap (Some (x + 1)) xs)
    (part_rises (nat_lt (x - from) gap) from x (x - from) (omega (arith, le, rises.0)))
    (omega arith, behind_rises gap (x + 1) (x + 1) high xs (omega arith) rises.1)

pub bridged_rises : (gap low high : ℕ) (xs : List ℕ) → Ascends low high xs → Ascends low high (bridged gap xs)
unfolding bridged
bridged_rises gap low high [] rises = rises
bridged_rises gap low high (x ∷ xs) rises = (rises.0, behind_rises gap (x + 1) (x + 1) high xs (omega arith) rises.1)

-- what a window asks for up to `till` to have the bytes from `to` on
same_start : (a b till : ℕ) → a ≡ b → range_with_len a (till - a) ≡ range_with_len b (till - b)
same_start a b till e = ap (λ k. range_with_len k (till - k)) e

asks_begun : (w : Bridging) (to till : ℕ) (b : Bool) → b ≡ nat_lt (to - ahead w.held) w.gap → is_near w to ≡ b → ahead w.held ≤ to → to ≤ till
    → range_with_len (asks_from w to) (till - asks_from w to) ≡ (if b then range_with_len (ahead w.held) (to - ahead w.held) else []) ++ range_with_len to (till - to)
asks_begun w to till true is near le within = same_start _ _ till (asks_near w to near) ∙ range_split (ahead w.held) to till le within
asks_begun w to till false is near le within = same_start _ _ till (asks_far w to near)

pub asks_bridged : (w : Bridging) (to till : ℕ) → ahead w.held ≤ to → to ≤ till
    → range_with_len (asks_from w to) (till - asks_from w to) ≡ hole w.gap (last_asked w) to ++ range_with_len to (till - to)
asks_bridged w to till le within = ⊎_elim
    (λ (lt : ahead w.held < to). behind_it w.begun refl lt)
    (λ (ge : to ≤ ahead w.held).
    let same : ahead w.held ≡ to = omega (arith, le, ge) in
    same_start _ _ till (asks_near w to (near_within w to ge) ∙ same) ∙ ap (λ l. l ++ range_with_len to (till - to)) (sym (nothing w.begun same)))
    (cases_lt (ahead w.held) to)
  where
    nothing : (b : Bool) → ahead w.held ≡ to → hole w.gap (if b then Some (ahead w.held) else None) to ≡ []
    nothing true same = ap (λ k. hole w.gap (Some k) to) same ∙ no_hole w.gap to
    nothing false same = refl

    behind_it : (b : Bool) → w.begun ≡ b → ahead w.held < to → range_with_len (asks_from w to) (till - asks_from w to) ≡ hole w.gap (if b then Some (ahead w.held) else None) to ++ range_with_len to (till - to)
    behind_it true is lt = asks_begun w to till (nat_lt (to - ahead w.held) w.gap) refl (near_behind w to lt ∙ ap (λ c. c && nat_lt (to - ahead w.held) w.gap) is) le within
    behind_it false is lt = same_start _ _ till (asks_far w to (near_behind w to lt ∙ ap (λ c. c && nat_lt (to - ahead w.held) w.gap) is))
