use Rattle.std.proofs.Common.{◌≡◌, ℕ, ◌+◌, ◌-◌, ◌≤◌, ◌<◌, min, List, length, drop, sym, ap, ◌∙◌, ⊎_elim, arith}
use Rattle.std.specs.Prelude.{slice_range}
use Rattle.std.proofs.lemmas.Bool.{cases_lt}
use Rattle.std.proofs.lemmas.List.{drop_all}
use Rattle.section_window.specs.Window.{Held, passed}
use Rattle.section_window.proofs.Parts.{slice_pass, slice_nothing, length_slice}
use Rattle.section_window.proofs.window.Window.pass.Goals as goal

abbrev held : ℕ → List ℕ → ℕ → Held
held at bytes end = record { at = at; bytes = bytes; end = end }

-- going on behind what is held leaves nothing
slice_skip : (l : List ℕ) (from till n m : ℕ) → m ≡ min n (till - from) → from ≤ till → till ≤ length l → slice_range l (from + m) till ≡ drop n (slice_range l from till)
slice_skip l from till n m is order within = ⊎_elim
    (λ (less : n < till - from).
    let e : from + m ≡ from + n = omega (arith, is, less) in
    ap (λ (k : ℕ). slice_range l k till) e ∙ slice_pass l from till n (omega (arith, less)))
    (λ (more : till - from ≤ n).
    let e : from + m ≡ till = omega (arith, is, more) in
    let len : length (slice_range l from till) ≡ till - from = length_slice l from till within in
    ap (λ (k : ℕ). slice_range l k till) e ∙ slice_nothing l till ∙ sym (drop_all n (slice_range l from till) (omega (arith, len, more))))
    (cases_lt n (till - from))

pub returns : goal.returns
returns c =
    let s = c.self.inside in
    rw (← c.self.view_is) (ap (λ (b : List ℕ). held (s.at + c.args.n) b s.end) (slice_skip s.buffer.items s.from s.till c.args.n _ (omega arith) c.self.invariant.0 c.self.invariant.1))
