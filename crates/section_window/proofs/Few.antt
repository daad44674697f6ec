-- How many requests read a section by pieces.
use Rattle.std.proofs.Common.{◌≡◌, ℕ, ◌+◌, ◌-◌, ◌*◌, ◌<◌, ◌≤◌, List, [], ◌∷◌, ◌++◌, length, zero, suc, sym, ap, ◌∙◌, arith}
use Rattle.std.specs.List.{AllByRecursion, range_with_len}
use Rattle.fgb_outside.specs.Source.{Source}
use Rattle.fgb_outside.specs.Asked.{positions, Reads}
use Rattle.section_window.specs.Window.{IsPiece}

head_is : (x y : ℕ) (xs ys : List ℕ) → x ∷ xs ≡ y ∷ ys → x ≡ y
head_is x y xs ys e = cc

tail_is : (x y : ℕ) (xs ys : List ℕ) → x ∷ xs ≡ y ∷ ys → xs ≡ ys
tail_is x y xs ys e = cc

nothing_there : (x : ℕ) (xs : List ℕ) → x ∷ xs ≡ [] → ⊥
nothing_there x xs e = cc

-- a range that begins with a range: what comes behind it is the rest of the range
range_begins : (a m : ℕ) (rest : List ℕ) (n : ℕ) → range_with_len a m ++ rest ≡ range_with_len a n → (m ≤ n) × (rest ≡ range_with_len (a + m) (n - m))
range_begins a zero rest n e =
    let f : a ≡ a + 0 = omega arith in
    let h : n ≡ n - 0 = omega arith in
    (omega arith, e ∙ ap (range_with_len a) h ∙ ap (λ k. range_with_len k (n - 0)) f)
range_begins a (suc m) rest zero e = absurd (nothing_there a (range_with_len (a + 1) m ++ rest) e)
range_begins a (suc m) rest (suc n) e =
    let r = range_begins (a + 1) m rest n (tail_is a a (range_with_len (a + 1) m ++ rest) (range_with_len (a + 1) n) e) in
    let f : (a + 1) + m ≡ a + suc m = omega arith in
    let h : n - m ≡ suc n - suc m = omega arith in
    (omega (arith, r.0), r.1 ∙ ap (range_with_len (a + 1 + m)) h ∙ ap (λ k. range_with_len k (suc n - suc m)) f)

-- it begins where the range begins
range_start : (a m : ℕ) (rest : List ℕ) (b n : ℕ) → 0 < m → range_with_len a m ++ rest ≡ range_with_len b n → a ≡ b
range_start a zero rest b n some e = absurd (omega arith)
range_start a (suc m) rest b zero some e = absurd (nothing_there a (range_with_len (a + 1) m ++ rest) e)
range_start a (suc m) rest b (suc n) some e = head_is a b (range_with_len (a + 1) m ++ rest) (range_with_len (b + 1) n) e

-- one piece and what is left behind it
after_piece : (low end : ℕ) (p : ℕ × ℕ) (rest : List ℕ) (from n : ℕ) → IsPiece low end p → range_with_len p.0 p.1 ++ rest ≡ range_with_len from n → (p.0 ≡ from) × (p.1 ≤ n) × (rest ≡ range_with_len (from + p.1) (n - p.1))
after_piece low end p rest from n piece e =
    let some : 0 < p.1 = omega (arith, piece.1, piece.2) in
    let start : p.0 ≡ from = range_start p.0 p.1 rest from n some e in
    let r = range_begins from p.1 rest n (ap (λ k. range_with_len k p.1 ++ rest) (sym start) ∙ e) in
    (start, r.0, r.1)

-- all the pieces but the last have 1 MiB
pub pieces_few : (low end : ℕ) (pairs : List (ℕ × ℕ)) (from n : ℕ) → AllByRecursion (IsPiece low end) pairs → positions pairs ≡ range_with_len from n → 1048576 * length pairs ≤ n + 1048575
pieces_few low end [] from n all e = omega arith
pieces_few low end (p ∷ []) from n all e =
    let a = after_piece low end p [] from n all.0 e in
    omega (arith, a.1, all.0.1, all.0.2)
pieces_few low end (p ∷ q ∷ pairs) from n all e =
    let a = after_piece low end p (positions (q ∷ pairs)) from n all.0 e in
    let b = after_piece low end q (positions pairs) (from + p.1) (n - p.1) all.1.0 a.2 in
    let full : p.1 ≡ 1048576 = omega (arith, a.0, b.0, all.0.2, all.1.0.1) in
    let more : 1048576 * length (q ∷ pairs) ≤ (n - p.1) + 1048575 = pieces_few low end (q ∷ pairs) (from + p.1) (n - p.1) all.1 a.2 in
    omega (arith, a.1)

-- so many requests at most
pub reads_few : (low end : ℕ) {old new : Source} (from n : ℕ) (r : Reads (IsPiece low end) old new (range_with_len from n)) → 1048576 * length r.pairs ≤ n + 1048575
reads_few low end from n r = pieces_few low end r.pairs from n r.allowed r.asks
