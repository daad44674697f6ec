-- How many requests several reads made.
use Rattle.std.proofs.Common.{◌≡◌, ℕ, ◌+◌, ◌*◌, ◌/◌, ◌≤◌, List, [], ◌++◌, length, refl, sym, ap, ◌∙◌, arith, length-append}
use Rattle.std.specs.List.{range_with_len}
use Rattle.fgb_outside.specs.Source.{Source, added}
use Rattle.fgb_outside.specs.Asked.{positions, Reads}
use Rattle.fgb_outside.proofs.Asking.{AllByRecursion-append, AllByRecursion-weaken, positions-append}
use Rattle.fgb_outside.proofs.Shown.{added-added, added-none, keeps_same, keeps_trans}
use Rattle.section_window.specs.Window.{IsPiece}
use Rattle.section_window.proofs.Few.{reads_few}
use Rattle.gap_window.specs.Gaps.{ReadsWithin, piece_count}

pub within_nothing : {P : ℕ × ℕ → Type 0} (s : Source) → ReadsWithin P 0 s s []
within_nothing s = record {
  reads = record { keeps = keeps_same s; pairs = []; asks = refl; allowed = tt; told = sym (added-none s.asked) };
  few = omega arith;
}

-- one after the other
pub within_within : {P : ℕ × ℕ → Type 0} {a b c : Source} {xs ys : List ℕ} (m n : ℕ) → ReadsWithin P m a b xs → ReadsWithin P n b c ys → ReadsWithin P (m + n) a c (xs ++ ys)
within_within {P = P} {a = a} {xs = xs} m n p q =
    let len : length (p.reads.pairs ++ q.reads.pairs) ≡ length p.reads.pairs + length q.reads.pairs = length-append p.reads.pairs q.reads.pairs in
    record {
      reads = record {
        keeps = keeps_trans p.reads.keeps q.reads.keeps;
        pairs = p.reads.pairs ++ q.reads.pairs;
        asks = positions-append p.reads.pairs q.reads.pairs ∙ ap (λ l. l ++ positions q.reads.pairs) p.reads.asks ∙ ap (λ l. xs ++ l) q.reads.asks;
        allowed = AllByRecursion-append P p.reads.pairs q.reads.pairs p.reads.allowed q.reads.allowed;
        told = q.reads.told ∙ ap (λ t. added t q.reads.pairs) p.reads.told ∙ added-added a.asked p.reads.pairs q.reads.pairs;
      };
      few = omega (arith, len, p.few, q.few);
    }

pub within_along : {P : ℕ × ℕ → Type 0} {a b : Source} {m : ℕ} (xs ys : List ℕ) → xs ≡ ys → ReadsWithin P m a b xs → ReadsWithin P m a b ys
within_along xs ys e r = record {
  reads = record { keeps = r.reads.keeps; pairs = r.reads.pairs; asks = r.reads.asks ∙ e; allowed = r.reads.allowed; told = r.reads.told };
  few = r.few;
}

pub within_more : {P : ℕ × ℕ → Type 0} {a b : Source} {xs : List ℕ} (m n : ℕ) → m ≤ n → ReadsWithin P m a b xs → ReadsWithin P n a b xs
within_more m n le r = record { reads = r.reads; few = omega (arith, le, r.few) }

pub within_weaken : (P Q : ℕ × ℕ → Type 0) {a b : Source} {m : ℕ} {xs : List ℕ} → ((p : ℕ × ℕ) → P p → Q p) → ReadsWithin P m a b xs → ReadsWithin Q m a b xs
within_weaken P Q f r = record {
  reads = record { keeps = r.reads.keeps; pairs = r.reads.pairs; asks = r.reads.asks; allowed = AllByRecursion-weaken P Q f r.reads.pairs r.reads.allowed; told = r.reads.told };
  few = r.few;
}

few_pieces : (k n : ℕ) → 1048576 * k ≤ n + 1048575 → k ≤ (n + 1048575) / 1048576
few_pieces k n le = omega (arith, le)

-- requests of 1 MiB, or up to one end, of positions side by side
pub within_pieces : (low end : ℕ) {a b : Source} (from n : ℕ) → Reads (IsPiece low end) a b (range_with_len from n) → ReadsWithin (IsPiece low end) (piece_count n) a b (range_with_len from n)
unfolding piece_count
within_pieces low end from n r = record { reads = r; few = few_pieces (length r.pairs) n (reads_few low end from n r) }
