-- How what several calls asked for follows from what each asked for.
use Rattle.std.proofs.Common.{ℕ, List, [], ◌++◌, sym, ap, subst, ◌∙◌}
use Rattle.std.specs.Prelude.{IsSome}
use Rattle.fgb_outside.specs.Source.{Source, added}
use Rattle.fgb_outside.specs.Asked.{Reads, ReadsFront}
use Rattle.fgb_outside.proofs.Shown.{added-added, added-none, added-told, keeps_same, keeps_trans}
use Rattle.fgb_outside.proofs.Asking.{AllByRecursion-append, AllByRecursion-weaken}
use Rattle.read_stop.specs.Asks.{AsksOnly}

pub asks_nothing : (P : ℕ × ℕ → Type 0) (s : Source) → AsksOnly P s s
asks_nothing P s = record { keeps = keeps_same s; pairs = []; allowed = tt; told = λ _. sym (added-none s.asked) }

pub asks_then : {P : ℕ × ℕ → Type 0} {a b c : Source} → AsksOnly P a b → AsksOnly P b c → AsksOnly P a c
asks_then {P = P} {a = a} {b = b} {c = c} p q = record {
  keeps = keeps_trans p.keeps q.keeps;
  pairs = p.pairs ++ q.pairs;
  allowed = AllByRecursion-append P p.pairs q.pairs p.allowed q.allowed;
  told = λ some.
      let before = added-told b.asked q.pairs (subst IsSome (q.told some) some) in
      q.told some ∙ ap (λ o. added o q.pairs) (p.told before) ∙ added-added a.asked p.pairs q.pairs;
}

pub asks_weaken : (P Q : ℕ × ℕ → Type 0) {a b : Source} → ((pair : ℕ × ℕ) → P pair → Q pair) → AsksOnly P a b → AsksOnly Q a b
asks_weaken P Q weaker asks = record { keeps = asks.keeps; pairs = asks.pairs; allowed = AllByRecursion-weaken P Q weaker asks.pairs asks.allowed; told = asks.told }

-- those that asked for just some positions, or for a front of them
pub reads_only : {P : ℕ × ℕ → Type 0} {a b : Source} {xs : List ℕ} → Reads P a b xs → AsksOnly P a b
reads_only reads = record { keeps = reads.keeps; pairs = reads.pairs; allowed = reads.allowed; told = λ _. reads.told }

pub front_only : {P : ℕ × ℕ → Type 0} {a b : Source} {xs : List ℕ} → ReadsFront P a b xs → AsksOnly P a b
front_only front = record { keeps = front.keeps; pairs = front.pairs; allowed = front.allowed; told = front.told }
