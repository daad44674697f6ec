-- How what is broken below a part is broken from it, and how a part is clean by its parts.
use Rattle.std.proofs.Common.{◌⊎◌, inl, inr, ⊎_elim, ℕ, List, [], ◌∷◌, sym, subst}
use Rattle.std.specs.List.{AllByRecursion}
use Rattle.flat_layout.specs.declared.Rule.{Rule}
use Rattle.flat_layout.specs.Promises.{IsClean}
use Rattle.fgb_schema.specs.Paths.{Part, below, IsAmong, Leads, here, step, BreaksLayout, BreaksMore, Breaks}

module _ (b : List ℕ) where
  pub breaks_layout : (x : Part) (q : ℕ) (r : Rule) → BreaksLayout b x q r → Breaks b x q r
  breaks_layout x q r broken = record { part = x; path = here; broken = inl broken }

  pub breaks_more : (x : Part) (q : ℕ) (r : Rule) → BreaksMore b x q r → Breaks b x q r
  breaks_more x q r broken = record { part = x; path = here; broken = inr broken }

  pub breaks_below : (x y : Part) (q : ℕ) (r : Rule) → IsAmong y (below b x) → Breaks b y q r → Breaks b x q r
  breaks_below x y q r among broken = record { part = broken.part; path = step among broken.path; broken = broken.broken }

  among_clean : (y : Part) (xs : List Part) → IsAmong y xs → AllByRecursion (λ x. IsClean (Breaks b x)) xs → IsClean (Breaks b y)
  among_clean y [] among all = absurd among
  among_clean y (x ∷ xs) (inl same) all = subst (λ (z : Part). IsClean (Breaks b z)) (sym same) all.0
  among_clean y (x ∷ xs) (inr later) all = among_clean y xs later all.1

  -- what is broken along a path is broken by its first part, or from a part right below it
  pub split : (x part : Part) (q : ℕ) (r : Rule) → Leads b x part → BreaksLayout b part q r ⊎ BreaksMore b part q r
      → (BreaksLayout b x q r ⊎ BreaksMore b x q r) ⊎ ((y : Part) × IsAmong y (below b x) × Breaks b y q r)
  split x part q r here broken = inl broken
  split x part q r (step {y = y} among path) broken = inr (y, among, record { part = part; path = path; broken = broken })

  -- a part is clean where it is by itself, and each part right below it is
  pub clean_by_parts : (x : Part) → IsClean (BreaksLayout b x) → IsClean (BreaksMore b x) → AllByRecursion (λ y. IsClean (Breaks b y)) (below b x) → IsClean (Breaks b x)
  clean_by_parts x layout more all q r broken = ⊎_elim
      (λ own. ⊎_elim (layout q r) (more q r) own)
      (λ there. among_clean there.0 (below b x) there.1 all q r there.2)
      (split x broken.part q r broken.path broken.broken)
