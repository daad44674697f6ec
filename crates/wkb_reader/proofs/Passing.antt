-- Cursors that go on, and refusals whose places count from further ahead.
use Rattle.std.proofs.Common.{◌≡◌, ℕ, ◌+◌, List, ◌++◌, ap, sym, subst, ◌∙◌, append_assoc, arith, length-append}
use Rattle.flat_layout.specs.declared.Rule.{Rule}
use Rattle.wkb_writer.specs.declared.error.WkbError.{WkbError}
use Rattle.wkb_writer.specs.declared.error.WkbError.TheVariants.{Memory, Refused}
use Rattle.wkb_reader.specs.declared.cursor.Cursor.{Cursor}
use Rattle.wkb_reader.specs.Cursors.{Passes}
use Rattle.wkb_reader.specs.Refusals.{Refuses}

pub passes_more : (a b c : Cursor) (xs ys : List ℕ) → Passes a b xs → Passes b c ys → Passes a c (xs ++ ys)
passes_more a b c xs ys first next = record {
  stood = first.stood ∙ ap (λ rest. xs ++ rest) next.stood ∙ sym (append_assoc xs ys c.rest.now);
  moved = omega (arith, first.moved, next.moved, length-append xs ys);
}

-- a refusal that counts from a place counts from one in front of it
pub carry : (e : WkbError) (start mid k : ℕ) (B C : ℕ → Rule → Type 0) → mid ≡ start + k → ((q : ℕ) (r : Rule) → B q r → C (k + q) r) → Refuses mid B e → Refuses start C e
carry Memory start mid k B C far turn told = tt
carry (Refused broken) start mid k B C far turn told = (k + told.0, omega (arith, far, told.1), turn told.0 broken.rule told.2)

-- the same at the same place
pub turned : (e : WkbError) (start : ℕ) (B C : ℕ → Rule → Type 0) → ((q : ℕ) (r : Rule) → B q r → C q r) → Refuses start B e → Refuses start C e
turned Memory start B C turn told = tt
turned (Refused broken) start B C turn told = (told.0, told.1, turn told.0 broken.rule told.2)

-- a refusal that names this place, and one ahead of it
pub names_here : (e : WkbError) (start : ℕ) (r : Rule) (B : ℕ → Rule → Type 0) → e ≡ Refused (record { place = start; rule = r }) → B 0 r → Refuses start B e
names_here e start r B same broken = subst (Refuses start B) (sym same) (0, omega arith, broken)

pub names_ahead : (e : WkbError) (start place q : ℕ) (r : Rule) (B : ℕ → Rule → Type 0) → e ≡ Refused (record { place = place; rule = r }) → place ≡ start + q → B q r → Refuses start B e
names_ahead e start place q r B same far broken = subst (Refuses start B) (sym same) (q, far, broken)
