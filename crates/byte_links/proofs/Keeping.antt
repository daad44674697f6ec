-- What several calls on a link keep follows from what each keeps.
use Rattle.std.proofs.Common.{◌≡◌, ℕ, refl, sym, ◌∙◌, arith, List, Some}
use Rattle.fgb_outside.specs.Source.{Rose}
use Rattle.byte_links.specs.Link.{LinkState, KeepsLink, IsSoundLink}

pub keeps_same : (link : LinkState) → KeepsLink link link
keeps_same link = record { received = refl; sent = refl; image = refl; faults = omega arith; ends = omega arith; faultless = λ _ _. refl }

pub keeps_trans : {a b c : LinkState} → KeepsLink a b → KeepsLink b c → KeepsLink a c
keeps_trans p q = record {
  received = q.received ∙ p.received;
  sent = q.sent ∙ p.sent;
  image = q.image ∙ p.image;
  faults = omega arith;
  ends = omega arith;
  faultless = λ image is. q.faultless image (p.image ∙ is) ∙ p.faultless image is;
}

pub sound_later : {a b : LinkState} → KeepsLink a b → IsSoundLink a → IsSoundLink b
sound_later keeps sound image is =
    let earlier = sym keeps.image ∙ is in
    let same = keeps.faultless image earlier in
    let few = sound image earlier in
    (few.0, omega arith)

-- on a link that serves an image no fault is counted, so no call fails
pub never_fails : {a b : LinkState} (image : List ℕ) → a.image ≡ Some image → IsSoundLink a → KeepsLink a b → Rose a.faults b.faults → ⊥
never_fails image is sound keeps rose = let few = (sound image is).1 in let same = keeps.faultless image is in omega arith
