-- Several reporters that are handed a feature in turn.
use Rattle.std.proofs.Common.{◌≡◌, Bool, true, false, cond, List, [], ◌∷◌, map, refl, ap, sym, subst, ◌∙◌}
use Rattle.std.specs.List.Retain.{RetainsInTurn}
use Rattle.found_features.specs.Entries.{Entry}
use Rattle.fgb_reports.specs.States.{State, fed, Hands}

module _ {X : Type 0} (shown : X → State) (e : Entry) where
  pub hands_as : {x x' y y' : X} {told : Entry} {stays : Bool} → x ≡ x' → y ≡ y' → told ≡ e → Hands shown told x stays y → Hands shown e x' stays y'
  hands_as {stays = stays} before after same hands = subst (λ t. t) (λ i. Hands shown (same i) (before i) stays (after i)) hands

  one_more : (x y : X) (stays : Bool) (left : List X) (others : List State) → Hands shown e x stays y → map shown left ≡ fed others e → map shown (cond stays (y ∷ left) left) ≡ fed (shown x ∷ others) e
  one_more x y true left others hands rest = rw (sym hands.told) (λ i. hands.stepped refl i ∷ rest i)
  one_more x y false left others hands rest = rw (sym hands.told) rest

  module _ {S : Type 0} (R : S → X → Bool → S → X → Type 0) (Holds : S → Type 0) (each : (s t : S) (x y : X) (stays : Bool) → Holds s → R s x stays t y → Hands shown e x stays y × Holds t) where
    pub fed_in_turn : (s : S) (xs ys : List X) → Holds s → RetainsInTurn R s xs ys → map shown ys ≡ fed (map shown xs) e
    fed_in_turn s [] ys holds h = ap (map shown) h
    fed_in_turn s (x ∷ xs) ys holds h =
        let said = each s h.1 x h.2 h.0 holds h.3 in
        ap (map shown) h.6 ∙ one_more x h.2 h.0 h.4 (map shown xs) said.0 (fed_in_turn h.1 xs h.4 said.1 h.5)
