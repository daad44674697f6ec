-- The numbers of the vector that a field leads to.
use Rattle.std.proofs.Common.{◌≡◌, ℕ, List, [], Option, Some, None, if◌then◌else◌, refl, ap, ◌∙◌}
use Rattle.flat_layout.specs.Layout.{is_absent, led_to, longs, words}
use Rattle.flat_views.specs.declared.vectors.VecView.{VecView}
use Rattle.flat_views.specs.Vectors.{ShowsVector, longs_shown, words_shown, vector_place}

module _ (width : ℕ) (b : List ℕ) (base t f : ℕ) where
  pub longs_led : (o : Option VecView) → ShowsVector width b base t f o → longs_shown o ≡ (if is_absent b t f then [] else longs b (led_to b t f))
  longs_led None absent = rw absent refl
  longs_led (Some v) (present, at) = rw present (ap (λ s. longs s (vector_place v)) at.same_bytes ∙ ap (longs b) at.same_place)

  pub words_led : (o : Option VecView) → ShowsVector width b base t f o → words_shown o ≡ (if is_absent b t f then [] else words b (led_to b t f))
  words_led None absent = rw absent refl
  words_led (Some v) (present, at) = rw present (ap (λ s. words s (vector_place v)) at.same_bytes ∙ ap (words b) at.same_place)
