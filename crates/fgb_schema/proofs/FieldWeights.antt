-- What a field weighs that leads to a string or to a vector of numbers, where nothing is broken in it.
use Rattle.std.proofs.Common.{◌≡◌, inl, inr, ℕ, ◌+◌, ◌*◌, true, false, List, length, sym, subst, arith}
use Rattle.std.proofs.lemmas.Bool.{cases_Bool}
use Rattle.std.proofs.lemmas.Str.{is_utf8-from_IsUtf8}
use Rattle.flat_layout.specs.Layout.{is_absent, count, led_to, text, text_in}
use Rattle.flat_layout.specs.Promises.{IsClean, BreaksVector, BreaksText, BreaksTo}
use Rattle.flat_layout.proofs.Judging.{text-clean_vector, text-clean_ended, text-clean_utf8, vector-clean}
use Rattle.flat_layout.proofs.Numbers.{length-text, text_in-absent, text_in-present}
use Rattle.fgb_schema.specs.Tables.{string, numbers, link}
use Rattle.fgb_schema.specs.Paths.{thing, field}
use Rattle.fgb_schema.specs.Weights.{Weighs, is_string, text_weight}
use Rattle.fgb_schema.proofs.Links.{IsLink, linked, linked_own}
use Rattle.fgb_schema.proofs.Weighing.{weigh_absent, weigh_link, weigh_string, weigh_numbers}

module _ (b : List ℕ) where
  sound_string : (p : ℕ) → IsClean (BreaksText b p) → is_string b p ≡ true
  sound_string p clean = rw (text-clean_vector b p clean, text-clean_ended b p clean) (is_utf8-from_IsUtf8 (text b p) (text-clean_utf8 b p clean))

  pub weigh_text : (t id : ℕ) → IsClean (BreaksTo BreaksText b t id) → Weighs b (field (link string) t id) (text_weight (text_in b t id))
  weigh_text t id clean = elim (cases_Bool (is_absent b t id)) [
    | inl absent ↦ subst (λ o. Weighs b (field (link string) t id) (text_weight o)) (sym (text_in-absent b t id absent)) (weigh_absent b string t id absent)
    | inr present ↦ led present (linked b string BreaksText t id clean present)
  ]
    where
      led : is_absent b t id ≡ false → IsLink b t id → Weighs b (field (link string) t id) (text_weight (text_in b t id))
      led present l =
          let own = linked_own b string BreaksText t id clean l in
          let size : count b (led_to b t id) + 0 ≡ length (text b (led_to b t id)) = omega (arith, length-text b (led_to b t id) (text-clean_vector b (led_to b t id) own)) in
          subst (λ o. Weighs b (field (link string) t id) (text_weight o)) (sym (text_in-present b t id present))
          (weigh_link b string t id (length (text b (led_to b t id))) l (subst (Weighs b (thing string (led_to b t id))) size (weigh_string b (led_to b t id) (sound_string (led_to b t id) own))))

  pub weigh_vector : (width t id : ℕ) → IsClean (BreaksTo (BreaksVector width) b t id) → is_absent b t id ≡ false
      → Weighs b (field (link (numbers width)) t id) (width * count b (led_to b t id))
  weigh_vector width t id clean present =
      let l = linked b (numbers width) (BreaksVector width) t id clean present in
      let own = linked_own b (numbers width) (BreaksVector width) t id clean l in
      weigh_link b (numbers width) t id (width * count b (led_to b t id)) l
      (subst (Weighs b (thing (numbers width) (led_to b t id))) (omega arith) (weigh_numbers b width (led_to b t id) (vector-clean width b (led_to b t id) own)))
