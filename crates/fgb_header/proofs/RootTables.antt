-- From what is read of the root table of a buffer under a meter to what the buffer breaks.
use Rattle.std.proofs.Common.{◌≡◌, inl, inr, ℕ, ◌+◌, ◌*◌, List, length, Result, Ok, Err, ap, sym, ◌∙◌, subst, arith}
use Rattle.flat_layout.specs.declared.Broken.{Broken}
use Rattle.flat_layout.specs.Layout.{target}
use Rattle.flat_layout.specs.Promises.{IsClean, Names, Judges, BreaksRoot}
use Rattle.flat_layout.proofs.Judging.{names-weaker}
use Rattle.flat_views.specs.declared.tables.Table.{Table}
use Rattle.flat_views.specs.Tables.{IsTableAt, base_of, bytes_of, place_of}
use Rattle.flat_views.proofs.Placed.{at_table}
use Rattle.fgb_schema.specs.Tables.{Name, table as table_thing}
use Rattle.fgb_schema.specs.Paths.{offset, thing, Breaks}
use Rattle.fgb_schema.specs.Weights.{BreaksBuffer, along, too_heavy, Goes, IsHeavier, IsOverspent, IsPaid}
use Rattle.fgb_schema.proofs.Roots.{rooted, from_root, from_offset, offset_clean}
use Rattle.fgb_schema.proofs.Weighing.{weigh_offset, least_offset, least_heavier, heavier, not_heavier}

module _ (name : Name) where
  -- a refusal of the root is one of the buffer
  pub refuse_root : (base' base : ℕ) (b' b : List ℕ) (e : Broken) → base' ≡ base → b' ≡ b → Names base' (BreaksRoot b') e → Names base (BreaksBuffer b (offset (table_thing name) 0)) e
  refuse_root base' base b' b e same_base same_bytes named =
      subst (λ k. Names k (BreaksBuffer b (offset (table_thing name) 0)) e) same_base
      (subst (λ s. Names base' (BreaksBuffer s (offset (table_thing name) 0)) e) same_bytes
      (names-weaker base' (BreaksRoot b') (BreaksBuffer b' (offset (table_thing name) 0)) e (λ q r broken. along (from_root b' name q r broken)) named))

  module _ (base : ℕ) (b : List ℕ) (clean : IsClean (BreaksRoot b)) where
    root_heavier : (limit : ℕ) → IsHeavier b (thing (table_thing name) (target b 0)) limit → IsHeavier b (offset (table_thing name) 0) limit
    root_heavier limit heavy =
        heavier b (offset (table_thing name) 0) (limit + 1) limit (least_offset b (table_thing name) 0 (limit + 1) (rooted b clean).offset (least_heavier b (thing (table_thing name) (target b 0)) limit heavy)) (omega arith)

    overspent : (before at : ℕ) (e : Broken) → at ≡ base → before ≡ 4 * length b → IsOverspent b (thing (table_thing name) (target b 0)) before at e → Names base (BreaksBuffer b (offset (table_thing name) 0)) e
    overspent before at e first whole over = (
      0,
      let same = over.at_place ∙ first in omega (arith, same),
      subst (BreaksBuffer b (offset (table_thing name) 0) 0) (sym over.by_weight)
          (too_heavy (root_heavier (4 * length b) (subst (IsHeavier b (thing (table_thing name) (target b 0))) whole over.heavier))),
    )

    buffer_clean : (before after : ℕ) → before ≡ 4 * length b → IsClean (Breaks b (thing (table_thing name) (target b 0))) → IsPaid b (thing (table_thing name) (target b 0)) before after → IsClean (BreaksBuffer b (offset (table_thing name) 0))
    buffer_clean before after whole below paid q r (along broken) = offset_clean b (table_thing name) 0 (rooted b clean).offset below q r broken
    buffer_clean before after whole below paid q r (too_heavy heavy) =
        not_heavier b (offset (table_thing name) 0) paid.amount (4 * length b) (weigh_offset b (table_thing name) 0 paid.amount (rooted b clean).offset paid.weighs) (omega (arith, whole, paid.taken)) heavy

    judge_buffer : {T : Type 0} (at before after : ℕ) (Shows : T → Type 0) (r : Result T Broken) → at ≡ base → before ≡ 4 * length b
        → Goes base b (thing (table_thing name) (target b 0)) at before after Shows r
        → Judges base (BreaksBuffer b (offset (table_thing name) 0)) Shows r
    judge_buffer at before after Shows (Ok x) first whole goes = (goes.0, buffer_clean before after whole goes.1 goes.2)
    judge_buffer at before after Shows (Err e) first whole (inl named, less) =
        names-weaker base (Breaks b (thing (table_thing name) (target b 0))) (BreaksBuffer b (offset (table_thing name) 0)) e
        (λ q r broken. along (from_offset b (table_thing name) 0 q r (rooted b clean).offset broken)) named
    judge_buffer at before after Shows (Err e) first whole (inr over, less) = overspent before at e first whole over

  -- what is read of the root table under a meter for the buffer
  pub judge_root : {T : Type 0} (base' base : ℕ) (b' b : List ℕ) (at before after : ℕ) (table : Table) (Shows : List ℕ → ℕ → T → Type 0) (r : Result T Broken)
      → base' ≡ base → b' ≡ b → IsTableAt b' base' (target b' 0) table → IsClean (BreaksRoot b') → at ≡ base → before ≡ 4 * length b
      → Goes (base_of table) (bytes_of table) (thing (table_thing name) (place_of table)) at before after (Shows (bytes_of table) (place_of table)) r
      → Judges base (BreaksBuffer b (offset (table_thing name) 0)) (Shows b (target b 0)) r
  judge_root base' base b' b at before after table Shows r same_base same_bytes here clean first whole goes =
      subst (λ k. Judges k (BreaksBuffer b (offset (table_thing name) 0)) (Shows b (target b 0)) r) same_base
      (subst (λ s. Judges base' (BreaksBuffer s (offset (table_thing name) 0)) (Shows s (target s 0)) r) same_bytes
      (judge_buffer base' b' clean at before after (Shows b' (target b' 0)) r (first ∙ sym same_base) (whole ∙ ap (λ s. 4 * length s) (sym same_bytes))
      (at_table base' b' (target b' 0) table here (λ k s p. Goes k s (thing (table_thing name) p) at before after (Shows s p) r) goes)))
