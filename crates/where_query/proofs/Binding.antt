-- A condition is bound under a header in one way at most, or breaks one rule there, at one place.
use Rattle.std.proofs.Common.{◌≡◌, ℕ, ◌+◌, List, Some, None, refl, sym, ap, subst, ◌∙◌}
use Rattle.flat_layout.specs.declared.Rule.{Rule}
use Rattle.flat_layout.specs.declared.Broken.{Broken}
use Rattle.flat_layout.specs.Promises.{IsClean, Names}
use Rattle.fgb_schema.specs.Headers.{Header, header_of}
use Rattle.order_keys.proofs.Bound.{only_bound}
use Rattle.fgb_where.specs.declared.words.Op.{Op}
use Rattle.fgb_where.specs.declared.words.Condition.{Condition}
use Rattle.fgb_where.specs.Values.{Sought, whole_value, double_value, text_value, IsValue}
use Rattle.fgb_where.specs.Binding.{Bounded, HasColumn, BreaksAs, no_class, no_value, Breaks, no_column, on_column, BreaksCondition, BindsAs, Binds}

-- a text is one value at most of the class of a type
module _ (c : Condition) (kind : ℕ) (a b : Bounded) (p : BindsAs c kind a) (q : BindsAs c kind b) where
  one_class : p.class ≡ q.class
  one_class = cc (p.classed, q.classed)

  one_value : (x y : Sought) → IsValue p.class c.value.now x → IsValue q.class c.value.now y → x ≡ y
  one_value (whole_value x) (whole_value y) m n = ap whole_value (cc (m.1, n.1))
  one_value (double_value x) (double_value y) m n = ap double_value (only_bound c.value.now x y m.1 n.1)
  one_value (text_value x) (text_value y) m n = ap text_value (m.1 ∙ sym n.1)
  one_value (whole_value x) (double_value y) m n = absurd (let e = sym m.0 ∙ one_class ∙ n.0 in cc)
  one_value (whole_value x) (text_value y) m n = absurd (let e = sym m.0 ∙ one_class ∙ n.0 in cc)
  one_value (double_value x) (whole_value y) m n = absurd (let e = sym m.0 ∙ one_class ∙ n.0 in cc)
  one_value (double_value x) (text_value y) m n = absurd (let e = sym m.0 ∙ one_class ∙ n.0 in cc)
  one_value (text_value x) (whole_value y) m n = absurd (let e = sym m.0 ∙ one_class ∙ n.0 in cc)
  one_value (text_value x) (double_value y) m n = absurd (let e = sym m.0 ∙ one_class ∙ n.0 in cc)

  one_sought : a.sought ≡ b.sought
  one_sought = one_value a.sought b.sought p.value q.value

abbrev make_bounded : List ℕ → Op → Sought → Bounded
make_bounded name op sought = record { name = name; op = op; sought = sought }

abbrev make_broken : ℕ → Rule → Broken
make_broken place rule = record { place = place; rule = rule }

module _ (h : Header) (c : Condition) where
  -- the first column of a name has one type
  one_kind : (i j k l : ℕ) → HasColumn h c i k → HasColumn h c j l → k ≡ l
  one_kind i j k l p q = let same : i ≡ j = cc (p.number, q.number) in cc (same, p.kinded, q.kinded)

  pub bound_once : (a b : Bounded) → Binds h c a → Binds h c b → a ≡ b
  bound_once a b p q =
      let kinds = one_kind p.number q.number p.kind q.kind p.column q.column in
      let x = subst (λ k. BindsAs c k a) kinds p.bound in let y = q.bound in
      let values = one_sought c q.kind a b x y in
      ap (λ n. make_bounded n a.op a.sought) (x.name ∙ sym y.name) ∙ ap (λ o. make_bounded b.name o a.sought) (x.op ∙ sym y.op) ∙ ap (λ s. make_bounded b.name b.op s) values

  -- the rule that it breaks on a column of a type
  one_fault : (kind : ℕ) (r t : Rule) → BreaksAs c kind r → BreaksAs c kind t → r ≡ t
  one_fault kind r t (no_class n) (no_class m) = refl
  one_fault kind r t (no_value class classed n) (no_value other also m) = refl
  one_fault kind r t (no_class n) (no_value class classed m) = absurd (let e : Some class ≡ None = sym classed ∙ n in cc)
  one_fault kind r t (no_value class classed n) (no_class m) = absurd (let e : Some class ≡ None = sym classed ∙ m in cc)

  broken_once : (r t : Rule) → Breaks h c r → Breaks h c t → r ≡ t
  broken_once r t (no_column n) (no_column m) = refl
  broken_once r t (no_column n) (on_column j kind column fault) = absurd (let e : Some j ≡ None = sym column.number ∙ n in cc)
  broken_once r t (on_column j kind column fault) (no_column n) = absurd (let e : Some j ≡ None = sym column.number ∙ n in cc)
  broken_once r t (on_column i k first fault) (on_column j l second other) =
      let kinds = one_kind i j k l first second in
      one_fault l r t (subst (λ x. BreaksAs c x r) kinds fault) other

  -- a value of the type's class breaks no rule
  fault_none : (kind : ℕ) (bounded : Bounded) → BindsAs c kind bounded → (r : Rule) → BreaksAs c kind r → ⊥
  fault_none kind bounded binds r (no_class none) = let e : Some binds.class ≡ None = sym binds.classed ∙ none in cc
  fault_none kind bounded binds r (no_value class classed none) =
      let same : binds.class ≡ class = cc (binds.classed, classed) in
      none bounded.sought (subst (λ k. IsValue k c.value.now bounded.sought) same binds.value)

  bound_unbroken : (bounded : Bounded) → Binds h c bounded → (r : Rule) → Breaks h c r → ⊥
  bound_unbroken bounded binds r (no_column none) = let e : Some binds.number ≡ None = sym binds.column.number ∙ none in cc
  bound_unbroken bounded binds r (on_column j kind column fault) =
      let kinds = one_kind j binds.number kind binds.kind column binds.column in
      fault_none binds.kind bounded binds.bound r (subst (λ x. BreaksAs c x r) kinds fault)

module _ (b : List ℕ) (c : Condition) where
  -- what is bound breaks no rule
  pub bound_clean : (bounded : Bounded) → Binds (header_of b) c bounded → IsClean (BreaksCondition b c)
  bound_clean bounded binds = λ q r broken. bound_unbroken (header_of b) c bounded binds r broken.rule

  -- what is refused is the one rule that it breaks, at its one place
  pub refused_once : (broken : Broken) (q : ℕ) (r : Rule) → Names 12 (BreaksCondition b c) broken → BreaksCondition b c q r → broken ≡ record { place = 12 + q; rule = r }
  refused_once broken q r named is =
      let there = named.2 in
      ap (λ p. make_broken p broken.rule) (named.1 ∙ ap (λ n. 12 + n) (there.place ∙ sym is.place))
      ∙ ap (λ t. make_broken (12 + q) t) (broken_once (header_of b) c broken.rule r there.rule is.rule)
