-- What the points of some shapes and of others have in common.
use Rattle.std.proofs.Common.{◌≡◌, ◌≢◌, inl, inr, ◌+◌, Bool, true, false, List, ◌++◌, length, refl, ap, sym, subst, ◌∙◌, arith}
use Rattle.std.specs.List.{All, Any}
use Rattle.std.proofs.Math.Bool.{beq}
use Rattle.std.proofs.lemmas.List.{get_or_append_left, get_or-append-add, length-append}
use Rattle.std.proofs.lemmas.List.Elements.{All-append, All-weaker}
use Rattle.fgb_schema.specs.Shapes.{Shape}
use Rattle.wkb_writer.specs.declared.dimension.Common.{Common}
use Rattle.wkb_writer.specs.declared.dimension.Common.TheVariants.{Pointless, Of, Refused}
use Rattle.wkb_writer.specs.Commons.{HasPoints, IsCommon, IsPointless}
use Rattle.wkb_writer.specs.Dimensions.{Differ, Dimension, Fits, IsTimed, dimension_of}

-- some element of a list, and what holds of each of them
pub all_any : {A : Type 0} (P Q : A → Type 0) (xs : List A) → All P xs → (some : Any Q xs) → P some.1
all_any P Q xs all (k, x, early, at, q) = subst P at (all k x early)

any_weaker : {A : Type 0} (P Q : A → Type 0) (xs : List A) → ((x : A) → P x → Q x) → Any P xs → Any Q xs
any_weaker P Q xs weaker (k, x, early, at, p) = (k, x, early, at, weaker x p)

pub any_left : {A : Type 0} (P : A → Type 0) (xs ys : List A) → Any P xs → Any P (xs ++ ys)
any_left P xs ys (k, x, early, at, p) = (k, x, omega (arith, early, length-append xs ys), get_or_append_left xs ys x k early ∙ at, p)

pub any_right : {A : Type 0} (P : A → Type 0) (xs ys : List A) → Any P ys → Any P (xs ++ ys)
any_right P xs ys (k, x, early, at, p) = (length xs + k, x, omega (arith, early, length-append xs ys), get_or-append-add xs ys k x ∙ at, p)

-- times, or points of two dimensions, stay such among more shapes
pub refused_left : (xs ys : List Shape) → IsCommon xs Refused → IsCommon (xs ++ ys) Refused
refused_left xs ys none = elim none [
  | inl timed ↦ inl (any_left IsTimed xs ys timed)
  | inr two ↦ inr (any_left (λ s. Any (Differ s) (xs ++ ys)) xs ys (any_weaker (λ s. Any (Differ s) xs) (λ s. Any (Differ s) (xs ++ ys)) xs (λ s other. any_left (Differ s) xs ys other) two))
]

pub refused_right : (xs ys : List Shape) → IsCommon ys Refused → IsCommon (xs ++ ys) Refused
refused_right xs ys none = elim none [
  | inl timed ↦ inl (any_right IsTimed xs ys timed)
  | inr two ↦ inr (any_right (λ s. Any (Differ s) (xs ++ ys)) xs ys (any_weaker (λ s. Any (Differ s) ys) (λ s. Any (Differ s) (xs ++ ys)) ys (λ s other. any_right (Differ s) xs ys other) two))
]

-- no points are of any dimension
pointless_fits : (d : Dimension) (s : Shape) → IsPointless s → Fits d s
pointless_fits d s is = record { no_t = is.no_t; no_tm = is.no_tm; same = λ some. absurd (some is.points) }

-- of some shapes with points, one has points of their dimension
pub dimension_at : (d : Dimension) (xs : List Shape) → All (Fits d) xs → (some : Any HasPoints xs) → dimension_of some.1 ≡ d
dimension_at d xs fits (k, s, early, at, some) = (all_any (Fits d) HasPoints xs fits (k, s, early, at, some)).same some

-- two dimensions
pub join_apart : (d e : Dimension) (xs ys : List Shape) → IsCommon xs (Of d) → IsCommon ys (Of e) → d ≢ e → IsCommon (xs ++ ys) Refused
join_apart d e xs ys (these, (k, s, early, at, some)) (others, (j, u, soon, is, points)) other =
    let one = dimension_at d xs these (k, s, early, at, some) in
    let two = dimension_at e ys others (j, u, soon, is, points) in
    let differ : Differ s u = record { points = some; others = points; apart = λ same. other (sym one ∙ same ∙ two) } in
    inr (any_left (λ s. Any (Differ s) (xs ++ ys)) xs ys (k, s, early, at, any_right (Differ s) xs ys (j, u, soon, is, differ)))

module _ (xs ys : List Shape) where
  pub join_none : IsCommon xs Pointless → (c : Common) → IsCommon ys c → IsCommon (xs ++ ys) c
  join_none these Pointless others = All-append IsPointless xs ys these others
  join_none these (Of d) others = (All-append (Fits d) xs ys (All-weaker IsPointless (Fits d) (pointless_fits d) xs these) others.0, any_right HasPoints xs ys others.1)
  join_none these Refused others = refused_right xs ys others

  pub join_to_none : IsCommon ys Pointless → (c : Common) → IsCommon xs c → IsCommon (xs ++ ys) c
  join_to_none others Pointless these = All-append IsPointless xs ys these others
  join_to_none others (Of d) these = (All-append (Fits d) xs ys these.0 (All-weaker IsPointless (Fits d) (pointless_fits d) ys others), any_left HasPoints xs ys these.1)
  join_to_none others Refused these = refused_left xs ys these

  pub join_same : (d e : Dimension) → d ≡ e → IsCommon xs (Of d) → IsCommon ys (Of e) → IsCommon (xs ++ ys) (Of d)
  join_same d e same these others = (All-append (Fits d) xs ys these.0 (subst (λ d. All (Fits d) ys) (sym same) others.0), any_left HasPoints xs ys these.1)

-- dimensions by their fields
beq_same : (a b : Bool) → beq a b ≡ true → a ≡ b
beq_same true true same = refl
beq_same true false same = absurd (cc same)
beq_same false true same = absurd (cc same)
beq_same false false same = refl

beq_other : (a b : Bool) → beq a b ≡ false → a ≢ b
beq_other true true other = absurd (cc other)
beq_other true false other = λ same. cc same
beq_other false true other = λ same. cc same
beq_other false false other = absurd (cc other)

dimension : Bool → Bool → Dimension
dimension z m = record { z = z; m = m }

pub same_dimension : (d e : Dimension) → beq d.z e.z ≡ true → beq d.m e.m ≡ true → d ≡ e
unfolding dimension
same_dimension d e z m = ap (λ z. dimension z d.m) (beq_same d.z e.z z) ∙ ap (dimension e.z) (beq_same d.m e.m m)

pub other_z : (d e : Dimension) → beq d.z e.z ≡ false → d ≢ e
other_z d e other same = beq_other d.z e.z other (ap (λ d. d.z) same)

pub other_m : (d e : Dimension) → beq d.m e.m ≡ false → d ≢ e
other_m d e other same = beq_other d.m e.m other (ap (λ d. d.m) same)
