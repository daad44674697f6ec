-- The head of a value tells the kind and how it is spelled.
use Rattle.std.proofs.Common.{◌≡◌, ℕ, ◌+◌, ◌^◌, ◌<◌, ◌≤◌, Bool, true, false, IsTrue, List, ◌++◌, drop, get_or, Option, Some, None, if◌then◌else◌, refl, sym, ap, ◌∙◌, arith}
use Rattle.std.proofs.lemmas.Bool.Decides.{nat_tests}
use Rattle.wkb_writer.specs.declared.dimension.Dimension.{Dimension}
use Rattle.wkb_writer.specs.Wkb.{type_number, z_flag, m_flag, srid_flag}
use Rattle.wkb_grammar.specs.Grammar.{Order, big, little, Spelling, order_byte, number_bytes, has_srid, type_in, head_in, srid_bytes, dimension_by, IsSrid, Body, point, line, polygon, multi, kind_in, is_multi, IsBody}
use Rattle.wkb_grammar.proofs.Told.{number_told}

-- a number of one of the seven kinds
pub record IsKind (kind : ℕ) : Type 0 where
  pub above : 1 ≤ kind
  pub below : kind ≤ 7

pub multi_kind : (kind : ℕ) → IsTrue (is_multi kind) → (4 ≤ kind) × (kind ≤ 7)
multi_kind kind is = grind (arith, nat_tests)

pub kind_known : (d : Dimension) (body : Body) → IsBody d body → IsKind (kind_in body)
kind_known d (point p) is = record { above = omega arith; below = omega arith }
kind_known d (line ps) is = record { above = omega arith; below = omega arith }
kind_known d (polygon rings) is = record { above = omega arith; below = omega arith }
kind_known d (multi kind members) is =
    let known = multi_kind kind is.0 in
    record { above = omega (arith, known.0); below = known.1 }

-- what is added for a flag above all that stands below it
one_flag : (a b top : ℕ) (f g : Bool) → a < top → b < top → a + (if f then top else 0) ≡ b + (if g then top else 0) → (a ≡ b) × (f ≡ g)
one_flag a b top true true low small same = (omega arith, refl)
one_flag a b top true false low small same = absurd (omega arith)
one_flag a b top false true low small same = absurd (omega arith)
one_flag a b top false false low small same = (omega arith, refl)

with_z : (kind : ℕ) (z : Bool) → IsKind kind → kind + (if z then 1000 else 0) < 2000
with_z kind true known = omega arith
with_z kind false known = omega arith

with_both : (kind : ℕ) (z m : Bool) → IsKind kind → kind + (if z then 1000 else 0) + (if m then 2000 else 0) < srid_flag
with_both kind z true known = omega (arith, with_z kind z known)
with_both kind z false known = omega (arith, with_z kind z known)

-- the number of a type of WKB tells the kind and the dimension
same_type : (k l : ℕ) (d e : Dimension) → IsKind k → IsKind l → type_number k d ≡ type_number l e → (k ≡ l) × (d ≡ e)
same_type k l d e known told same =
    let m = one_flag (k + (if d.z then 1000 else 0)) (l + (if e.z then 1000 else 0)) 2000 d.m e.m (with_z k d.z known) (with_z l e.z told) same in
    let z = one_flag k l 1000 d.z e.z (omega arith) (omega arith) m.0 in
    (z.0, λ i. record { z = z.1 i; m = m.1 i })

-- a number with one flag more
with_flag : (n top next : ℕ) (flag : Bool) → n < top → top + top ≤ next → n + (if flag then top else 0) < next
with_flag n top next true low enough = omega (arith, low, enough)
with_flag n top next false low enough = omega (arith, low, enough)

module _ (s : Spelling) (kind : ℕ) (known : IsKind kind) where
  thousands_low : type_number kind s.thousands < srid_flag
  thousands_low = with_both kind s.thousands.z s.thousands.m known

  srid_low : type_number kind s.thousands + (if has_srid s.srid then srid_flag else 0) < m_flag
  srid_low = with_flag (type_number kind s.thousands) srid_flag m_flag (has_srid s.srid) thousands_low (omega arith)

  m_low : type_number kind s.thousands + (if has_srid s.srid then srid_flag else 0) + (if s.flags.m then m_flag else 0) < z_flag
  m_low = with_flag (type_number kind s.thousands + (if has_srid s.srid then srid_flag else 0)) m_flag z_flag s.flags.m srid_low (omega arith)

  pub type_low : type_in s kind < 256 ^ 4
  type_low = with_flag (type_number kind s.thousands + (if has_srid s.srid then srid_flag else 0) + (if s.flags.m then m_flag else 0)) z_flag (256 ^ 4) s.flags.z m_low (omega arith)

-- what is below the flags is the number of the type without them
pub below_told : (s : Spelling) (kind low : ℕ) (z m srid : Bool) → IsKind kind → low < srid_flag
    → low + (if srid then srid_flag else 0) + (if m then m_flag else 0) + (if z then z_flag else 0) ≡ type_in s kind → low ≡ type_number kind s.thousands
below_told s kind low z m srid known small same =
    let number = type_number kind s.thousands in
    let with_srid : low + (if srid then srid_flag else 0) < m_flag = with_flag low srid_flag m_flag srid small (omega arith) in
    let with_m : low + (if srid then srid_flag else 0) + (if m then m_flag else 0) < z_flag = with_flag (low + (if srid then srid_flag else 0)) m_flag z_flag m with_srid (omega arith) in
    let by_z = one_flag (low + (if srid then srid_flag else 0) + (if m then m_flag else 0)) (number + (if has_srid s.srid then srid_flag else 0) + (if s.flags.m then m_flag else 0))
    z_flag z s.flags.z with_m (m_low s kind known) same in
    let by_m = one_flag (low + (if srid then srid_flag else 0)) (number + (if has_srid s.srid then srid_flag else 0)) m_flag m s.flags.m with_srid (srid_low s kind known) by_z.0 in
    (one_flag low number srid_flag srid (has_srid s.srid) small (thousands_low s kind known) by_m.0).0

-- two types of one number say the same
pub record SameType (s t : Spelling) (k l : ℕ) : Type 0 where
  pub kind : k ≡ l
  pub thousands : s.thousands ≡ t.thousands
  pub flags : s.flags ≡ t.flags
  pub srid : has_srid s.srid ≡ has_srid t.srid

pub type_told : (s t : Spelling) (k l : ℕ) → IsKind k → IsKind l → type_in s k ≡ type_in t l → SameType s t k l
type_told s t k l known told same =
    let low = type_number k s.thousands in
    let other = type_number l t.thousands in
    let z = one_flag (low + (if has_srid s.srid then srid_flag else 0) + (if s.flags.m then m_flag else 0)) (other + (if has_srid t.srid then srid_flag else 0) + (if t.flags.m then m_flag else 0))
    z_flag s.flags.z t.flags.z (m_low s k known) (m_low t l told) same in
    let m = one_flag (low + (if has_srid s.srid then srid_flag else 0)) (other + (if has_srid t.srid then srid_flag else 0)) m_flag s.flags.m t.flags.m (srid_low s k known) (srid_low t l told) z.0 in
    let srid = one_flag low other srid_flag (has_srid s.srid) (has_srid t.srid) (thousands_low s k known) (thousands_low t l told) m.0 in
    let type = same_type k l s.thousands t.thousands known told srid.0 in
    record { kind = type.0; thousands = type.1; flags = λ i. record { z = z.1 i; m = m.1 i }; srid = srid.1 }

-- flags and thousands that are the same say the same dimension
pub same_dimension : (s t : Spelling) (k l : ℕ) → SameType s t k l → dimension_by s ≡ dimension_by t
same_dimension s t k l same = λ i. dimension_by (record { order = s.order; thousands = same.thousands i; flags = same.flags i; srid = s.srid })

pub same_order : (o p : Order) → order_byte o ≡ order_byte p → o ≡ p
same_order big big same = refl
same_order big little same = absurd (omega arith)
same_order little big same = absurd (omega arith)
same_order little little same = refl

-- two heads that begin the same bytes are one
pub record SameHead (s t : Spelling) (k l : ℕ) (r u : List ℕ) : Type 0 where
  pub order : s.order ≡ t.order
  pub type : SameType s t k l
  pub behind : r ≡ u

pub head_told : (s t : Spelling) (k l : ℕ) (r u : List ℕ) → IsKind k → IsKind l → head_in s k ++ r ≡ head_in t l ++ u → SameHead s t k l r u
head_told s t k l r u known told same =
    let order : s.order ≡ t.order = same_order s.order t.order (ap (λ xs. get_or xs 0 0) same) in
    let words : number_bytes s.order 4 (type_in s k) ++ r ≡ number_bytes s.order 4 (type_in t l) ++ u =
    ap (drop 1) same ∙ ap (λ w. number_bytes w 4 (type_in t l) ++ u) (sym order) in
    let number = (number_told s.order 4).told (type_in s k) (type_in t l) r u (type_low s k known) (type_low t l told) words in
    record { order = order; type = type_told s t k l known told number.0; behind = number.1 }

-- the number of a reference system, where both have one or none has
pub srid_told : (o : Order) (a b : Option ℕ) (r u : List ℕ) → has_srid a ≡ has_srid b → IsSrid a → IsSrid b → srid_bytes o a ++ r ≡ srid_bytes o b ++ u → (a ≡ b) × (r ≡ u)
srid_told o None None r u has small low same = (refl, same)
srid_told o None (Some n) r u has small low same = absurd (cc has)
srid_told o (Some n) None r u has small low same = absurd (cc has)
srid_told o (Some n) (Some m) r u has small low same =
    let both = (number_told o 4).told n m r u small low same in
    (ap (λ x. Some x) both.0, both.1)
