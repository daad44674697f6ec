-- The head of a value, as it was taken: its byte order, and the kind and the dimension that the number of its type says.
use Rattle.std.proofs.Common.{◌≡◌, ◌≢◌, ℕ, ◌+◌, ◌<◌, ◌≤◌, ◌&&◌, ◌||◌, not, Bool, true, false, IsTrue, List, [], ◌∷◌, get_or, Option, Some, None, if◌then◌else◌, refl, sym, ap, ◌∙◌, subst, arith}
use Rattle.std.proofs.Math.Bool.{beq}
use Rattle.std.proofs.lemmas.Bool.{false≢true}
use Rattle.std.proofs.lemmas.Bool.Decides.{nat_tests}
use Rattle.flat_layout.specs.declared.Rule.{Rule}
use Rattle.flat_layout.specs.declared.Rule.TheVariants.{WkbOrder}
use Rattle.fgb_schema.specs.Tables.{is_kind}
use Rattle.geometry_view.specs.declared.kind.Kind.{Kind}
use Rattle.geometry_view.specs.declared.kind.Kind.TheVariants.{Point, LineString, Polygon, MultiPoint, MultiLineString, MultiPolygon, GeometryCollection}
use Rattle.geometry_view.specs.Kinds.{number_of}
use Rattle.wkb_writer.specs.declared.dialect.Dialect.{Dialect}
use Rattle.wkb_writer.specs.declared.dialect.Dialect.TheVariants.{Iso, Extended}
use Rattle.wkb_writer.specs.declared.dimension.Dimension.{Dimension}
use Rattle.wkb_writer.specs.declared.error.WkbError.{WkbError}
use Rattle.wkb_writer.specs.Wkb.{type_number, z_flag, m_flag, srid_flag}
use Rattle.wkb_grammar.specs.Grammar.{Order, little, Spelling, number_bytes, order_byte, has_srid, type_in, head_in, srid_bytes, IsSrid, IsHeadIn}
use Rattle.wkb_grammar.proofs.Heads.{IsKind, below_told}
use Rattle.wkb_grammar.proofs.Sizes.{length-head}
use Rattle.wkb_reader.specs.declared.head.Flags.{Flags}
use Rattle.wkb_reader.specs.declared.head.TypeFound.{TypeFound}
use Rattle.wkb_reader.specs.Heads.{Says, Splits, TakesHead, TakesSrid, spelled_in}
use Rattle.wkb_reader.specs.declared.cursor.Cursor.{Cursor}
use Rattle.wkb_reader.specs.Broken.{Standing, Suits, BreaksHead, IsHeadOf, IsNoType, no_srid, no_type, other_order}
use Rattle.wkb_reader.specs.Cursors.{Passes}
use Rattle.wkb_reader.specs.Refusals.{IsCut, cut_item, Refuses}
use Rattle.wkb_reader.proofs.Passing.{carry, passes_more}

pub kind_is : (kind : Kind) → IsTrue (is_kind (number_of kind))
kind_is Point = refl
kind_is LineString = refl
kind_is Polygon = refl
kind_is MultiPoint = refl
kind_is MultiLineString = refl
kind_is MultiPolygon = refl
kind_is GeometryCollection = refl

-- a byte order and the number of a type are the front of a head
pub front_taken : (o : Order) (t : Spelling) (srid : Option ℕ) (kind n : ℕ) (a b c : Cursor) → has_srid srid ≡ has_srid t.srid → n ≡ type_in t kind → Passes a b (order_byte o ∷ [])
    → Passes b c (number_bytes o 4 n) → Passes a c (head_in (spelled_in o t.thousands t.flags srid) kind)
front_taken o t srid kind n a b c has type order word =
    let same : n ≡ type_in (spelled_in o t.thousands t.flags srid) kind =
    type ∙ ap (λ f. type_number kind t.thousands + (if f then srid_flag else 0) + (if t.flags.m then m_flag else 0) + (if t.flags.z then z_flag else 0)) (sym has) in
    subst (λ m. Passes a c (order_byte o ∷ number_bytes o 4 m)) same (passes_more a b c (order_byte o ∷ []) (number_bytes o 4 n) order word)

speaks_as : (dialect : Dialect) (o : Order) (t : Spelling) (srid : Option ℕ) → has_srid srid ≡ has_srid t.srid → IsHeadIn dialect t → IsHeadIn dialect (spelled_in o t.thousands t.flags srid)
speaks_as Iso o t None has speaks = (speaks.0, refl)
speaks_as Iso o t (Some n) has speaks = absurd (false≢true (sym (has ∙ ap has_srid speaks.1)))
speaks_as Extended o t srid has speaks = tt

-- the head that a type tells, in a byte order and with the number of a reference system
pub head_as : (dialect : Dialect) (o : Order) (t : Spelling) (srid : Option ℕ) (kind : ℕ) (d : Dimension) → has_srid srid ≡ has_srid t.srid → IsSrid srid → IsHeadOf dialect t kind d
    → IsHeadOf dialect (spelled_in o t.thousands t.flags srid) kind d
head_as dialect o t srid kind d has small is =
    record { known = is.known; is = record { says = is.is.says; srid = small }; speaks = speaks_as dialect o t srid has is.speaks }

-- a first byte that is no byte order
pub other_byte : (dialect : Dialect) (level : ℕ) (standing : Standing) (b : List ℕ) → 1 < get_or b 0 0 → BreaksHead dialect level standing b 0 WkbOrder
other_byte dialect level standing [] above = absurd (omega (arith, above))
other_byte dialect level standing (first ∷ rest) above = other_order first rest refl above

-- bytes that end inside the type
pub type_cut : (dialect : Dialect) (o : Order) (level : ℕ) (standing : Standing) (a b : Cursor) (e : WkbError) → level ≤ 16 → Passes a b (order_byte o ∷ []) → Refuses b.at (IsCut 4 b.rest.now) e
    → Refuses a.at (BreaksHead dialect level standing a.rest.now) e
type_cut dialect o level standing a b e shallow order told =
    carry e a.at b.at 1 (IsCut 4 b.rest.now) (BreaksHead dialect level standing a.rest.now) order.moved (λ q r broken. cut_type q r broken) told
  where
    cut_type : (q : ℕ) (r : Rule) → IsCut 4 b.rest.now q r → BreaksHead dialect level standing a.rest.now (1 + q) r
    cut_type q r (cut_item short) = no_type o b.rest.now order.stood shallow short

-- bytes that end inside the number of a reference system
pub srid_cut : (dialect : Dialect) (s : Spelling) (kind level : ℕ) (d : Dimension) (standing : Standing) (a b : Cursor) (e : WkbError) → level ≤ 16 → Passes a b (head_in s kind)
    → IsHeadOf dialect s kind d → Suits standing kind d → has_srid s.srid ≡ true → Refuses b.at (IsCut 4 b.rest.now) e → Refuses a.at (BreaksHead dialect level standing a.rest.now) e
srid_cut dialect s kind level d standing a b e shallow passed head suits has told =
    carry e a.at b.at 5 (IsCut 4 b.rest.now) (BreaksHead dialect level standing a.rest.now) (omega (arith, passed.moved, length-head s kind)) (λ q r broken. cut_srid q r broken) told
  where
    cut_srid : (q : ℕ) (r : Rule) → IsCut 4 b.rest.now q r → BreaksHead dialect level standing a.rest.now (5 + q) r
    cut_srid q r (cut_item short) = no_srid s kind d b.rest.now passed.stood shallow head suits has short

-- a whole head
pub head_taken : (dialect : Dialect) (o : Order) (number : ℕ) (found : TypeFound) (a b c e : Cursor) → Says dialect number found → Passes a b (order_byte o ∷ []) → Passes b c (number_bytes o 4 number)
    → TakesSrid c e o found.has_srid → TakesHead dialect a e o (number_of found.kind) found.dimension
head_taken dialect o number found a b c e says order word last =
    let t = says.spelled in
    let kind = number_of found.kind in
    let has : has_srid last.srid ≡ has_srid t.srid = last.same ∙ sym says.srid in
    let front = front_taken o t last.srid kind number a b c has says.same order word in
    record {
      thousands = t.thousands;
      flags = t.flags;
      srid = last.srid;
      is = head_as dialect o t last.srid kind found.dimension has last.is says.is;
      passed = passes_more a c e (head_in (spelled_in o t.thousands t.flags last.srid) kind) (srid_bytes o last.srid) front last.passed;
    }

known_kind : (kind : ℕ) → IsTrue (is_kind kind) → (1 ≤ kind) × (kind ≤ 7)
known_kind kind is = grind (arith, nat_tests)

pub kind_in_range : (kind : ℕ) → IsTrue (is_kind kind) → IsKind kind
kind_in_range kind is =
    let known = known_kind kind is in
    record { above = known.0; below = known.1 }

pub is_kind_of : (kind : ℕ) → 1 ≤ kind → kind ≤ 7 → IsTrue (is_kind kind)
is_kind_of kind above below = grind (arith, nat_tests)

-- no flags add nothing
no_flags : (n : ℕ) (z m srid : Bool) → z ≡ false → m ≡ false → srid ≡ false → n + (if srid then srid_flag else 0) + (if m then m_flag else 0) + (if z then z_flag else 0) ≡ n
no_flags n false false false z_off m_off srid_off = omega arith
no_flags n true m srid z_off m_off srid_off = absurd (false≢true (sym z_off))
no_flags n false true srid z_off m_off srid_off = absurd (false≢true (sym m_off))
no_flags n false false true z_off m_off srid_off = absurd (false≢true (sym srid_off))

-- a number that no type has without its flags
pub no_type_by : (dialect : Dialect) (number low : ℕ) (flags : Flags) → Splits dialect number low flags → ((kind : ℕ) (d : Dimension) → IsTrue (is_kind kind) → low ≢ type_number kind d)
    → IsNoType dialect number
no_type_by Iso number low flags split other s kind known speaks same =
    other kind s.thousands known
    (sym (no_flags low flags.z flags.m flags.srid split.below.0 split.below.1 split.below.2) ∙ sym split.sum ∙ same
    ∙ no_flags (type_number kind s.thousands) s.flags.z s.flags.m (has_srid s.srid) (ap (λ d. d.z) speaks.0) (ap (λ d. d.m) speaks.0) (ap has_srid speaks.1))
no_type_by Extended number low flags split other s kind known speaks same =
    other kind s.thousands known (below_told s kind low flags.z flags.m flags.srid (kind_in_range kind known) split.below (sym split.sum ∙ same))

-- a head by its type
srid_as : Bool → Option ℕ
srid_as true = Some 0
srid_as false = None

as_flagged : (flag : Bool) → has_srid (srid_as flag) ≡ flag
unfolding srid_as
as_flagged true = refl
as_flagged false = refl

srid_small : (flag : Bool) → IsSrid (srid_as flag)
unfolding srid_as
srid_small true = omega arith
srid_small false = tt

no_srid_as : srid_as false ≡ None
unfolding srid_as
no_srid_as = refl

module _ (number low : ℕ) (flags : Flags) (e : Dimension) where
  abbrev spelled : Spelling
  spelled = record { order = little; thousands = e; flags = record { z = flags.z; m = flags.m }; srid = srid_as flags.srid }

  spelled_speaks : (dialect : Dialect) → Splits dialect number low flags → IsHeadIn dialect spelled
  spelled_speaks Iso split = ((λ i. record { z = split.below.0 i; m = split.below.1 i }), ap srid_as split.below.2 ∙ no_srid_as)
  spelled_speaks Extended split = tt

  pub says_by : (dialect : Dialect) (kind : Kind) (found : TypeFound) → Splits dialect number low flags → low ≡ type_number (number_of kind) e → found.kind ≡ kind → found.has_srid ≡ flags.srid
      → found.dimension ≡ record { z = flags.z || e.z; m = flags.m || e.m } → Says dialect number found
  says_by dialect kind found split type is_kind' is_flagged dimension =
      let same : number ≡ type_in spelled (number_of kind) =
      split.sum ∙ ap (λ n. n + (if flags.srid then srid_flag else 0) + (if flags.m then m_flag else 0) + (if flags.z then z_flag else 0)) type
      ∙ ap (λ f. type_number (number_of kind) e + (if f then srid_flag else 0) + (if flags.m then m_flag else 0) + (if flags.z then z_flag else 0)) (sym (as_flagged flags.srid)) in
      record {
        spelled = spelled;
        same = same ∙ ap (λ k. type_in spelled (number_of k)) (sym is_kind');
        srid = as_flagged flags.srid ∙ sym is_flagged;
        is = record {
          known = kind_is found.kind;
          is = record { says = sym dimension; srid = srid_small flags.srid };
          speaks = spelled_speaks dialect split;
        };
      }

-- dimensions that a comparison tells apart
same_flag : (b : Bool) → beq b b ≡ true
same_flag true = refl
same_flag false = refl

pub differ : (d e : Dimension) → not (beq d.z e.z && beq d.m e.m) ≡ true → d ≢ e
differ d e apart same =
    let z : beq d.z e.z ≡ true = subst (λ (f : Dimension). beq d.z f.z ≡ true) same (same_flag d.z) in
    let m : beq d.m e.m ≡ true = subst (λ (f : Dimension). beq d.m f.m ≡ true) same (same_flag d.m) in
    false≢true (rw (z, m) at apart)
