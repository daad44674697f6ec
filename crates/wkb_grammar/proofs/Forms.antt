-- What bytes that begin with a head tell of the value.
use Rattle.std.proofs.Common.{◌≡◌, ℕ, IsTrue, List, [], ◌∷◌, ◌++◌, sym, ◌∙◌, subst, append_assoc}
use Rattle.std.specs.List.{AllByRecursion}
use Rattle.wkb_writer.specs.declared.dimension.Dimension.{Dimension}
use Rattle.wkb_grammar.specs.Grammar.{Spelling, Value, value, Body, kind_in, body_in, head_in, srid_bytes, srid_in, bytes_of, body_bytes, is_member, IsHead, IsValue, AreMembers}
use Rattle.wkb_grammar.proofs.Heads.{IsKind, kind_known, head_told, srid_told, same_dimension}
use Rattle.wkb_grammar.proofs.Spelling.{values_of}

pub are_members : (kind : ℕ) (d : Dimension) (members : List Value) → AllByRecursion (λ v. IsTrue (is_member kind (body_in v)) × IsValue d v) members → AreMembers kind d (values_of members)
are_members kind d [] is = tt
are_members kind d (first ∷ rest) is = (is.0.0, is.0.1, are_members kind d rest is.1)

-- a value whose bytes begin with this head: how it is spelled, its kind and its dimension, and what follows
pub record BeginsAs (v : Value) (s : Spelling) (kind : ℕ) (d : Dimension) (rest behind : List ℕ) : Type 0 where
  pub body : Body
  pub is : v ≡ value s d body
  pub kind' : kind_in body ≡ kind
  pub bytes : body_bytes s.order body ++ rest ≡ behind

pub begins_as : (e : Dimension) (v : Value) (s : Spelling) (kind : ℕ) (d : Dimension) (rest behind : List ℕ) → IsValue e v → IsKind kind → IsHead s d
    → bytes_of v ++ rest ≡ head_in s kind ++ (srid_in s ++ behind) → BeginsAs v s kind d rest behind
begins_as e (value t own body) s kind d rest behind is known says same =
    let ahead = srid_in t ++ body_bytes t.order body in
    let head = head_told t s (kind_in body) kind (ahead ++ rest) (srid_in s ++ behind) (kind_known e body is.1) known
    (sym (append_assoc (head_in t (kind_in body)) ahead rest) ∙ same) in
    let sooner : srid_bytes s.order t.srid ++ (body_bytes s.order body ++ rest) ≡ srid_bytes s.order s.srid ++ behind =
    subst (λ w. srid_bytes w t.srid ++ (body_bytes w body ++ rest) ≡ srid_in s ++ behind) head.order (sym (append_assoc (srid_in t) (body_bytes t.order body) rest) ∙ head.behind) in
    let srid = srid_told s.order t.srid s.srid (body_bytes s.order body ++ rest) behind head.type.srid is.2.srid says.srid sooner in
    let dimensions : own ≡ d = sym is.2.says ∙ same_dimension t s (kind_in body) kind head.type ∙ says.says in
    record {
      body = body;
      is = λ i. value (record { order = head.order i; thousands = head.type.thousands i; flags = head.type.flags i; srid = srid.0 i }) (dimensions i) body;
      kind' = head.type.kind;
      bytes = srid.1;
    }
