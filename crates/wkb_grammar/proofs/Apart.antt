-- Values are told apart by their bytes.
use Rattle.std.proofs.Common.{◌≡◌, inl, inr, ℕ, ◌^◌, ◌<◌, List, ◌∷◌, ◌++◌, length, map, refl, sym, ap, ◌∙◌, subst, append_assoc, arith}
use Rattle.std.specs.List.{All, concat}
use Rattle.wkb_writer.specs.declared.dimension.Dimension.{Dimension}
use Rattle.wkb_grammar.specs.Grammar.{Order, Position, Value, value, Body, point, line, polygon, multi, Values, nothing, also, kind_in, number_bytes, ordinates_of, position_bytes, counted_in, line_bytes_in, head_in, srid_bytes, srid_in, bytes_of, body_bytes, each_bytes, IsSpelled, IsPosition, AreCounted, IsLine, IsValue, IsBody, AreMembers}
use Rattle.wkb_grammar.proofs.Told.{IsTold, told_weaker, number_told, each_told, counted_told}
use Rattle.wkb_grammar.proofs.Heads.{kind_known, multi_kind, head_told, srid_told, same_dimension}

-- a point by its ordinates
position_of : List ℕ → Position → Position
position_of (x ∷ y ∷ beside) otherwise = record { x = x; y = y; beside = beside }
position_of rest otherwise = otherwise

pub position_told : (order : Order) (d : Dimension) → IsTold (IsSpelled d) (position_bytes order)
unfolding position_of
position_told order d = record {
  told = λ p q r s spelled also_spelled same.
      let both = each_told (λ x. x < 2 ^ 64) (number_bytes order 8) (number_told order 8) (ordinates_of p) (ordinates_of q) r s
      (omega (arith, spelled.enough, also_spelled.enough)) spelled.patterns also_spelled.patterns same in
      (ap (λ xs. position_of xs p) both.0, both.1);
}

pub line_told : (order : Order) (d : Dimension) → IsTold (IsLine d) (line_bytes_in order)
line_told order d = counted_told order (IsPosition d) (position_bytes order) (told_weaker (IsSpelled d) (IsPosition d) (position_bytes order) (λ p is. is.spelled) (position_told order d))

pub rings_told : (order : Order) (d : Dimension) → IsTold (λ rings. All (IsLine d) rings × AreCounted rings) (λ rings. counted_in order (map (line_bytes_in order) rings))
rings_told order d = counted_told order (IsLine d) (line_bytes_in order) (line_told order d)

-- a point of a value, also of an empty Point
spelled_point : (d : Dimension) (p : Position) → IsBody d (point p) → IsSpelled d p
spelled_point d p is = elim is [ inl somewhere ↦ somewhere.spelled | inr empty ↦ empty.0 ]

-- the body that the bytes tell, for each form of the first
module _ (o : Order) (d : Dimension) where
  point_told : (p : Position) (body : Body) (r s : List ℕ) → 1 ≡ kind_in body → IsBody d (point p) → IsBody d body
      → body_bytes o (point p) ++ r ≡ body_bytes o body ++ s → (point p ≡ body) × (r ≡ s)
  point_told p (point q) r s kinds is has same =
      let both = (position_told o d).told p q r s (spelled_point d p is) (spelled_point d q has) same in
      (ap point both.0, both.1)
  point_told p (line ps) r s kinds is has same = absurd (omega arith)
  point_told p (polygon rings) r s kinds is has same = absurd (omega arith)
  point_told p (multi kind members) r s kinds is has same = absurd (omega (arith, (multi_kind kind has.0).0))

  points_told : (ps : List Position) (body : Body) (r s : List ℕ) → 2 ≡ kind_in body → IsBody d (line ps) → IsBody d body
      → body_bytes o (line ps) ++ r ≡ body_bytes o body ++ s → (line ps ≡ body) × (r ≡ s)
  points_told ps (point q) r s kinds is has same = absurd (omega arith)
  points_told ps (line qs) r s kinds is has same =
      let both = (line_told o d).told ps qs r s is has same in
      (ap line both.0, both.1)
  points_told ps (polygon rings) r s kinds is has same = absurd (omega arith)
  points_told ps (multi kind members) r s kinds is has same = absurd (omega (arith, (multi_kind kind has.0).0))

  polygon_told : (rings : List (List Position)) (body : Body) (r s : List ℕ) → 3 ≡ kind_in body → IsBody d (polygon rings) → IsBody d body
      → body_bytes o (polygon rings) ++ r ≡ body_bytes o body ++ s → (polygon rings ≡ body) × (r ≡ s)
  polygon_told rings (point q) r s kinds is has same = absurd (omega arith)
  polygon_told rings (line qs) r s kinds is has same = absurd (omega arith)
  polygon_told rings (polygon others) r s kinds is has same =
      let both = (rings_told o d).told rings others r s is has same in
      (ap polygon both.0, both.1)
  polygon_told rings (multi kind members) r s kinds is has same = absurd (omega (arith, (multi_kind kind has.0).0))

  multi_told : (kind : ℕ) (members : Values)
      → ((others : Values) (k l : ℕ) (r s : List ℕ) → length (each_bytes members) ≡ length (each_bytes others) → AreMembers k d members → AreMembers l d others
      → concat (each_bytes members) ++ r ≡ concat (each_bytes others) ++ s → (members ≡ others) × (r ≡ s))
      → (body : Body) (r s : List ℕ) → kind ≡ kind_in body → IsBody d (multi kind members) → IsBody d body
      → body_bytes o (multi kind members) ++ r ≡ body_bytes o body ++ s → (multi kind members ≡ body) × (r ≡ s)
  multi_told kind members each (point q) r s kinds is has same = absurd (omega (arith, (multi_kind kind is.0).0))
  multi_told kind members each (line qs) r s kinds is has same = absurd (omega (arith, (multi_kind kind is.0).0))
  multi_told kind members each (polygon rings) r s kinds is has same = absurd (omega (arith, (multi_kind kind is.0).0))
  multi_told kind members each (multi other others) r s kinds is has same =
      let count = (number_told o 4).told (length (each_bytes members)) (length (each_bytes others)) (concat (each_bytes members) ++ r) (concat (each_bytes others) ++ s) is.2 has.2
      (sym (append_assoc (number_bytes o 4 (length (each_bytes members))) (concat (each_bytes members)) r) ∙ same
      ∙ append_assoc (number_bytes o 4 (length (each_bytes others))) (concat (each_bytes others)) s) in
      let both = each others kind other r s count.0 is.1 has.1 count.1 in
      ((λ i. multi (kinds i) (both.0 i)), both.1)

-- no value is a proper prefix of another, and bytes have at most one value: what begins the same bytes is the same, and so is what follows
mutual
  pub values_are_told_apart : (d e : Dimension) (v u : Value) (rest others : List ℕ) → IsValue d v → IsValue e u → bytes_of v ++ rest ≡ bytes_of u ++ others → (v ≡ u) × (rest ≡ others)
  values_are_told_apart d e (value s own body) (value t other content) rest others is has same =
      let behind = srid_in s ++ body_bytes s.order body in
      let ahead = srid_in t ++ body_bytes t.order content in
      let head = head_told s t (kind_in body) (kind_in content) (behind ++ rest) (ahead ++ others) (kind_known d body is.1) (kind_known e content has.1)
      (sym (append_assoc (head_in s (kind_in body)) behind rest) ∙ same ∙ append_assoc (head_in t (kind_in content)) ahead others) in
      let sooner : srid_bytes s.order s.srid ++ (body_bytes s.order body ++ rest) ≡ srid_bytes s.order t.srid ++ (body_bytes s.order content ++ others) =
      subst (λ w. srid_bytes s.order s.srid ++ (body_bytes s.order body ++ rest) ≡ srid_bytes w t.srid ++ (body_bytes w content ++ others)) (sym head.order)
      (sym (append_assoc (srid_in s) (body_bytes s.order body) rest) ∙ head.behind ∙ append_assoc (srid_in t) (body_bytes t.order content) others) in
      let srid = srid_told s.order s.srid t.srid (body_bytes s.order body ++ rest) (body_bytes s.order content ++ others) head.type.srid is.2.srid has.2.srid sooner in
      let one : e ≡ d = sym has.0 ∙ sym has.2.says ∙ sym (same_dimension s t (kind_in body) (kind_in content) head.type) ∙ is.2.says ∙ is.0 in
      let both = body_told s.order d body content rest others head.type.kind is.1 (subst (λ x. IsBody x content) one has.1) srid.1 in
      let dimensions : own ≡ other = is.0 ∙ sym one ∙ sym has.0 in
      ((λ i. value (record { order = head.order i; thousands = head.type.thousands i; flags = head.type.flags i; srid = srid.0 i }) (dimensions i) (both.0 i)), both.1)

  body_told : (o : Order) (d : Dimension) (body content : Body) (r s : List ℕ) → kind_in body ≡ kind_in content → IsBody d body → IsBody d content
      → body_bytes o body ++ r ≡ body_bytes o content ++ s → (body ≡ content) × (r ≡ s)
  body_told o d (point p) content r s kinds is has same = point_told o d p content r s kinds is has same
  body_told o d (line ps) content r s kinds is has same = points_told o d ps content r s kinds is has same
  body_told o d (polygon rings) content r s kinds is has same = polygon_told o d rings content r s kinds is has same
  body_told o d (multi kind members) content r s kinds is has same =
      multi_told o d kind members (λ others k l front back. members_told d members others k l front back) content r s kinds is has same

  members_told : (d : Dimension) (members others : Values) (k l : ℕ) (r s : List ℕ) → length (each_bytes members) ≡ length (each_bytes others) → AreMembers k d members → AreMembers l d others
      → concat (each_bytes members) ++ r ≡ concat (each_bytes others) ++ s → (members ≡ others) × (r ≡ s)
  members_told d nothing nothing k l r s even is has same = (refl, same)
  members_told d nothing (also u us) k l r s even is has same = absurd (omega arith)
  members_told d (also v vs) nothing k l r s even is has same = absurd (omega arith)
  members_told d (also v vs) (also u us) k l r s even is has same =
      let first = values_are_told_apart d d v u (concat (each_bytes vs) ++ r) (concat (each_bytes us) ++ s) is.1 has.1
      (sym (append_assoc (bytes_of v) (concat (each_bytes vs)) r) ∙ same ∙ append_assoc (bytes_of u) (concat (each_bytes us)) s) in
      let later = members_told d vs us k l r s (omega arith) is.2 has.2 first.1 in
      ((λ i. also (first.0 i) (later.0 i)), later.1)
