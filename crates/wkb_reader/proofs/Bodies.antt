-- Values by their head and their body.
use Rattle.std.proofs.Common.{◌≡◌, inl, inr, ℕ, ◌+◌, ◌≤◌, ◌&&◌, Bool, false, IsTrue, ◌++◌, length, Result, Ok, Err, IfErr, IfOk, refl, sym, ap, subst, ◌∙◌, append_assoc, arith, length-append}
use Rattle.std.proofs.lemmas.Bool.{cases_lt}
use Rattle.std.proofs.lemmas.Bool.Decides.{nat_tests}
use Rattle.flat_layout.specs.declared.Rule.{Rule}
use Rattle.fgb_schema.specs.Shapes.{Shape}
use Rattle.owned_shape.specs.Records.{depth}
use Rattle.wkb_writer.specs.declared.dialect.Dialect.{Dialect}
use Rattle.wkb_writer.specs.declared.dimension.Dimension.{Dimension}
use Rattle.wkb_writer.specs.declared.error.WkbError.{WkbError}
use Rattle.wkb_grammar.specs.Grammar.{Order, Spelling, Position, value, Body, point, line, polygon, multi, body_bytes, bytes_of, head_in, srid_in, is_nowhere, kind_in, position_bytes, IsBody, IsSpelled}
use Rattle.wkb_grammar.specs.ShapesShown.{shape_of, shape_of_body}
use Rattle.wkb_grammar.proofs.Heads.{multi_kind}
use Rattle.wkb_grammar.proofs.Sizes.{length-head}
use Rattle.wkb_reader.specs.declared.cursor.Cursor.{Cursor}
use Rattle.wkb_reader.specs.Broken.{Standing, Suits, takes_kind, deepest_level, BreaksBody, BreaksFinite, BreaksPosition, BreaksValue, in_body, not_finite}
use Rattle.wkb_reader.specs.Cursors.{Passes, Takes}
use Rattle.wkb_reader.specs.Heads.{Stands, TakesBody, TakesHead, spelled_in}
use Rattle.wkb_reader.specs.Refusals.{Refuses}
use Rattle.wkb_reader.proofs.Passing.{carry, passes_more, turned}

-- a refusal in a body is one in the value
module _ (dialect : Dialect) (o : Order) (level kind : ℕ) (d : Dimension) (standing : Standing) (a b : Cursor) (shallow : level ≤ deepest_level) (suits : Suits standing kind d)
    (head : TakesHead dialect a b o kind d) where
  abbrev spelled : Spelling
  spelled = spelled_in o head.thousands head.flags head.srid

  pub body_fails : (e : WkbError) → Refuses b.at (BreaksBody dialect level o kind d b.rest.now) e → Refuses a.at (BreaksValue dialect level standing a.rest.now) e
  body_fails e told =
      carry e a.at b.at (5 + length (srid_in spelled)) (BreaksBody dialect level o kind d b.rest.now) (BreaksValue dialect level standing a.rest.now)
      (omega (arith, head.passed.moved, length-append (head_in spelled kind) (srid_in spelled), length-head spelled kind))
      (λ q r broken. in_body spelled kind d b.rest.now (head.passed.stood ∙ append_assoc (head_in spelled kind) (srid_in spelled) b.rest.now) shallow head.is suits broken) told

  pub value_passed : (c : Cursor) (body : Body) → kind_in body ≡ kind → Passes b c (body_bytes o body) → Passes a c (bytes_of (value spelled d body))
  value_passed c body same passed =
      subst (Passes a c) (append_assoc (head_in spelled kind) (srid_in spelled) (body_bytes o body) ∙ ap (λ k. head_in spelled k ++ (srid_in spelled ++ body_bytes o body)) (sym same))
      (passes_more a b c (head_in spelled kind ++ srid_in spelled) (body_bytes o body) head.passed passed)

  value_taken : (c : Cursor) (s : Shape) → TakesBody dialect b c o kind d s → level + depth s ≤ deepest_level + 1 → Takes a c bytes_of (Stands dialect level standing) (λ v. s ≡ shape_of v)
  value_taken c s body deep =
      let same : kind_in body.taken ≡ kind = body.is.same in
      record {
        taken = value spelled d body.taken;
        is = record {
          dimension = d;
          is = (refl, body.is.is, head.is.is);
          speaks = (head.is.speaks, body.is.speaks);
          suits = subst (λ k. Suits standing k d) (sym same) suits;
          shallow = omega (arith, deep, ap depth body.shown);
        };
        passed = value_passed c body.taken same body.passed;
        shown = body.shown;
      }

-- the shape of a value without parts has one level
one_level : (d e : Dimension) (body : Body) → IsBody e body → kind_in body ≤ 5 → depth (shape_of_body d body) ≡ 1
one_level d e (point p) is low = refl
one_level d e (line ps) is low = refl
one_level d e (polygon rings) is low = refl
one_level d e (multi kind members) is low =
    let known = multi_kind kind is.0 in
    elim (cases_lt kind 5) [
      | inl below ↦
          let four : kind ≡ 4 = omega arith in
          rw four refl
      | inr above ↦
          let five : kind ≡ 5 = omega arith in
          rw five refl
    ]

flat_body : (dialect : Dialect) (o : Order) (kind : ℕ) (d : Dimension) (a b : Cursor) (s : Shape) → kind ≤ 5 → TakesBody dialect a b o kind d s → depth s ≡ 1
flat_body dialect o kind d a b s low body = ap depth body.shown ∙ one_level d d body.taken body.is.is (omega (arith, low, body.is.same))

-- a point that is not finite
pub point_fails : (o : Order) (d : Dimension) (e : Bool) (p : Position) (a b : Cursor) (w : WkbError) → Passes a b (position_bytes o p) → IsSpelled d p → (e && is_nowhere p) ≡ false
    → Refuses a.at (BreaksFinite p) w → Refuses a.at (BreaksPosition o d e a.rest.now) w
point_fails o d e p a b w passed spelled somewhere told =
    carry w a.at a.at 0 (BreaksFinite p) (BreaksPosition o d e a.rest.now) (omega arith)
    (λ q r broken. subst (λ n. BreaksPosition o d e a.rest.now n r) (omega arith) (not_finite p b.rest.now passed.stood spelled somewhere broken)) told

-- the head of a member, by what it suits
pub member_head : (dialect : Dialect) (o : Order) (kind n : ℕ) (d e : Dimension) (a b : Cursor) → n ≡ kind → e ≡ d → TakesHead dialect a b o n e → TakesHead dialect a b o kind d
member_head dialect o kind n d e a b kinds dimensions head = subst (λ k. TakesHead dialect a b o k d) kinds (subst (λ f. TakesHead dialect a b o n f) dimensions head)

pub takes_point : (kind : ℕ) → IsTrue (takes_kind 4 kind) → kind ≡ 1
takes_point kind takes = grind (arith, nat_tests)

pub takes_line : (kind : ℕ) → IsTrue (takes_kind 5 kind) → kind ≡ 2
takes_line kind takes = grind (arith, nat_tests)

-- what is promised of the body of one kind is what is promised where the kind is this one
pub body_arm : (dialect : Dialect) (o : Order) (level kind k : ℕ) (d : Dimension) (a b : Cursor) (r : Result Shape WkbError) (Breaks : ℕ → Rule → Type 0) → kind ≡ k → k ≤ 5 → level ≤ deepest_level
    → ((q : ℕ) (s : Rule) → Breaks q s → BreaksBody dialect level o k d a.rest.now q s) → IfOk r (TakesBody dialect a b o k d) → IfErr r (Refuses a.at Breaks)
    → IfOk r (TakesBody dialect a b o kind d) × IfOk r (λ s. level + depth s ≤ deepest_level + 1) × IfErr r (Refuses a.at (BreaksBody dialect level o kind d a.rest.now))
body_arm dialect o level kind k d a b (Ok s) Breaks same low shallow turn ok err =
    (subst (λ n. TakesBody dialect a b o n d s) (sym same) ok, omega (arith, shallow, flat_body dialect o k d a b s low ok), tt)
body_arm dialect o level kind k d a b (Err e) Breaks same low shallow turn ok err =
    (tt, tt, subst (λ n. Refuses a.at (BreaksBody dialect level o n d a.rest.now) e) (sym same) (turned e a.at Breaks (BreaksBody dialect level o k d a.rest.now) turn err))

-- a value by what its body's call promises
pub value_by_body : (dialect : Dialect) (o : Order) (level kind : ℕ) (d : Dimension) (standing : Standing) (a b c : Cursor) (r : Result Shape WkbError) → level ≤ deepest_level
    → Suits standing kind d → TakesHead dialect a b o kind d → IfOk r (TakesBody dialect b c o kind d) → IfOk r (λ s. level + depth s ≤ deepest_level + 1)
    → IfErr r (Refuses b.at (BreaksBody dialect level o kind d b.rest.now))
    → IfOk r (λ s. Takes a c bytes_of (Stands dialect level standing) (λ v. s ≡ shape_of v)) × IfErr r (Refuses a.at (BreaksValue dialect level standing a.rest.now))
value_by_body dialect o level kind d standing a b c (Ok s) shallow suits head ok deep err = (value_taken dialect o level kind d standing a b shallow suits head c s ok deep, tt)
value_by_body dialect o level kind d standing a b c (Err e) shallow suits head ok deep err = (tt, body_fails dialect o level kind d standing a b shallow suits head e err)
