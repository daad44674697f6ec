-- A shape is stored as nested pairs of numbers.
use Rattle.std.specs.Prelude.{◌≡◌, ℕ, List, [], ◌∷◌, refl}
use Rattle.std.proofs.Common.{sym, ap, ◌∙◌}
use base.Stored.{Gv, gnil, gnum, gcons, Coded}
use Rattle.fgb_schema.specs.Shapes.{Shape, shape, Shapes, none, more, Ordinates}

abbrev pub code_list : List ℕ → Gv
code_list [] = gnil
code_list (x ∷ xs) = gcons (gnum x) (code_list xs)

abbrev pub code_pairs : List (ℕ × ℕ) → Gv
code_pairs [] = gnil
code_pairs (p ∷ ps) = gcons (gcons (gnum p.0) (gnum p.1)) (code_pairs ps)

abbrev pub code_ordinates : Ordinates → Gv
code_ordinates o = gcons (gcons (code_list o.z) (code_list o.m)) (gcons (code_list o.t) (code_list o.tm))

abbrev mutual
  pub code_shape : Shape → Gv
  code_shape (shape kind own rings ordinates parts) =
      gcons (gnum kind) (gcons (code_pairs own) (gcons (code_pairs rings) (gcons (code_ordinates ordinates) (code_shapes parts))))

  pub code_shapes : Shapes → Gv
  code_shapes none = gnil
  code_shapes (more first rest) = gcons (code_shape first) (code_shapes rest)

list_of : Gv → List ℕ
list_of (gcons (gnum x) rest) = x ∷ list_of rest
list_of _ = []

pairs_of : Gv → List (ℕ × ℕ)
pairs_of (gcons (gcons (gnum x) (gnum y)) rest) = (x, y) ∷ pairs_of rest
pairs_of _ = []

ordinates_of : Gv → Ordinates
ordinates_of (gcons (gcons z m) (gcons t tm)) = record { z = list_of z; m = list_of m; t = list_of t; tm = list_of tm }
ordinates_of _ = record { z = []; m = []; t = []; tm = [] }

mutual
  shape_of : Gv → Shape
  shape_of (gcons (gnum kind) (gcons own (gcons rings (gcons ordinates parts)))) = shape kind (pairs_of own) (pairs_of rings) (ordinates_of ordinates) (shapes_of parts)
  shape_of _ = shape 0 [] [] (record { z = []; m = []; t = []; tm = [] }) none

  shapes_of : Gv → Shapes
  shapes_of (gcons first rest) = more (shape_of first) (shapes_of rest)
  shapes_of _ = none

list_of-code : (xs : List ℕ) → list_of (code_list xs) ≡ xs
unfolding list_of
list_of-code [] = refl
list_of-code (x ∷ xs) = ap (λ rest. x ∷ rest) (list_of-code xs)

pairs_of-code : (ps : List (ℕ × ℕ)) → pairs_of (code_pairs ps) ≡ ps
unfolding pairs_of
pairs_of-code [] = refl
pairs_of-code (p ∷ ps) = ap (λ rest. p ∷ rest) (pairs_of-code ps)

made : List ℕ → List ℕ → List ℕ → List ℕ → Ordinates
made z m t tm = record { z = z; m = m; t = t; tm = tm }

ordinates_of-code : (o : Ordinates) → ordinates_of (code_ordinates o) ≡ o
unfolding ordinates_of made
ordinates_of-code o =
    ap (λ z. made z (list_of (code_list o.m)) (list_of (code_list o.t)) (list_of (code_list o.tm))) (list_of-code o.z)
    ∙ ap (λ m. made o.z m (list_of (code_list o.t)) (list_of (code_list o.tm))) (list_of-code o.m)
    ∙ ap (λ t. made o.z o.m t (list_of (code_list o.tm))) (list_of-code o.t)
    ∙ ap (made o.z o.m o.t) (list_of-code o.tm)

mutual
  unfolding shape_of shapes_of

  shape_of-code : (s : Shape) → shape_of (code_shape s) ≡ s
  shape_of-code (shape kind own rings ordinates parts) =
      ap (λ own. shape kind own (pairs_of (code_pairs rings)) (ordinates_of (code_ordinates ordinates)) (shapes_of (code_shapes parts))) (pairs_of-code own)
      ∙ ap (λ rings. shape kind own rings (ordinates_of (code_ordinates ordinates)) (shapes_of (code_shapes parts))) (pairs_of-code rings)
      ∙ ap (λ ordinates. shape kind own rings ordinates (shapes_of (code_shapes parts))) (ordinates_of-code ordinates)
      ∙ ap (shape kind own rings ordinates) (shapes_of-code parts)

  shapes_of-code : (ss : Shapes) → shapes_of (code_shapes ss) ≡ ss
  shapes_of-code none = refl
  shapes_of-code (more first rest) =
      ap (λ s. more s (shapes_of (code_shapes rest))) (shape_of-code first) ∙ ap (more first) (shapes_of-code rest)

pub same_shapes : (x y : Shape) → code_shape x ≡ code_shape y → x ≡ y
same_shapes x y e = sym (shape_of-code x) ∙ ap shape_of e ∙ shape_of-code y

abbrev pub shape_code : Coded Shape
shape_code = record { code = code_shape; inj = same_shapes }
