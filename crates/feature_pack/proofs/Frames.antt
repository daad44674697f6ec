-- Buffers behind their size prefixes.
use Rattle.std.proofs.Common.{◌≡◌, ◌∙◌, ℕ, zero, suc, ◌<◌, ◌≤◌, List, [], ◌∷◌, length, map, get_or, refl, sym, ap, subst, arith}
use Rattle.std.specs.Prelude.{Vec, vec_items, Option}
use Rattle.std.specs.declared.alloc.Global.{Global}
use Rattle.std.specs.List.{AllByRecursion}
use Rattle.std.proofs.lemmas.List.{length-map}
use Rattle.flat_layout.specs.Promises.{IsClean}
use Rattle.fgb_schema.specs.Headers.{Header}
use Rattle.fgb_schema.specs.Features.{Feature, box_of_shape, feature_of, own_box}
use Rattle.fgb_schema.specs.Paths.{feature_root}
use Rattle.fgb_schema.specs.Shapes.{Shape}
use Rattle.fgb_schema.specs.Weights.{BreaksBuffer}
use Rattle.fgb_file.specs.File.{IsFeature, box_of}
use Rattle.fgb_pack.proofs.Orders.{at_place}
use Rattle.laid_features.specs.Buffers.{buffer_of, buffers_of, framed, pieces_of}
use Rattle.laid_features.proofs.Framing.{framed_back, framed_long}
use Rattle.feature_pack.specs.Pieces.{HasRoom, pieces_in}

-- a feature in a file
module _ (h : Header) (b : List ℕ) (is : IsFeature h (framed b)) where
  pub feature_room : length b ≤ 268435456
  feature_room = omega (arith, framed_long b, is.framed.sized, is.framed.small)

  pub feature_clean : IsClean (BreaksBuffer b (feature_root h))
  feature_clean = subst (λ x. IsClean (BreaksBuffer x (feature_root h))) (framed_back b) is.clean

-- its own box is that of its shape
pub own_box_is : (h : Header) (b : List ℕ) (shown : Option Shape) → shown ≡ (feature_of h b).shape → box_of_shape shown ≡ box_of h (framed b)
own_box_is h b shown is = ap box_of_shape is ∙ ap (λ x. own_box (feature_of h x)) (sym (framed_back b))

-- what holds of each piece holds of the one of a buffer
pub piece_at : (P : List ℕ → Type 0) (buffers : List (Vec ℕ Global)) (i : ℕ) (x : Vec ℕ Global) → AllByRecursion P (pieces_in buffers) → i < length buffers → x ≡ get_or buffers i x
    → P (framed x.items)
piece_at P [] i x all early is = absurd (omega (arith, early))
piece_at P (v ∷ vs) zero x all early is = subst (λ (v : Vec ℕ Global). P (framed v.items)) (sym is) all.0
piece_at P (v ∷ vs) (suc i) x all early is = piece_at P vs i x all.1 (omega (arith, early)) is

pub have_room : (h : Header) (buffers : List (Vec ℕ Global)) → AllByRecursion (IsFeature h) (pieces_in buffers) → AllByRecursion HasRoom buffers
have_room h [] all = tt
have_room h (v ∷ vs) all = (feature_room h v.items all.0, have_room h vs all.1)

-- a buffer as it is lent
module _ (buffers : List (Vec ℕ Global)) (i : ℕ) (x : Vec ℕ Global) (b : List ℕ) (early : i < length buffers) (is : x ≡ get_or buffers i x) (lent : b ≡ x.items) where
  pub room_at : AllByRecursion HasRoom buffers → length b ≤ 268435456
  room_at all = subst (λ b. length b ≤ 268435456) (sym lent) (subst HasRoom (sym is) (at_place HasRoom buffers i x all early))

  pub lent_feature : (h : Header) → AllByRecursion (IsFeature h) (pieces_in buffers) → IsFeature h (framed b)
  lent_feature h all = subst (λ b. IsFeature h (framed b)) (sym lent) (piece_at (IsFeature h) buffers i x all early is)

pub as_many : (buffers : List (Vec ℕ Global)) → length (pieces_in buffers) ≡ length buffers
as_many buffers = length-map buffers (λ buffer. framed buffer.items)

-- the buffers of features are their pieces
framed_all : (buffers : List (Vec ℕ Global)) → map framed (map vec_items buffers) ≡ pieces_in buffers
framed_all [] = refl
framed_all (v ∷ vs) = ap (λ l. framed v.items ∷ l) (framed_all vs)

framed_features : (features : List Feature) → map framed (buffers_of features) ≡ pieces_of features
framed_features [] = refl
framed_features (f ∷ fs) = ap (λ l. framed (buffer_of f) ∷ l) (framed_features fs)

pub same_pieces : (buffers : List (Vec ℕ Global)) (features : List Feature) → map vec_items buffers ≡ buffers_of features → pieces_in buffers ≡ pieces_of features
same_pieces buffers features same = sym (framed_all buffers) ∙ ap (map framed) same ∙ framed_features features
