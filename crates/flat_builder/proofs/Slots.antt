-- Fields in their table: how long they are, and what some more of them do.
use Rattle.std.proofs.Common.{◌≡◌, ℕ, ◌+◌, Bool, List, [], ◌∷◌, ◌++◌, length, refl, sym, ap, ◌∙◌, arith, length-append, append_assoc, add_assoc, cond, ◌-◌}
use Rattle.std.specs.Bool.{⊤}
use Rattle.byteorder.specs.Numbers.{length-bytes_low_first}
use Rattle.flat_builder.specs.Laying.{Slot, slot_bytes, slots_bytes, of_width, by_width}
use Rattle.flat_builder.specs.Blanks.{slots_len}

pub slots_len-append : (xs ys : List Slot) → slots_len (xs ++ ys) ≡ slots_len xs + slots_len ys
slots_len-append [] ys = omega arith
slots_len-append (s ∷ xs) ys = omega (arith, slots_len-append xs ys)

pub length-slots_bytes : (p : ℕ) (xs : List Slot) → length (slots_bytes p xs) ≡ slots_len xs
unfolding slots_bytes slot_bytes
length-slots_bytes p [] = refl
length-slots_bytes p (s ∷ xs) = omega (arith, length-append (slot_bytes p s) (slots_bytes (p + s.width) xs), length-bytes_low_first 0 s.width (cond s.leads (s.number - p) s.number), length-slots_bytes (p + s.width) xs)

pub slots_bytes-append : (p : ℕ) (xs ys : List Slot) → slots_bytes p (xs ++ ys) ≡ slots_bytes p xs ++ slots_bytes (p + slots_len xs) ys
unfolding slots_bytes
slots_bytes-append p [] ys = ap (λ q. slots_bytes q ys) (omega arith)
slots_bytes-append p (s ∷ xs) ys =
    ap (λ more. slot_bytes p s ++ more) (slots_bytes-append (p + s.width) xs ys)
    ∙ ap (λ q. slot_bytes p s ++ (slots_bytes (p + s.width) xs ++ slots_bytes q ys)) (add_assoc p s.width (slots_len xs))
    ∙ sym (append_assoc (slot_bytes p s) (slots_bytes (p + s.width) xs) _)

-- a field has 8, 4, 2 or 1 bytes
pub data IsWidth : ℕ → Type 0 where
  eight : IsWidth 8
  four : IsWidth 4
  two : IsWidth 2
  one : IsWidth 1

unfoldable pub AllWidths : List Slot → Type 0
AllWidths [] = ⊤
AllWidths (s ∷ rest) = IsWidth s.width × AllWidths rest

pub AllWidths-append : (xs ys : List Slot) → AllWidths xs → AllWidths ys → AllWidths (xs ++ ys)
unfolding AllWidths
AllWidths-append [] ys a b = b
AllWidths-append (s ∷ xs) ys a b = (a.0, AllWidths-append xs ys a.1 b)

pub AllWidths-one : (s : Slot) → IsWidth s.width → AllWidths (s ∷ [])
unfolding AllWidths
AllWidths-one s h = (h, tt)

-- one more field is in one of the four parts
one_more : (id w number : ℕ) (leads : Bool) (xs : List Slot) → IsWidth w
    → let s : Slot = record { id = id; width = w; leads = leads; number = number } in
    slots_len (of_width 8 (s ∷ xs)) + slots_len (of_width 4 (s ∷ xs)) + slots_len (of_width 2 (s ∷ xs)) + slots_len (of_width 1 (s ∷ xs))
    ≡ w + (slots_len (of_width 8 xs) + slots_len (of_width 4 xs) + slots_len (of_width 2 xs) + slots_len (of_width 1 xs))
unfolding of_width
one_more id w number leads xs eight = omega arith
one_more id w number leads xs four = omega arith
one_more id w number leads xs two = omega arith
one_more id w number leads xs one = omega arith

parts_len : (xs : List Slot) → AllWidths xs
    → slots_len (of_width 8 xs) + slots_len (of_width 4 xs) + slots_len (of_width 2 xs) + slots_len (of_width 1 xs) ≡ slots_len xs
unfolding AllWidths of_width
parts_len [] h = refl
parts_len (s ∷ xs) h = one_more s.id s.width s.number s.leads xs h.0 ∙ ap (λ n. s.width + n) (parts_len xs h.1)

-- no byte is lost where the fields are put in order
pub slots_len-by_width : (xs : List Slot) → AllWidths xs → slots_len (by_width xs) ≡ slots_len xs
unfolding by_width
slots_len-by_width xs h =
    omega (arith, parts_len xs h, slots_len-append (of_width 8 xs ++ of_width 4 xs ++ of_width 2 xs) (of_width 1 xs), slots_len-append (of_width 8 xs ++ of_width 4 xs) (of_width 2 xs), slots_len-append (of_width 8 xs) (of_width 4 xs))
