-- Lists of boxes in an array.
use Rattle.std.proofs.Common.{◌≡◌, ℕ, zero, suc, ◌+◌, ◌≤◌, ◌<◌, List, [], ◌∷◌, ◌++◌, length, take, get_or, arith, sym, subst}
use Rattle.std.specs.List.{AllByRecursion}
use Rattle.std.proofs.Math.ListN.{set}
use Rattle.std.proofs.lemmas.List.{length-take, take_more_set, length-append}
use Rattle.order_keys.specs.declared.bounds.Bounds.{Bounds}
use Rattle.order_keys.specs.Boxes.{IsBox}
use Rattle.box_list.specs.Lists.{IsBoxList}

pub front_length : (xs : List Bounds) (n : ℕ) → n ≤ length xs → length (take n xs) ≡ n
front_length xs n inside = omega (arith, length-take n xs, inside)

pub each_at : (xs : List Bounds) (i : ℕ) (d : Bounds) → AllByRecursion IsBox xs → i < length xs → IsBox (get_or xs i d)
each_at [] i d each inside = absurd (omega (arith, inside))
each_at (x ∷ xs) zero d each inside = each.0
each_at (x ∷ xs) (suc i) d each inside = each_at xs i d each.1 (omega (arith, inside))

each_more : (xs : List Bounds) (b : Bounds) → AllByRecursion IsBox xs → IsBox b → AllByRecursion IsBox (xs ++ b ∷ [])
each_more [] b each valid = (valid, tt)
each_more (x ∷ xs) b each valid = (each.0, each_more xs b each.1 valid)

more : (xs : List Bounds) (b : Bounds) → IsBoxList xs → length xs < 8 → IsBox b → IsBoxList (xs ++ b ∷ [])
more xs b list room valid = record {
  some = omega (arith, length-append xs (b ∷ []));
  few = omega (arith, length-append xs (b ∷ []), room);
  each = each_more xs b list.each valid;
}

pub grown : (xs : List Bounds) (n : ℕ) (b : Bounds) → IsBoxList (take n xs) → length xs ≡ 8 → n < 8 → IsBox b → IsBoxList (take (n + 1) (set xs n b))
grown xs n b list eight room valid =
    let len = front_length xs n (omega (arith, eight, room)) in
    subst IsBoxList (sym (take_more_set xs n b (omega (arith, eight, room)))) (more (take n xs) b list (omega (arith, len, room)) valid)
