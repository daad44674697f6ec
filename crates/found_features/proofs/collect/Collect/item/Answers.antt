use Rattle.std.proofs.Common.{◌≡◌, ◌∷◌, ◌++◌, ℕ, List, length, get_or, map, sym, ap, ◌∙◌}
use Rattle.std.proofs.Math.ListN.{get_or-map}
use Rattle.std.proofs.Math.Seq.{get_or-append_seam}
use Rattle.found_features.specs.Entries.{Entry}
use Rattle.found_features.specs.declared.collect.Kept.{Kept}
use Rattle.found_features.proofs.collect.Collect.item.Goals as goal

-- what stands behind so many in a list that is seen through f
seen_at : {X Y : Type 0} (f : X → Y) (xs : List X) (x : X) (i : ℕ) (front : List Y) (y : Y) (rest : List Y) → x ≡ get_or xs i x → map f xs ≡ front ++ y ∷ rest → length front ≡ i → f x ≡ y
seen_at f xs x i front y rest is split at =
    ap f is
    ∙ sym (get_or-map f xs i x)
    ∙ ap (λ ys. get_or ys i (f x)) split
    ∙ ap (λ n. get_or (front ++ y ∷ rest) n (f x)) (sym at)
    ∙ get_or-append_seam front y rest (f x)

shown : Kept → Entry
shown k = record { number = k.number; offset = k.offset; buffer = k.bytes.items; own = k.bounds }

pub returns : goal.returns
unfolding shown
returns c = λ front e rest split at.
    let k = c.index-kept.result.now in
    let make : List ℕ → Entry = λ bytes. record { number = k.number; offset = k.offset; buffer = bytes; own = k.bounds } in
    ap make c.deref.ensures.value
    ∙ seen_at shown c.self.inside.kept.items k c.args.i front e rest c.index-kept.ensures (c.self.view_is ∙ split) at
