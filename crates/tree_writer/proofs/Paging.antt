-- How what was laid and written adds up.
use Rattle.std.proofs.Common.{◌≡◌, ℕ, ◌+◌, ◌<◌, List, [], ◌∷◌, ◌++◌, length, take, drop, get_or, sym, ap, subst, ◌∙◌, append_assoc}
use Rattle.std.specs.List.{flat_map}
use Rattle.std.proofs.lemmas.Grind.{flat_map-append}
use Rattle.std.proofs.lemmas.List.{append-nil, take-append-drop, take_more}
use Rattle.fgb_outside.specs.Sink.{Sink, Appends, AppendsPart}
use Rattle.fgb_outside.proofs.Shown.{appends_appends, appends_nothing, appends_part, appends_then_part, part_longer}
use Rattle.node_items.specs.declared.item.NodeItem.{NodeItem}
use Rattle.node_items.specs.Nodes.{bytes_of}
use Rattle.tree_writer.specs.Pages.{Adds}

-- bytes that stand on the page
pub laid : (a : Sink) (page page' bytes : List ℕ) → page' ≡ page ++ bytes → Adds a a page page' bytes
laid a page page' bytes is = record { written = []; appends = appends_nothing a; whole = is }

-- a page that was written, with these bytes last
pub written : (a b : Sink) (page full page' bytes : List ℕ) → full ≡ page ++ bytes → page' ≡ [] → Appends a b full → Adds a b page page' bytes
written a b page full page' bytes is none appends = record {
  written = full;
  appends = appends;
  whole = ap (λ l. full ++ l) none ∙ append-nil full ∙ is;
}

-- more bytes
pub adds_more : (a b c : Sink) (p q r xs ys : List ℕ) → Adds a b p q xs → Adds b c q r ys → Adds a c p r (xs ++ ys)
adds_more a b c p q r xs ys one other = record {
  written = one.written ++ other.written;
  appends = appends_appends a b c one.written other.written one.appends other.appends;
  whole = append_assoc one.written other.written r ∙ ap (λ l. one.written ++ l) other.whole ∙ sym (append_assoc one.written q ys)
      ∙ ap (λ l. l ++ ys) one.whole ∙ append_assoc p xs ys;
}

-- and a front of more bytes
pub adds_part : (a b c : Sink) (p q xs ys : List ℕ) → Adds a b p q xs → AppendsPart b c (q ++ ys) → AppendsPart a c (p ++ (xs ++ ys))
adds_part a b c p q xs ys one part =
    subst (AppendsPart a c) (sym (append_assoc one.written q ys) ∙ ap (λ l. l ++ ys) one.whole ∙ append_assoc p xs ys)
    (appends_then_part a b c one.written (q ++ ys) one.appends part)

-- a front of them all, where more were to come
pub part_of_more : (a b : Sink) (p xs ys : List ℕ) → AppendsPart a b (p ++ xs) → AppendsPart a b (p ++ (xs ++ ys))
part_of_more a b p xs ys part = subst (AppendsPart a b) (append_assoc p xs ys) (part_longer a b (p ++ xs) ys part)

-- what was written is a front
pub adds_front : (a b : Sink) (p q xs : List ℕ) → Adds a b p q xs → AppendsPart a b (p ++ xs)
adds_front a b p q xs one = subst (AppendsPart a b) one.whole (part_longer a b one.written q (appends_part a b one.written one.appends))

-- the last page, behind all that was laid on an empty one
module _ (a b c : Sink) (p q shown xs : List ℕ) (none : p ≡ []) (one : Adds a b p q xs) (lent : shown ≡ q) where
  all_of_it : one.written ++ shown ≡ xs
  all_of_it = ap (λ l. one.written ++ l) lent ∙ one.whole ∙ ap (λ l. l ++ xs) none

  pub adds_last : Appends b c shown → Appends a c xs
  adds_last last = subst (Appends a c) all_of_it (appends_appends a b c one.written shown one.appends last)

  pub part_last : AppendsPart b c shown → AppendsPart a c xs
  part_last last = subst (AppendsPart a c) all_of_it (appends_then_part a b c one.written shown one.appends last)

-- the bytes of one more node
pub bytes_more : (nodes : List NodeItem) (i : ℕ) (d : NodeItem) → i < length nodes → flat_map bytes_of (take (i + 1) nodes) ≡ flat_map bytes_of (take i nodes) ++ bytes_of (get_or nodes i d)
bytes_more nodes i d there =
    ap (flat_map bytes_of) (take_more nodes i d there) ∙ flat_map-append bytes_of (take i nodes) (get_or nodes i d ∷ [])
    ∙ ap (λ l. flat_map bytes_of (take i nodes) ++ l) (append-nil (bytes_of (get_or nodes i d)))

-- the page with one more node on it, as it is lent
pub lent : (page extended shown encoded bytes : List ℕ) → shown ≡ extended → extended ≡ page ++ encoded → encoded ≡ bytes → shown ≡ page ++ bytes
lent page extended shown encoded bytes a b c = a ∙ b ∙ ap (λ l. page ++ l) c

-- what a read past the end would give
abbrev pub nothing : NodeItem
nothing = record { bounds = record { min_x = record { 0 = 0 }; min_y = record { 0 = 0 }; max_x = record { 0 = 0 }; max_y = record { 0 = 0 } }; offset = 0 }

-- a front of one more node
pub next_part : (a b c : Sink) (p q : List ℕ) (nodes : List NodeItem) (i : ℕ) → i < length nodes → Adds a b p q (flat_map bytes_of (take i nodes))
    → AppendsPart b c (q ++ bytes_of (get_or nodes i nothing)) → AppendsPart a c (p ++ flat_map bytes_of nodes)
next_part a b c p q nodes i there adds part =
    let so_far = flat_map bytes_of (take i nodes) in
    let more : so_far ++ bytes_of (get_or nodes i nothing) ≡ flat_map bytes_of (take (i + 1) nodes) = sym (bytes_more nodes i nothing there) in
    let all : flat_map bytes_of (take (i + 1) nodes) ++ flat_map bytes_of (drop (i + 1) nodes) ≡ flat_map bytes_of nodes =
    sym (flat_map-append bytes_of (take (i + 1) nodes) (drop (i + 1) nodes)) ∙ ap (flat_map bytes_of) (take-append-drop (i + 1) nodes) in
    subst (λ l. AppendsPart a c (p ++ l)) (ap (λ l. l ++ flat_map bytes_of (drop (i + 1) nodes)) more ∙ all)
    (part_of_more a c p (so_far ++ bytes_of (get_or nodes i nothing)) (flat_map bytes_of (drop (i + 1) nodes)) (adds_part a b c p q so_far (bytes_of (get_or nodes i nothing)) adds part))

-- one more node
pub next_added : (a b c : Sink) (p q r : List ℕ) (nodes : List NodeItem) (i : ℕ) → i < length nodes → Adds a b p q (flat_map bytes_of (take i nodes))
    → Adds b c q r (bytes_of (get_or nodes i nothing)) → Adds a c p r (flat_map bytes_of (take (i + 1) nodes))
next_added a b c p q r nodes i there adds more =
    subst (Adds a c p r) (sym (bytes_more nodes i nothing there)) (adds_more a b c p q r (flat_map bytes_of (take i nodes)) (bytes_of (get_or nodes i nothing)) adds more)
