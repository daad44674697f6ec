-- Hits and their leaves, in parts.
use Rattle.std.proofs.Common.{◌≡◌, ℕ, ◌+◌, ◌≤◌, List, [], ◌∷◌, ◌++◌, length, map, refl, ap, ◌∙◌, arith}
use Rattle.fgb_outside.specs.Asked.{Ascends}
use Rattle.level_bounds.specs.Levels.{Shape}
use Rattle.fgb_file.specs.File.{node_in}
use Rattle.tree_search.specs.declared.search.Hit.{Hit}
use Rattle.tree_search.specs.Searches.{hit_of}
use Rattle.hit_reader.specs.declared.section.Section.{Section}
use Rattle.hit_reader.specs.Going.{AreHits}

-- what is mapped to two lists, one behind the other
pub record MapSplit {X Y : Type 0} (f : X → Y) (all : List X) (first second : List Y) : Type 0 where
  pub front : List X
  pub back : List X
  pub split : all ≡ front ++ back
  pub of_front : first ≡ map f front
  pub of_back : second ≡ map f back

pub map_split : {X Y : Type 0} (f : X → Y) (all : List X) (first second : List Y) → first ++ second ≡ map f all → MapSplit f all first second
map_split f all [] second is = record { front = []; back = all; split = refl; of_front = refl; of_back = is }
map_split f [] (y ∷ ys) second is = absurd (cc)
map_split f (x ∷ xs) (y ∷ ys) second is =
    let heads : y ≡ f x = cc in
    let tails : ys ++ second ≡ map f xs = cc in
    let rest = map_split f xs ys second tails in
    record {
      front = x ∷ rest.front;
      back = rest.back;
      split = ap (λ l. x ∷ l) rest.split;
      of_front = ap (λ z. z ∷ ys) heads ∙ ap (λ l. f x ∷ l) rest.of_front;
      of_back = rest.of_back;
    }

pub ascends_order : (low high : ℕ) (xs : List ℕ) → Ascends low high xs → low ≤ high
ascends_order low high [] rise = rise
ascends_order low high (x ∷ xs) rise = omega (arith, rise.0, ascends_order (x + 1) high xs rise.1)

-- rising numbers, in two parts
pub ascends_split : (low high : ℕ) (xs ys : List ℕ) → Ascends low high (xs ++ ys) → (mid : ℕ) × Ascends low mid xs × Ascends mid high ys
ascends_split low high [] ys rise = (low, omega arith, rise)
ascends_split low high (x ∷ xs) ys rise = let rest = ascends_split (x + 1) high xs ys rise.1 in (rest.0, (rise.0, rest.1), rest.2)

module _ (image : List ℕ) (t : Shape) (section : Section) where
  pub record HitsSplit (first second : List Hit) (leaves : List ℕ) : Type 0 where
    pub front : List ℕ
    pub back : List ℕ
    pub split : leaves ≡ front ++ back
    pub of_front : AreHits image t section first front
    pub of_back : AreHits image t section second back

  pub hits_split : (first second : List Hit) (leaves : List ℕ) → AreHits image t section (first ++ second) leaves → HitsSplit first second leaves
  hits_split first second leaves are =
      let m = map_split (hit_of t (node_in image) 0) leaves first second are.same in
      record {
        front = m.front;
        back = m.back;
        split = m.split;
        of_front = record { within = are.within; same = m.of_front };
        of_back = record { within = are.within; same = m.of_back };
      }

  pub hits_none : (leaves : List ℕ) → AreHits image t section [] leaves → leaves ≡ []
  hits_none [] are = refl
  hits_none (k ∷ ks) are = let is = are.same in absurd (cc is)

  -- the one leaf of one hit
  pub hits_one : (hit : Hit) (leaves : List ℕ) → AreHits image t section (hit ∷ []) leaves → (k : ℕ) × (leaves ≡ k ∷ []) × (hit ≡ hit_of t (node_in image) 0 k)
  hits_one hit [] are = let is = are.same in absurd (cc is)
  hits_one hit (k ∷ []) are = let is = are.same in (k, refl, cc is)
  hits_one hit (k ∷ (j ∷ ks)) are = absurd (omega (arith, ap length are.same))
