-- What the paths of a buffer weigh: along every path from its root, 4 for each table, the bytes of each string, and the
-- bytes of the elements of each vector. What is itself broken weighs nothing. A small buffer whose tables share their
-- children can have very many paths, so a reader that goes along all of them has to bound their weight.
use Rattle.std.specs.Prelude.{◌≡◌, ◌⊎◌, ℕ, zero, suc, ◌+◌, ◌*◌, ◌<◌, ◌≤◌, ◌&&◌, Bool, List, [], ◌∷◌, length, if◌then◌else◌, Option, Some, None, Result, MatchResult}
use Rattle.std.specs.Str.{is_utf8}
use Rattle.flat_layout.specs.declared.Rule.{Rule}
use Rattle.flat_layout.specs.declared.Rule.TheVariants.{Weight}
use Rattle.flat_layout.specs.declared.Broken.{Broken}
use Rattle.flat_layout.specs.Layout.{is_table, is_vector, is_ended, count, text}
use Rattle.flat_layout.specs.Promises.{IsClean, Names}
use Rattle.fgb_schema.specs.Tables.{table, tables, string, numbers, pairs}
use Rattle.fgb_schema.specs.Paths.{Part, offset, thing, field, below, Breaks}

-- the string at p is sound
abbrev pub is_string : List ℕ → ℕ → Bool
is_string b p = is_vector 1 b p && is_ended b p && is_utf8 (text b p)

-- of a part by itself
unfoldable pub own_weight : List ℕ → Part → ℕ
own_weight b (offset x p) = 0
own_weight b (thing (table name) t) = if is_table b t then 4 else 0
own_weight b (thing (tables name) v) = if is_vector 4 b v then 4 * count b v else 0
own_weight b (thing string p) = if is_string b p then count b p else 0
own_weight b (thing (numbers width) v) = if is_vector width b v then width * count b v else 0
own_weight b (thing (pairs kind) v) = if is_vector 8 b v then 8 * count b v else 0
own_weight b (field x t id) = 0

-- of a text, if there is one: its bytes
abbrev pub text_weight : Option (List ℕ) → ℕ
text_weight None = 0
text_weight (Some text) = length text

-- the sum of f over a list
abbrev pub total : {A : Type 0} → (A → ℕ) → List A → ℕ
total f [] = 0
total f (x ∷ xs) = f x + total f xs

-- along every path of at most so many steps
unfoldable pub weight_within : List ℕ → ℕ → Part → ℕ
weight_within b zero x = 0
weight_within b (suc steps) x = own_weight b x + total (weight_within b steps) (below b x)

-- the paths from a part weigh this: from some number of steps on, longer ones add nothing
abbrev pub Weighs : List ℕ → Part → ℕ → Type 0
Weighs b x w = (enough : ℕ) × ((steps : ℕ) → enough ≤ steps → weight_within b steps x ≡ w)

-- the paths from a part weigh more than this, those of some number of steps already
abbrev pub IsHeavier : List ℕ → Part → ℕ → Type 0
IsHeavier b x limit = (steps : ℕ) × (limit < weight_within b steps x)

-- what a buffer with this root breaks: a rule along its paths, or Weight at its first byte
pub data BreaksBuffer (b : List ℕ) (root : Part) : ℕ → Rule → Type 0 where
  along : {q : ℕ} {r : Rule} → Breaks b root q r → BreaksBuffer b root q r
  too_heavy : IsHeavier b root (4 * length b) → BreaksBuffer b root 0 Weight

-- a meter had so much left before and after the weight of the paths from a part was taken off
pub record IsPaid (b : List ℕ) (x : Part) (before after : ℕ) : Type 0 where
  pub amount : ℕ
  pub weighs : Weighs b x amount
  pub taken : after + amount ≡ before

-- the refusal names Weight at this place, and the paths from a part weigh more than a meter had left
pub record IsOverspent (b : List ℕ) (x : Part) (before at : ℕ) (refusal : Broken) : Type 0 where
  pub heavier : IsHeavier b x before
  pub at_place : refusal.place ≡ at
  pub by_weight : refusal.rule ≡ Weight

-- reading on from a part under a meter, which has this place and had so much left before and after: Ok exactly where
-- nothing is broken from the part on and the meter has its weight; a refusal names what is broken, or Weight
abbrev pub Goes : {T : Type 0} → ℕ → List ℕ → Part → ℕ → ℕ → ℕ → (T → Type 0) → Result T Broken → Type 0
Goes base b x at before after Shows result =
    MatchResult result
    (λ v. Shows v × IsClean (Breaks b x) × IsPaid b x before after)
    (λ e. (Names base (Breaks b x) e ⊎ IsOverspent b x before at e) × (after ≤ before))
