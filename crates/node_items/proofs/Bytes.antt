-- A node's numbers in its bytes, and its bytes from its numbers.
use Rattle.std.proofs.Common.{◌≡◌, ℕ, ◌+◌, ◌-◌, ◌^◌, ◌<◌, ◌≤◌, List, [], ◌++◌, length, take, drop, get_or, sym, ap, ◌∙◌, arith, inl, inr, length-take, length-drop}
use Rattle.std.proofs.lemmas.Bool.{cases_lt}
use Rattle.std.proofs.lemmas.List.{drop-take, get_or-drop, get_or-take, get_or_past, take_all, take_rest}
use Rattle.std.proofs.lemmas.Nat.{le_bytes_8}
use Rattle.std.proofs.Math.Seq.{take-add}
use Rattle.std.specs.Int.{w64, from_le_bytes}
use Rattle.byteorder.specs.Endian.{little_number, little_bytes}
use Rattle.byteorder.specs.Numbers.{little_from-take, little_number-reads_back}
use Rattle.flat_layout.specs.Layout.{number_at}
use Rattle.node_items.specs.declared.item.NodeItem.{NodeItem}
use Rattle.node_items.specs.Nodes.{node_of, bytes_of}

-- the number in front of what is left of the bytes from a place on
pub number_at-rest : (p : ℕ) (b : List ℕ) → little_number 8 (take (length b - p) (drop p b)) ≡ number_at 8 b p
unfolding number_at
number_at-rest p b = ap (little_number 8) (take_rest b p)

-- a number is the same in a front of the bytes that has it
number_at-take : (p k : ℕ) (b : List ℕ) → 8 ≤ k → number_at 8 (take (p + k) b) p ≡ number_at 8 b p
unfolding number_at
number_at-take p k b fits =
    ap (little_number 8) (drop-take p k b) ∙ little_from-take 0 8 k (drop p b) (omega arith)

-- a node by its five numbers
abbrev node : ℕ → ℕ → ℕ → ℕ → ℕ → NodeItem
node a b c d e = record {
  bounds = record { min_x = record { 0 = a }; min_y = record { 0 = b }; max_x = record { 0 = c }; max_y = record { 0 = d } };
  offset = e;
}

nodes_are_same : (a b c d e v w x y z : ℕ) → a ≡ v → b ≡ w → c ≡ x → d ≡ y → e ≡ z → node a b c d e ≡ node v w x y z
nodes_are_same a b c d e v w x y z p q r s t = cc

-- a node reads no byte past its 40
pub node_of-take : (b : List ℕ) → node_of (take 40 b) ≡ node_of b
node_of-take b =
    nodes_are_same _ _ _ _ _ _ _ _ _ _ (number_at-take 0 40 b (omega arith)) (number_at-take 8 32 b (omega arith))
    (number_at-take 16 24 b (omega arith)) (number_at-take 24 16 b (omega arith)) (number_at-take 32 8 b (omega arith))

-- the node in front of what is left of the bytes from a place on
pub node_of-rest : (b : List ℕ) (a c d e f : ℕ) → a ≡ little_number 8 b → c ≡ little_number 8 (take (length b - 8) (drop 8 b))
    → d ≡ little_number 8 (take (length b - 16) (drop 16 b)) → e ≡ little_number 8 (take (length b - 24) (drop 24 b))
    → f ≡ little_number 8 (take (length b - 32) (drop 32 b)) → node a c d e f ≡ node_of b
unfolding number_at
node_of-rest b a c d e f p q r s t =
    nodes_are_same _ _ _ _ _ _ _ _ _ _ p (q ∙ number_at-rest 8 b) (r ∙ number_at-rest 16 b) (s ∙ number_at-rest 24 b) (t ∙ number_at-rest 32 b)

-- a pattern fits 8 bytes
pub record IsPatterned (v : NodeItem) : Type 0 where
  pub min_x : v.bounds.min_x.0 < 256 ^ 8
  pub min_y : v.bounds.min_y.0 < 256 ^ 8
  pub max_x : v.bounds.max_x.0 < 256 ^ 8
  pub max_y : v.bounds.max_y.0 < 256 ^ 8
  pub offset : v.offset < 256 ^ 8

-- what is read of what was written
pub node_of-bytes_of : (v : NodeItem) → IsPatterned v → node_of (bytes_of v) ≡ v
unfolding number_at
node_of-bytes_of v fits =
    nodes_are_same _ _ _ _ _ _ _ _ _ _ (little_number-reads_back 8 v.bounds.min_x.0 [] fits.min_x) (little_number-reads_back 8 v.bounds.min_y.0 [] fits.min_y)
    (little_number-reads_back 8 v.bounds.max_x.0 [] fits.max_x) (little_number-reads_back 8 v.bounds.max_y.0 [] fits.max_y) (little_number-reads_back 8 v.offset [] fits.offset)

-- eight bytes from a place on are those of the number there
small_part : (p : ℕ) (b : List ℕ) → ((i : ℕ) → get_or b i 0 < 256) → (i : ℕ) → get_or (take 8 (drop p b)) i 0 < 256
small_part p b small i = elim (cases_lt i 8) [
  | inl below ↦ omega (arith, get_or-take 8 (drop p b) i 0 below, get_or-drop p b i 0, small (p + i))
  | inr past ↦ omega (arith, get_or_past (take 8 (drop p b)) i 0 (omega (arith, length-take 8 (drop p b))))
]

little_8 : (xs : List ℕ) → little_number 8 xs ≡ from_le_bytes w64 xs
little_8 xs = omega arith

bytes_at : (p : ℕ) (b : List ℕ) → p + 8 ≤ length b → ((i : ℕ) → get_or b i 0 < 256) → little_bytes 8 (number_at 8 b p) ≡ take 8 (drop p b)
unfolding number_at
bytes_at p b fits small =
    le_bytes_8 (take 8 (drop p b)) (number_at 8 b p) (omega (arith, length-take 8 (drop p b), length-drop p b)) (small_part p b small)
    (sym (little_from-take 0 8 8 (drop p b) (omega arith)) ∙ little_8 (take 8 (drop p b)))

more_bytes : (p : ℕ) (xs b : List ℕ) → p + 8 ≤ length b → ((i : ℕ) → get_or b i 0 < 256) → xs ≡ take p b → xs ++ little_bytes 8 (number_at 8 b p) ≡ take (p + 8) b
more_bytes p xs b fits small before =
    ap (λ front. front ++ little_bytes 8 (number_at 8 b p)) before
    ∙ ap (λ more. take p b ++ more) (bytes_at p b fits small)
    ∙ sym (take-add p 8 b)

-- what is written of what was read
pub bytes_of-node_of : (b : List ℕ) → length b ≡ 40 → ((i : ℕ) → get_or b i 0 < 256) → bytes_of (node_of b) ≡ b
bytes_of-node_of b len small =
    more_bytes 32 _ b (omega arith) small (more_bytes 24 _ b (omega arith) small (more_bytes 16 _ b (omega arith) small (more_bytes 8 _ b (omega arith) small (bytes_at 0 b (omega arith) small)))) ∙ take_all 40 b (omega arith)
