-- A bad reply is bad in one way.
use Rattle.std.proofs.Common.{◌≡◌, ℕ, ◌<◌, ◌≤◌, false, true, List, [], ◌++◌, length, refl, sym, ap, subst, ◌∙◌, arith, append-nil, length-append, inl, inr}
use Rattle.std.specs.Prelude.{◌⊎◌}
use Rattle.std.proofs.lemmas.Bool.{false≢true}
use Rattle.httparse.specs.Grammar.{ResponseHead}
use Rattle.response_head.specs.Responses.{IsResponse, ResponseParts, parts_of}
use Rattle.response_head.proofs.Responding.{one_response}
use Rattle.range_client.specs.declared.demands.Demand.{Demand}
use Rattle.range_client.specs.declared.faults.BadKind.{BadKind}
use Rattle.range_client.specs.declared.faults.BadKind.TheVariants.{Ended, Head, Status, ContentRange, Length}
use Rattle.range_client.specs.declared.judge.Told.{Told}
use Rattle.range_client.specs.Judged.{IsGood, IsWrong, Lacks}
use Rattle.range_client.specs.Replies.{BeginsWith, IsBad, IsEndless}
use Rattle.range_client.proofs.Honest.{endless_short, one_head}
use Rattle.range_client.proofs.Judging.{wanted_lacks}

-- of a response

lacks_one : (demand : Demand) (response : ResponseParts) (a b : BadKind) → Lacks demand response a → Lacks demand response b → a ≡ b
lacks_one demand response Ended b x y = absurd x
lacks_one demand response Head b x y = absurd x
lacks_one demand response Status Ended x y = absurd y
lacks_one demand response Status Head x y = absurd y
lacks_one demand response Status Status x y = refl
lacks_one demand response Status ContentRange x y = absurd (false≢true (sym x ∙ y.0))
lacks_one demand response Status Length x y = absurd (false≢true (sym x ∙ y.0))
lacks_one demand response ContentRange Ended x y = absurd y
lacks_one demand response ContentRange Head x y = absurd y
lacks_one demand response ContentRange Status x y = absurd (false≢true (sym y ∙ x.0))
lacks_one demand response ContentRange ContentRange x y = refl
lacks_one demand response ContentRange Length x y = absurd (x.1 y.1.0 y.1.1)
lacks_one demand response Length Ended x y = absurd y
lacks_one demand response Length Head x y = absurd y
lacks_one demand response Length Status x y = absurd (false≢true (sym y ∙ x.0))
lacks_one demand response Length ContentRange x y = absurd (y.1 x.1.0 x.1.1)
lacks_one demand response Length Length x y = refl

-- of the bytes of a head: they are none, or that of a response that lacks something

record IsLacking (demand : Demand) (head : List ℕ) (kind : BadKind) : Type 0 where
  tree : ResponseHead
  reads : IsResponse head tree
  lacks : Lacks demand (parts_of tree) kind

abbrev Faulty : Demand → List ℕ → BadKind → Type 0
Faulty demand head kind = ((kind ≡ Head) × ((tree : ResponseHead) → ¬ IsResponse head tree)) ⊎ IsLacking demand head kind

faulty : (demand : Demand) (head : List ℕ) (kind : BadKind) → IsWrong demand head kind → Faulty demand head kind
faulty demand head Ended w = inr (record { tree = w.0; reads = w.1; lacks = w.2 })
faulty demand head Head w = inl (refl, w)
faulty demand head Status w = inr (record { tree = w.0; reads = w.1; lacks = w.2 })
faulty demand head ContentRange w = inr (record { tree = w.0; reads = w.1; lacks = w.2 })
faulty demand head Length w = inr (record { tree = w.0; reads = w.1; lacks = w.2 })

faulty_one : (demand : Demand) (head : List ℕ) (a b : BadKind) → Faulty demand head a → Faulty demand head b → a ≡ b
faulty_one demand head a b (inl x) (inl y) = x.0 ∙ sym y.0
faulty_one demand head a b (inl x) (inr y) = absurd (x.1 y.tree y.reads)
faulty_one demand head a b (inr x) (inl y) = absurd (y.1 x.tree x.reads)
faulty_one demand head a b (inr x) (inr y) =
    let same : y.tree ≡ x.tree = one_response head y.tree x.tree y.reads x.reads in
    lacks_one demand (parts_of x.tree) a b x.lacks (subst (λ (t : ResponseHead). Lacks demand (parts_of t) b) same y.lacks)

good_faulty : (demand : Demand) (head : List ℕ) (told : Told) (kind : BadKind) → IsGood demand head told → Faulty demand head kind → ⊥
good_faulty demand head told kind good (inl w) = w.1 good.tree good.reads
good_faulty demand head told kind good (inr w) =
    let same : w.tree ≡ good.tree = one_response head w.tree good.tree w.reads good.reads in
    wanted_lacks demand (parts_of good.tree) told kind good.wanted (subst (λ (t : ResponseHead). Lacks demand (parts_of t) kind) same w.lacks)

-- of received bytes: they have no head, or one that is wanted or faulty

abbrev Headless : List ℕ → BadKind → Type 0
Headless bytes kind = IsEndless bytes × (((kind ≡ Ended) × (length bytes < 8192)) ⊎ ((kind ≡ Head) × (length bytes ≡ 8192)))

record IsHeaded (demand : Demand) (bytes : List ℕ) (kind : BadKind) : Type 0 where
  head : List ℕ
  begins : BeginsWith bytes head
  state : ((kind ≡ Ended) × (told : Told) × IsGood demand head told) ⊎ Faulty demand head kind

abbrev Seen : Demand → List ℕ → BadKind → Type 0
Seen demand bytes kind = Headless bytes kind ⊎ IsHeaded demand bytes kind

seen : (demand : Demand) (bytes kept : List ℕ) (kind : BadKind) → IsBad demand bytes kept kind → Seen demand bytes kind
seen demand bytes kept Ended (inl b) =
    inl (subst IsEndless (sym b.0) b.1, inl (refl, subst (λ (l : List ℕ). length l < 8192) (sym b.0) b.2))
seen demand bytes kept Ended (inr b) = inr (record { head = kept; begins = b.0; state = inl (refl, b.1, b.2) })
seen demand bytes kept Head (inl b) =
    inl (subst IsEndless (sym b.0) b.1, inr (refl, ap length b.0 ∙ b.2))
seen demand bytes kept Head (inr b) = inr (record { head = kept; begins = b.0; state = inr (faulty demand kept Head b.1) })
seen demand bytes kept Status b = inr (record { head = kept; begins = b.0; state = inr (faulty demand kept Status b.1) })
seen demand bytes kept ContentRange b = inr (record { head = kept; begins = b.0; state = inr (faulty demand kept ContentRange b.1) })
seen demand bytes kept Length b = inr (record { head = kept; begins = b.0; state = inr (faulty demand kept Length b.1) })

no_head : (bytes head : List ℕ) → IsEndless bytes → BeginsWith bytes head → ⊥
no_head bytes head endless begins =
    let less = endless_short bytes head [] begins.0 (append-nil bytes ∙ begins.1) endless begins.2 in
    let sum : length bytes ≡ length (head ++ begins.0) = ap length begins.1 in
    omega (arith, length-append {A = ℕ}, sum, less)

headed_one : (demand : Demand) (bytes : List ℕ) (a b : BadKind) (x : IsHeaded demand bytes a) (y : IsHeaded demand bytes b) → a ≡ b
headed_one demand bytes a b x y =
    let same = one_head y.head x.head y.begins.0 x.begins.0 (sym y.begins.1 ∙ x.begins.1) y.begins.2 x.begins.2 in
    states x.state (subst (λ (h : List ℕ). ((b ≡ Ended) × (told : Told) × IsGood demand h told) ⊎ Faulty demand h b) same.0 y.state)
  where
    states : ((a ≡ Ended) × (told : Told) × IsGood demand x.head told) ⊎ Faulty demand x.head a
        → ((b ≡ Ended) × (told : Told) × IsGood demand x.head told) ⊎ Faulty demand x.head b → a ≡ b
    states (inl p) (inl q) = p.0 ∙ sym q.0
    states (inl p) (inr q) = absurd (good_faulty demand x.head p.1 b p.2 q)
    states (inr p) (inl q) = absurd (good_faulty demand x.head q.1 a q.2 p)
    states (inr p) (inr q) = faulty_one demand x.head a b p q

headless_one : (bytes : List ℕ) (a b : BadKind) → Headless bytes a → Headless bytes b → a ≡ b
headless_one bytes a b x y = lengths x.1 y.1
  where
    lengths : ((a ≡ Ended) × (length bytes < 8192)) ⊎ ((a ≡ Head) × (length bytes ≡ 8192)) → ((b ≡ Ended) × (length bytes < 8192)) ⊎ ((b ≡ Head) × (length bytes ≡ 8192)) → a ≡ b
    lengths (inl p) (inl q) = p.0 ∙ sym q.0
    lengths (inl p) (inr q) = absurd (omega (arith, p.1, q.1))
    lengths (inr p) (inl q) = absurd (omega (arith, p.1, q.1))
    lengths (inr p) (inr q) = p.0 ∙ sym q.0

seen_one : (demand : Demand) (bytes : List ℕ) (a b : BadKind) → Seen demand bytes a → Seen demand bytes b → a ≡ b
seen_one demand bytes a b (inl x) (inl y) = headless_one bytes a b x y
seen_one demand bytes a b (inl x) (inr y) = absurd (no_head bytes y.head x.0 y.begins)
seen_one demand bytes a b (inr x) (inl y) = absurd (no_head bytes x.head y.0 x.begins)
seen_one demand bytes a b (inr x) (inr y) = headed_one demand bytes a b x y

pub one_kind : (demand : Demand) (bytes kept other : List ℕ) (a b : BadKind) → IsBad demand bytes kept a → IsBad demand bytes other b → a ≡ b
one_kind demand bytes kept other a b first second = seen_one demand bytes a b (seen demand bytes kept a first) (seen demand bytes other b second)
