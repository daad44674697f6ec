-- What is judged of a head is settled by its bytes.
use Rattle.std.proofs.Common.{◌≡◌, ℕ, Bool, true, false, List, refl, sym, ap, subst, ◌∙◌, Some}
use Rattle.std.specs.Prelude.{◌==◌, if◌then◌else◌}
use Rattle.std.proofs.lemmas.Bool.{false≢true}
use Rattle.httparse.specs.Grammar.{ResponseHead}
use Rattle.range_text.specs.declared.answers.ContentRange.{ContentRange as Content}
use Rattle.range_text.specs.declared.answers.ContentRange.TheVariants as content
use Rattle.range_text.proofs.Forms.{content_found}
use Rattle.range_text.specs.Reading.{content_of}
use Rattle.response_head.specs.Responses.{IsResponse, ResponseParts, parts_of}
use Rattle.response_head.proofs.Responding.{one_response}
use Rattle.range_client.specs.declared.demands.Demand.{Demand}
use Rattle.range_client.specs.declared.demands.Demand.TheVariants.{FirstByte, Part}
use Rattle.range_client.specs.declared.faults.BadKind.{BadKind}
use Rattle.range_client.specs.declared.faults.BadKind.TheVariants.{Ended, Head, Status, ContentRange, Length}
use Rattle.range_client.specs.declared.judge.Told.{Told}
use Rattle.range_client.specs.Demands.{range_wanted, size_in}
use Rattle.range_client.specs.Judged.{IsGood, IsWanted, IsWrong, Lacks, TellsRange, tells_length}

-- a response tells one range
pub one_range : (response : ResponseParts) (a b : Content) → TellsRange response a → TellsRange response b → a ≡ b
one_range response a b first second =
    let found = content_found first.value a first.spells in
    let other = content_found second.value b second.spells in
    let same : Some first.value ≡ Some second.value = sym first.only ∙ second.only in
    let values : first.value ≡ second.value = cc in
    let both : Some a ≡ Some b = sym found ∙ ap content_of values ∙ other in
    cc

-- the size that is told is the one of which it is wanted
pub size_back : (demand : Demand) (status : ℕ) (told : Content) (size : ℕ) → told ≡ range_wanted demand status size → size_in told ≡ size
size_back FirstByte status told size e = ap size_in e ∙ by_status (status == 206)
  where
    by_status : (v : Bool) → size_in (if v then content.Part 0 0 size else content.Unsatisfied size) ≡ size
    by_status true = refl
    by_status false = refl
size_back (Part first last known) status told size e = ap size_in e

same_size : (demand : Demand) (status a b : ℕ) → range_wanted demand status a ≡ range_wanted demand status b → a ≡ b
same_size demand status a b e = sym (size_back demand status (range_wanted demand status a) a refl) ∙ size_back demand status (range_wanted demand status a) b e

-- a wanted response tells one size and one length
pub one_told : (demand : Demand) (response : ResponseParts) (a b : Told) → IsWanted demand response a → IsWanted demand response b
    → (a.size ≡ b.size) × (a.count ≡ b.count)
one_told demand response a b first second = (
  same_size demand response.status a.size b.size (one_range response _ _ first.range.0 second.range.0),
  first.count ∙ sym second.count,
)

-- it lacks nothing
pub wanted_lacks : (demand : Demand) (response : ResponseParts) (told : Told) (kind : BadKind) → IsWanted demand response told → Lacks demand response kind → ⊥
wanted_lacks demand response told Ended wanted lacks = lacks
wanted_lacks demand response told Head wanted lacks = lacks
wanted_lacks demand response told Status wanted lacks = false≢true (sym lacks ∙ wanted.status)
wanted_lacks demand response told ContentRange wanted lacks = lacks.1 told.size wanted.range
wanted_lacks demand response told Length wanted lacks =
    false≢true (sym lacks.2 ∙ ap (tells_length response) (sym wanted.count) ∙ wanted.length_is)

-- the same of the bytes of a head
pub one_good : (demand : Demand) (head : List ℕ) (a b : Told) → IsGood demand head a → IsGood demand head b → (a.size ≡ b.size) × (a.count ≡ b.count)
one_good demand head a b first second =
    let same : second.tree ≡ first.tree = one_response head second.tree first.tree second.reads first.reads in
    one_told demand (parts_of first.tree) a b first.wanted (subst (λ (t : ResponseHead). IsWanted demand (parts_of t) b) same second.wanted)

pub good_wrong : (demand : Demand) (head : List ℕ) (told : Told) (kind : BadKind) → IsGood demand head told → IsWrong demand head kind → ⊥
good_wrong demand head told kind good wrong = by_kind kind wrong
  where
    lacks_at : (k : BadKind) (tree : ResponseHead) → IsResponse head tree → Lacks demand (parts_of tree) k → ⊥
    lacks_at k tree reads lacks =
        let same : tree ≡ good.tree = one_response head tree good.tree reads good.reads in
        wanted_lacks demand (parts_of good.tree) told k good.wanted (subst (λ (t : ResponseHead). Lacks demand (parts_of t) k) same lacks)

    by_kind : (k : BadKind) → IsWrong demand head k → ⊥
    by_kind Ended w = lacks_at Ended w.0 w.1 w.2
    by_kind Head w = w good.tree good.reads
    by_kind Status w = lacks_at Status w.0 w.1 w.2
    by_kind ContentRange w = lacks_at ContentRange w.0 w.1 w.2
    by_kind Length w = lacks_at Length w.0 w.1 w.2
