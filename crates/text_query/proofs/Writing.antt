-- What a writer has written of the features that it was handed, and what is left on its page.
use Rattle.std.proofs.Common.{◌≡◌, ◌≤◌, ◌⊎◌, inl, inr, ⊎_elim, ℕ, true, List, [], ◌∷◌, ◌++◌, Option, Some, refl, sym, ap, subst, ◌∙◌, append_assoc, arith}
use Rattle.std.specs.List.{flat_map}
use Rattle.std.proofs.lemmas.Grind.{flat_map-append}
use Rattle.fgb_outside.specs.Source.{Rose}
use Rattle.fgb_outside.proofs.Shown.{rose_since}
use Rattle.fgb_schema.specs.Headers.{Header, header_of}
use Rattle.found_features.specs.Entries.{Entry}
use Rattle.found_features.specs.Visits.{HeaderBytes, Takes, TakesPart, some, some_and_failed, Begins, Visits, untouched, no_start, begun}
use Rattle.text_query.specs.declared.output.Output.{Output}
use Rattle.text_query.specs.declared.output.Output.TheVariants.{Lines, Fgb, Wkb}
use Rattle.text_query.specs.Texts.{front, piece, text, IsTooWide}
use Rattle.text_query.specs.Pages.{Adds, AddsPart}
use Rattle.text_query.specs.Steps.{told_of, piece_under, State, Starts, FailsStart, Stays, Writes, WritesPart, Steps, FailsStep}
use Rattle.text_query.proofs.Pages.{adds_nothing, adds_adds, adds_then_part, part_of_adds, part_more}

-- ## The pieces of some features

abbrev pub pieces : Output → Option Header → List Entry → List ℕ
pieces output told entries = flat_map (piece_under output told) entries

pieces-append : (output : Output) (told : Option Header) (xs ys : List Entry) → pieces output told (xs ++ ys) ≡ pieces output told xs ++ pieces output told ys
pieces-append output told xs ys = flat_map-append (piece_under output told) xs ys

-- behind what stands in front of them they are the text
pub text_is : (output : Output) (h : Header) (entries : List Entry) → front output h ++ pieces output (told_of output (Some h)) entries ≡ text output h entries
unfolding text
text_is Lines h entries = refl
text_is Fgb h entries = refl
text_is Wkb h entries = refl

pub text-append : (output : Output) (h : Header) (xs ys : List Entry) → text output h (xs ++ ys) ≡ text output h xs ++ flat_map (piece output h) ys
unfolding text
text-append output h xs ys =
    ap (λ zs. front output h ++ zs) (flat_map-append (piece output h) xs ys)
    ∙ sym (append_assoc (front output h) (flat_map (piece output h) xs) (flat_map (piece output h) ys))

-- a header is too wide in front of a file alone
pub wide_file : (output : Output) (h : Header) → IsTooWide output h → output ≡ Fgb
wide_file Lines h wide = absurd wide
wide_file Fgb h wide = refl
wide_file Wkb h wide = absurd wide

-- ## What is written one after another

stays_stays : (a b c : State) → Stays a b → Stays b c → Stays a c
stays_stays a b c p q = record { output = q.output ∙ p.output; told = q.told ∙ p.told; wide = q.wide ∙ p.wide }

pub writes_nothing : (a : State) → Writes a a []
writes_nothing a = record { stays = record { output = refl; told = refl; wide = refl }; stops = refl; adds = adds_nothing a.sink a.page }

pub writes_writes : (a b c : State) (xs ys : List ℕ) → Writes a b xs → Writes b c ys → Writes a c (xs ++ ys)
writes_writes a b c xs ys p q = record {
  stays = stays_stays a b c p.stays q.stays;
  stops = q.stops ∙ p.stops;
  adds = adds_adds a.sink b.sink c.sink a.page b.page c.page xs ys p.adds q.adds;
}

writes_then_part : (a b c : State) (xs ys : List ℕ) → Writes a b xs → WritesPart b c ys → WritesPart a c (xs ++ ys)
writes_then_part a b c xs ys p q = record {
  stays = stays_stays a b c p.stays q.stays;
  stops = ⊎_elim (λ same. inl (same ∙ p.stops)) (λ rose. inr (rose_since a.sink.faults b.sink.faults c.sink.faults p.adds.later rose)) q.stops;
  adds = adds_then_part a.sink b.sink c.sink a.page b.page c.page xs ys p.adds q.adds;
}

part_of_writes : (a b : State) (xs more : List ℕ) → Writes a b xs → WritesPart a b (xs ++ more)
part_of_writes a b xs more p = record { stays = p.stays; stops = inl p.stops; adds = part_of_adds a.sink b.sink a.page b.page xs more p.adds }

part_longer : (a b : State) (xs more : List ℕ) → WritesPart a b xs → WritesPart a b (xs ++ more)
part_longer a b xs more p = record { stays = p.stays; stops = p.stops; adds = part_more a.sink b.sink a.page b.page xs more p.adds }

-- ## Visitors with these relations: which reference it writes through, and its state

module _ {V N : Type 0} (name : V → N) (state : V → State) where
  abbrev pub Start : V → Header → V → Type 0
  Start v header w = (name w ≡ name v) × Starts (state v) header (state w)

  abbrev pub FailStart : V → HeaderBytes → V → Type 0
  FailStart v header w = (name w ≡ name v) × FailsStart (state v) (header_of header.bytes) (state w)

  abbrev pub Step : V → Entry → V → Type 0
  Step v e w = (name w ≡ name v) × Steps (state v) e (state w)

  abbrev pub FailStep : V → Entry → V → Type 0
  FailStep v e w = (name w ≡ name v) × FailsStep (state v) e (state w)

  -- the pieces of some features, as a visitor writes them
  abbrev pub written_by : V → List Entry → List ℕ
  written_by v es = pieces (state v).output (state v).told es

  -- what it writes is the same later
  same_pieces : (v u : V) (es : List Entry) → Stays (state v) (state u) → written_by u es ≡ written_by v es
  same_pieces v u es stays = ap (λ o. pieces o (state u).told es) stays.output ∙ ap (λ t. pieces (state v).output t es) stays.told

  same_piece : (v u : V) (e : Entry) → Stays (state v) (state u) → piece_under (state u).output (state u).told e ≡ piece_under (state v).output (state v).told e
  same_piece v u e stays = ap (λ o. piece_under o (state u).told e) stays.output ∙ ap (λ t. piece_under (state v).output t e) stays.told

  takes_write : (v w : V) (es : List Entry) → Takes Step v es w → (name w ≡ name v) × Writes (state v) (state w) (written_by v es)
  takes_write v w [] same = subst (λ x. (name x ≡ name v) × Writes (state v) (state x) []) same (refl, writes_nothing (state v))
  takes_write v w (e ∷ es) takes =
      let u = takes.0 in
      let rest = takes_write u w es takes.2 in (
        rest.0 ∙ takes.1.0,
        writes_writes (state v) (state u) (state w) (piece_under (state v).output (state v).told e) (written_by v es) takes.1.1
            (subst (Writes (state u) (state w)) (same_pieces v u es takes.1.1.stays) rest.1),
      )

  -- some features of those that are due, and maybe a front of the piece of the next
  part_write : (v w : V) (due : List Entry) → TakesPart Step FailStep v due w → (name w ≡ name v) × WritesPart (state v) (state w) (written_by v due)
  part_write v w due (some taken rest all takes) =
      let took = takes_write v w taken takes in (
        took.0,
        subst (WritesPart (state v) (state w)) (sym (pieces-append (state v).output (state v).told taken rest) ∙ ap (written_by v) all)
            (part_of_writes (state v) (state w) (written_by v taken) (written_by v rest) took.1),
      )
  part_write v w due (some_and_failed taken rest e u all takes failed) =
      let took = takes_write v u taken takes in
      let one : List ℕ = piece_under (state v).output (state v).told e in
      let failing : WritesPart (state u) (state w) one = subst (WritesPart (state u) (state w)) (same_piece v u e took.1.stays) failed.1 in (
        failed.0 ∙ took.0,
        subst (WritesPart (state v) (state w)) (sym (pieces-append (state v).output (state v).told taken (e ∷ rest)) ∙ ap (written_by v) all)
            (writes_then_part (state v) (state u) (state w) (written_by v taken) (one ++ written_by v rest) took.1
            (part_longer (state u) (state w) one (written_by v rest) failing)),
      )

  -- ## One that begins with an empty page

  module _ (v u w : V) (header : Header) (es : List Entry) (empty : (state v).page ≡ []) (starts : Starts (state v) header (state u)) where
    -- what stands in front, and then the pieces, are the text
    whole : (xs : List ℕ) → xs ≡ (state u).page ++ written_by u es → xs ≡ text (state v).output header es
    whole xs is =
        is ∙ ap (λ p. p ++ written_by u es) (starts.page empty)
        ∙ ap (λ o. front (state v).output header ++ pieces o (state u).told es) starts.output
        ∙ ap (λ t. front (state v).output header ++ pieces (state v).output t es) starts.told
        ∙ text_is (state v).output header es

    all_begun : Adds (state u).sink (state w).sink (state u).page (state w).page (written_by u es) → Adds (state v).sink (state w).sink [] (state w).page (text (state v).output header es)
    all_begun adds = subst (λ o. Adds o (state w).sink [] (state w).page (text (state v).output header es)) starts.sink
        (record { written = adds.written; appends = adds.appends; whole = whole _ adds.whole; later = adds.later })

    some_begun : AddsPart (state u).sink (state w).sink (state u).page (state w).page (written_by u es) → AddsPart (state v).sink (state w).sink [] (state w).page (text (state v).output header es)
    some_begun adds = subst (λ o. AddsPart o (state w).sink [] (state w).page (text (state v).output header es)) starts.sink
        (record { written = adds.written; rest = adds.rest; appends = adds.appends; front = whole _ adds.front; later = adds.later })

  module _ (v w : V) (header : Header) (es : List Entry) (empty : (state v).page ≡ []) where
    pub adds_all : Begins Start v header (λ u. Takes Step u es w) → Adds (state v).sink (state w).sink [] (state w).page (text (state v).output header es)
    adds_all begins = all_begun v begins.begun w header es empty begins.starts.1 (takes_write begins.begun w es begins.on).1.adds

    pub adds_some : Begins Start v header (λ u. TakesPart Step FailStep u es w) → AddsPart (state v).sink (state w).sink [] (state w).page (text (state v).output header es)
    adds_some begins = some_begun v begins.begun w header es empty begins.starts.1 (part_write begins.begun w es begins.on).1.adds

  -- ## Whatever it was handed

  module _ (v w : V) (header : Header) where
    -- where it began the header is not too wide, and what it says of that stays
    pub begun_fits : {P : V → Type 0} → Begins Start v header P → IsTooWide (state v).output header → ⊥
    begun_fits begins wide = begins.starts.1.fits wide

    pub all_narrow : (es : List Entry) → Begins Start v header (λ u. Takes Step u es w) → (state w).wide ≡ (state v).wide
    all_narrow es begins = (takes_write begins.begun w es begins.on).1.stays.wide ∙ begins.starts.1.wide

    pub some_narrow : (es : List Entry) → Begins Start v header (λ u. TakesPart Step FailStep u es w) → (state w).wide ≡ (state v).wide
    some_narrow es begins = (part_write begins.begun w es begins.on).1.stays.wide ∙ begins.starts.1.wide

  -- it writes through the same reference
  pub visits_same : (v w : V) → Visits Start FailStart Step FailStep v w → name w ≡ name v
  visits_same v w (untouched same) = ap name same
  visits_same v w (no_start fails) = fails.0
  visits_same v w (begun begins) = (part_write begins.begun w begins.on.0 begins.on.1).0 ∙ begins.starts.0

  -- the sink has not fewer faults
  pub visits_later : (v w : V) → Visits Start FailStart Step FailStep v w → (state v).sink.faults ≤ (state w).sink.faults
  visits_later v w (untouched same) = let e : (state w).sink.faults ≡ (state v).sink.faults = ap (λ x. (state x).sink.faults) same in omega arith
  visits_later v w (no_start fails) = let e : (state w).sink.faults ≡ (state v).sink.faults = ap (λ s. s.faults) fails.1.sink in omega arith
  visits_later v w (begun begins) =
      let e : (state begins.begun).sink.faults ≡ (state v).sink.faults = ap (λ s. s.faults) begins.starts.1.sink in
      let later = (part_write begins.begun w begins.on.0 begins.on.1).1.adds.later in
      omega (arith, e, later)

  -- it has stopped since a header is too wide, or since the sink failed
  pub visits_stopped : (v w : V) → Visits Start FailStart Step FailStep v w → ((state w).stops ≡ (state v).stops → ⊥) → ((state w).wide ≡ true) ⊎ Rose (state v).sink.faults (state w).sink.faults
  visits_stopped v w (untouched same) stopped = absurd (stopped (ap (λ x. (state x).stops) same))
  visits_stopped v w (no_start fails) stopped = ⊎_elim (λ same. absurd (stopped same.1)) (λ wide. inl wide.0) fails.1.reason
  visits_stopped v w (begun begins) stopped =
      ⊎_elim (λ same. absurd (stopped (same ∙ begins.starts.1.stops)))
      (λ rose. inr (subst (λ o. Rose o.faults (state w).sink.faults) begins.starts.1.sink rose))
      (part_write begins.begun w begins.on.0 begins.on.1).1.stops

  -- it says that a header is too wide only of a file
  pub visits_wide : (v w : V) → Visits Start FailStart Step FailStep v w → ((state w).wide ≡ (state v).wide → ⊥) → (state v).output ≡ Fgb
  visits_wide v w (untouched same) other = absurd (other (ap (λ x. (state x).wide) same))
  visits_wide v w (no_start {header = header} fails) other = ⊎_elim (λ same. absurd (other same.0)) (λ wide. wide_file (state v).output (header_of header.bytes) wide.1) fails.1.reason
  visits_wide v w (begun {header = header} begins) other = absurd (other (some_narrow v w header begins.on.0 (record { begun = begins.begun; starts = begins.starts; on = begins.on.1 })))
