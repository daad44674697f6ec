-- Where a head ends in bytes that come piece by piece.
use Rattle.std.proofs.Common.{◌≡◌, ℕ, ◌+◌, ◌-◌, ◌<◌, ◌≤◌, List, [], ◌++◌, length, take, drop, sym, ap, subst, ◌∙◌, arith, false, min, ⊎_elim}
use Rattle.std.specs.Prelude.{nat_eq, slice_range}
use Rattle.std.specs.List.{ends_with}
use Rattle.std.proofs.Math.Seq.{take-add}
use Rattle.std.proofs.lemmas.Bool.{cases_lt}
use Rattle.std.proofs.lemmas.List.{length-take, length-take-le, take-take}
use Rattle.request_head.specs.Requests.{empty_line}
use Rattle.byte_links.specs.Link.{LinkState}
use Rattle.range_client.specs.declared.faults.BadKind.TheVariants.{Ended, Head, Status, ContentRange, Length}
use Rattle.range_client.specs.declared.faults.Fault.{Fault}
use Rattle.range_client.specs.declared.faults.Fault.TheVariants.{Memory, LinkFailed, Bad}
use Rattle.range_client.specs.Replies.{IsEndless, IsHead}
use Rattle.range_client.specs.Fronts.{Begun, EndsFirst, Fronted, Halted, HeadCame, HeadStopped, IsEndlessBetween}
use Rattle.range_client.specs.Steps.{Stops, Takes}
use Rattle.range_client.proofs.Taking.{takes_nothing, takes_takes, takes_then_stops}

-- n bytes, and those from there to m
pub take_slice : (xs : List ℕ) (n m : ℕ) → n ≤ m → take n xs ++ slice_range xs n m ≡ take m xs
take_slice xs n m order =
    let e : n + (m - n) ≡ m = omega arith in
    sym (take-add n (m - n) xs) ∙ ap (λ k. take k xs) e

pub slice_nothing : (xs : List ℕ) (n : ℕ) → slice_range xs n n ≡ []
slice_nothing xs n = let e : n - n ≡ 0 = omega arith in ap (λ k. take k (drop n xs)) e

-- whether n bytes at the front end in an empty line
abbrev ends_at : List ℕ → ℕ → Type 0
ends_at bytes n = ends_with nat_eq (take n bytes) empty_line ≡ false

-- a front of a front has no end where the longer one has none there
shorter : (whole : List ℕ) (n from : ℕ) → n ≤ from → from ≤ length whole → IsEndless (take from whole) → ends_at whole n
shorter whole n from order inside before =
    ap (λ t. ends_with nat_eq t empty_line) (sym (take-take n from whole order)) ∙ before n (omega (arith, length-take-le from whole inside))

pub nothing_endless : (bytes : List ℕ) → IsEndless (take 0 bytes)
nothing_endless bytes n inside = let none : n ≡ 0 = omega arith in ap (λ k. ends_with nat_eq (take k []) empty_line) none

-- no end before this place, and none behind it
pub endless_longer : (whole : List ℕ) (from : ℕ) → from ≤ length whole → IsEndless (take from whole) → IsEndlessBetween whole from (length whole + 1)
    → IsEndless whole
endless_longer whole from inside before behind n within =
    ⊎_elim (λ (more : from < n). behind n more (omega arith)) (λ (less : n ≤ from). shorter whole n from less inside before) (cases_lt from n)

-- none before this place, and the first one behind it
pub head_found : (whole : List ℕ) (from end : ℕ) → from ≤ length whole → IsEndless (take from whole) → EndsFirst whole from end → IsHead (take end whole)
head_found whole from end inside before found = record { ended = found.ended; first = λ n less. none n (omega (arith, length-take-le end whole found.within)) }
  where
    none : (n : ℕ) → n < end → ends_with nat_eq (take n (take end whole)) empty_line ≡ false
    none n less =
        ap (λ t. ends_with nat_eq t empty_line) (take-take n end whole (omega arith))
        ∙ ⊎_elim (λ (more : from < n). found.first n more less) (λ (few : n ≤ from). shorter whole n from few inside before) (cases_lt from n)

-- the buffer after a read behind what has come
module _ (old mid new : LinkState) (bytes after : List ℕ) (from to : ℕ) (order : from ≤ to) (room : to ≤ length after) (front : take from after ≡ take from bytes) where
  came_more : Takes old mid (take from bytes) → Takes mid new (slice_range after from to) → Takes old new (take to after)
  came_more so_far read =
      subst (λ (l : List ℕ). Takes old new l) (ap (λ l. l ++ slice_range after from to) (sym front) ∙ take_slice after from to order)
      (takes_takes old mid new (take from bytes) (slice_range after from to) so_far read)

-- a head has come
pub head_came : (old mid new : LinkState) (bytes after whole : List ℕ) (from to ahead end : ℕ) → from < to → to ≤ length after → to ≤ from + ahead + 1
    → take from after ≡ take from bytes → whole ≡ take to after
    → IsEndless (take from bytes) → Takes old mid (take from bytes) → Takes mid new (slice_range after from to)
    → EndsFirst whole from end → HeadCame old new after end to ahead
head_came old mid new bytes after whole from to ahead end order room few front is endless so_far read found =
    let len : length whole ≡ to = ap length is ∙ length-take-le to after room in
    let before : take from whole ≡ take from bytes = ap (take from) is ∙ take-take from to after (omega arith) ∙ front in
    let same : take end whole ≡ take end after = ap (take end) is ∙ take-take end to after (omega (arith, found.within)) in
    record {
      head = subst IsHead same (head_found whole from end (omega arith) (subst IsEndless (sym before) endless) found);
      order = omega (arith, found.within);
      within = room;
      few = omega (arith, found.behind);
      takes = came_more old mid new bytes after from to (omega arith) room front so_far read;
    }

-- what has come so far in a loop that reads: no head
pub record ComesOn (old new : LinkState) (bytes : List ℕ) (len : ℕ) : Type 0 where
  pub room : len ≤ length bytes
  pub endless : IsEndless (take len bytes)
  pub takes : Takes old new (take len bytes)

pub comes_nothing : (link : LinkState) (bytes : List ℕ) (len : ℕ) → len ≡ 0 → ComesOn link link bytes len
comes_nothing link bytes len none =
    subst (λ (n : ℕ). ComesOn link link bytes n) (sym none) (record { room = omega arith; endless = nothing_endless bytes; takes = takes_nothing link })

-- the buffer is full
pub comes_full : (old new : LinkState) (bytes : List ℕ) (len : ℕ) → ComesOn old new bytes len → length bytes ≤ len → HeadStopped old new bytes len (Bad Head)
comes_full old new bytes len so_far full = (so_far.endless, omega (arith, so_far.room), so_far.takes)

pub comes_more : (old mid new : LinkState) (bytes after whole : List ℕ) (from to : ℕ) → from < to → to ≤ length after → take from after ≡ take from bytes
    → whole ≡ take to after → ComesOn old mid bytes from → Takes mid new (slice_range after from to)
    → IsEndlessBetween whole from (length whole + 1) → ComesOn old new after to
comes_more old mid new bytes after whole from to order room front is so_far read none =
    let len : length whole ≡ to = ap length is ∙ length-take-le to after room in
    let before : take from whole ≡ take from bytes = ap (take from) is ∙ take-take from to after (omega arith) ∙ front in
    record {
      room = room;
      endless = subst IsEndless is (endless_longer whole from (omega arith) (subst IsEndless (sym before) so_far.endless) none);
      takes = came_more old mid new bytes after from to (omega arith) room front so_far.takes read;
    }

-- a read that gave nothing
pub head_stopped : (old mid new : LinkState) (bytes after : List ℕ) (len : ℕ) (fault : Fault) → len < length after → take len after ≡ take len bytes
    → ComesOn old mid bytes len → Stops mid new [] fault → HeadStopped old new after len fault
head_stopped old mid new bytes after len fault more front so_far stops =
    by_cause fault (subst IsEndless (sym front) so_far.endless)
    (subst (λ (l : List ℕ). Stops old new l fault) (sym front) (takes_then_stops old mid new (take len bytes) fault so_far.takes stops))
  where
    by_cause : (f : Fault) → IsEndless (take len after) → Stops old new (take len after) f → HeadStopped old new after len f
    by_cause Memory endless s = (endless, more, s)
    by_cause LinkFailed endless s = (endless, more, s)
    by_cause (Bad Ended) endless s = (endless, more, s)
    by_cause (Bad Head) endless s = absurd s.cause
    by_cause (Bad Status) endless s = absurd s.cause
    by_cause (Bad ContentRange) endless s = absurd s.cause
    by_cause (Bad Length) endless s = absurd s.cause

-- the same of a buffer of 8,192 bytes
pub front_begun : (old new : LinkState) (bytes : List ℕ) (end len ahead : ℕ) (front : Fronted) → length bytes ≡ 8192 → HeadCame old new bytes end len ahead
    → front ≡ record { head = take end bytes; rest = slice_range bytes end len } → Begun old new front ahead
front_begun old new bytes end len ahead front size came is =
    subst (λ (f : Fronted). Begun old new f ahead) (sym is) (
    record {
      head = came.head;
      short = omega (arith, length-take end bytes);
      few = few (length (slice_range bytes end len)) (length-take (len - end) (drop end bytes));
      takes = subst (λ (l : List ℕ). Takes old new l) (sym (take_slice bytes end len came.order)) came.takes;
    }
    )
  where
    few : (n : ℕ) → n ≡ min (len - end) (length (drop end bytes)) → n ≤ ahead
    few n e = let enough = came.few in omega arith

pub front_halted : (old new : LinkState) (bytes head : List ℕ) (len : ℕ) (fault : Fault) → length bytes ≡ 8192 → len ≤ length bytes
    → HeadStopped old new bytes len fault → head ≡ take len bytes → Halted old new head fault
front_halted old new bytes head len fault size within stopped is =
    subst (λ (l : List ℕ). Halted old new l fault) (sym is) (by_cause fault stopped)
  where
    count : length (take len bytes) ≡ len
    count = length-take-le len bytes within

    by_cause : (f : Fault) → HeadStopped old new bytes len f → Halted old new (take len bytes) f
    by_cause Memory s = (s.0, omega (arith, count, s.1), s.2)
    by_cause LinkFailed s = (s.0, omega (arith, count, s.1), s.2)
    by_cause (Bad Ended) s = (s.0, omega (arith, count, s.1), s.2)
    by_cause (Bad Head) s = (s.0, omega (arith, count, s.1), s.2)
    by_cause (Bad Status) s = absurd s.2.cause
    by_cause (Bad ContentRange) s = absurd s.2.cause
    by_cause (Bad Length) s = absurd s.2.cause
