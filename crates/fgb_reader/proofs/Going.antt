-- What going through the features asked for.
use Rattle.std.proofs.Common.{◌≡◌, ℕ, ◌+◌, ◌-◌, ◌≤◌, List, ◌++◌, length, refl, sym, ap, subst, ◌∙◌, arith, length-append}
use Rattle.std.specs.Prelude.{Option, Some, None, IsSome, slice_range}
use Rattle.std.specs.List.{range_with_len}
use Rattle.std.proofs.lemmas.Bool.{false≢true}
use Rattle.fgb_outside.specs.Source.{Source, IfTold, Keeps, added}
use Rattle.fgb_outside.specs.Asked.{IsInside, Reads, ReadsFront}
use Rattle.fgb_outside.proofs.Asking.{reads_nothing, reads_weaken, reads_along, front_nothing, front_weaken, front_along}
use Rattle.section_window.specs.Window.{Held, IsPiece, ahead, passed, Shows as ShowsWindow}
use Rattle.section_window.proofs.Showing.{shows_passed, shows_part, ahead_passed, reads_on, front_on}
use Rattle.section_window.proofs.Reading.{reads_inside, front_inside}
use Rattle.section_window.proofs.Few.{reads_few}
use Rattle.fgb_file.specs.File.{IsFramed, size_at}
use Rattle.fgb_reader.specs.Filling.{Fills, FillsPart}
use Rattle.fgb_reader.specs.Requests.{AsksAtMost, mebibytes}
use Rattle.fgb_reader.specs.Reading.{Shows, StandsIn, Fetches, FetchesPart, ahead_of, end_of, first_of, place_of}
use Rattle.fgb_reader.specs.declared.pieces.Pieces.{Pieces}

-- ## One call

-- a piece of a section is one of a section that begins before it
piece_wider : (first from end : ℕ) → first ≤ from → (pair : ℕ × ℕ) → IsPiece from end pair → IsPiece first end pair
piece_wider first from end order pair is = (omega (arith, is.0), is.1, is.2)

-- it stands where it stood
pub fetches_nothing : (p : Pieces) (s : Source) → Shows p s → Fetches p p s s
fetches_nothing p s shows =
    let none : 0 ≡ ahead_of p - ahead_of p = omega arith in
    record {
      reads = reads_along _ _ (ap (range_with_len (ahead_of p)) none) (reads_nothing s);
      onward = omega arith;
      first = refl;
      end = refl;
      shows = shows;
    }

-- the feature that was lent is passed
pub fetches_pass : (p p' : Pieces) (s : Source) → p.len ≤ length p.window.bytes → p'.window ≡ passed p.window p.len → p'.first ≡ p.first → Shows p s → Fetches p p' s s
fetches_pass p p' s held passes first shows =
    let same : ahead p'.window ≡ ahead p.window = ap ahead passes ∙ ahead_passed p.window p.len held in
    let none : 0 ≡ ahead_of p' - ahead_of p = omega arith in
    record {
      reads = reads_along _ _ (ap (range_with_len (ahead_of p)) none) (reads_nothing s);
      onward = omega arith;
      first = first;
      end = ap (λ (w : Held). w.end) passes;
      shows = subst (λ w. ShowsWindow w s) (sym passes) (shows_passed p.window s p.len held shows);
    }

-- and more was asked for behind it
module _ (p p' : Pieces) (w : Held) (s s' : Source) (held : p.len ≤ length p.window.bytes) (order : p.first ≤ p.window.at) (passes : w ≡ passed p.window p.len) (ends : p'.window.end ≡ w.end) (first : p'.first ≡ p.first) where
  from : ahead w ≡ ahead_of p
  from = ap ahead passes ∙ ahead_passed p.window p.len held

  later : p.first ≤ w.at
  later = let e : w.at ≡ p.window.at + p.len = ap (λ (v : Held). v.at) passes in omega arith

  till : w.end ≡ end_of p
  till = ap (λ (v : Held). v.end) passes

  pub fetches_next : ShowsWindow p'.window s' → Fills w p'.window s s' → Fetches p p' s s'
  fetches_next shows fills = record {
    reads = subst (λ n. Reads (IsPiece p.first n) s s' (range_with_len (ahead_of p) (ahead_of p' - ahead_of p))) till
        (subst (λ n. Reads (IsPiece p.first w.end) s s' (range_with_len n (ahead_of p' - n))) from (reads_weaken (IsPiece w.at w.end) (IsPiece p.first w.end) (piece_wider p.first w.at w.end later) fills.reads));
    onward = omega (arith, fills.onward, from);
    first = first;
    end = ends ∙ till;
    shows = shows;
  }

  pub part_next : FillsPart w s s' → FetchesPart p p' s s'
  part_next front = record {
    front = subst (λ n. ReadsFront (IsPiece p.first n) s s' (range_with_len (ahead_of p) (n - ahead_of p))) till
        (subst (λ n. ReadsFront (IsPiece p.first w.end) s s' (range_with_len n (w.end - n))) from (front_weaken (IsPiece w.at w.end) (IsPiece p.first w.end) (piece_wider p.first w.at w.end later) front));
    first = first;
    end = ends ∙ till;
  }

-- what lies in the window is the feature
pub stands_in : (p : Pieces) (s s' : Source) (at : ℕ) → p.window.at ≡ at → s'.image ≡ s.image → Shows p s' → 4 ≤ p.len → p.len ≤ length p.window.bytes
    → IfTold s (λ image. IsFramed image at → p.len ≡ 4 + size_at image at → StandsIn image p)
stands_in p s s' at place same shows some held image told framed len =
    let size : size_at image at ≡ size_at image (place_of p) = ap (size_at image) (sym place) in
    let ends : p.window.at + p.len ≡ p.window.at + 4 + size_at image (place_of p) = omega arith in
    record {
      framed = subst (IsFramed image) (sym place) framed;
      len = omega arith;
      buffer = shows_part p.window s' 4 p.len some held shows image (same ∙ told) ∙ ap (slice_range image (p.window.at + 4)) ends;
    }

-- ## Several calls

-- one after the other
pub fetches_on : {p q r : Pieces} {a b c : Source} → Fetches p q a b → Fetches q r b c → Fetches p r a c
fetches_on {p = p} {q = q} {r = r} {b = b} {c = c} f g = record {
  reads = reads_on (ahead_of p) (ahead_of q) (ahead_of r) f.onward g.onward f.reads
      (subst (λ n. Reads (IsPiece n (end_of p)) b c (range_with_len (ahead_of q) (ahead_of r - ahead_of q))) f.first
      (subst (λ n. Reads (IsPiece (first_of q) n) b c (range_with_len (ahead_of q) (ahead_of r - ahead_of q))) f.end g.reads));
  onward = omega (arith, f.onward, g.onward);
  first = g.first ∙ f.first;
  end = g.end ∙ f.end;
  shows = g.shows;
}

pub fetches_part : {p q r : Pieces} {a b c : Source} → Fetches p q a b → FetchesPart q r b c → FetchesPart p r a c
fetches_part {p = p} {q = q} {b = b} {c = c} f g = record {
  front = front_on (ahead_of p) (ahead_of q) (end_of p) f.onward (omega (arith, f.shows.within, f.end)) f.reads
      (subst (λ n. ReadsFront (IsPiece n (end_of p)) b c (range_with_len (ahead_of q) (end_of p - ahead_of q))) f.first
      (subst (λ n. ReadsFront (IsPiece (first_of q) n) b c (range_with_len (ahead_of q) (n - ahead_of q))) f.end g.front));
  first = g.first ∙ f.first;
  end = g.end ∙ f.end;
}

-- all of it is a front of what was left
pub fetches_whole : {p q : Pieces} {a b : Source} → Fetches p q a b → FetchesPart p q a b
fetches_whole {q = q} {b = b} f = fetches_part f (record { front = front_nothing b (range_with_len (ahead_of q) (end_of q - ahead_of q)); first = refl; end = refl })

-- ## How many requests

is_some : {A : Type 0} (o : Option A) → IsSome o → (x : A) × (o ≡ Some x)
is_some None is = absurd (false≢true is)
is_some (Some x) is = (x, refl)

some_same : {A : Type 0} (x y : A) → Some x ≡ Some y → x ≡ y
some_same x y e = cc

-- those of one list of pairs
pub reads_most : {P : ℕ × ℕ → Type 0} {s s' : Source} {xs : List ℕ} (most : ℕ) (r : Reads P s s' xs) → length r.pairs ≤ most → AsksAtMost most s s'
reads_most {s = s} most r few before now was is =
    let same : now ≡ before ++ r.pairs = some_same now (before ++ r.pairs) (sym is ∙ r.told ∙ ap (λ t. added t r.pairs) was) in
    omega (arith, ap length same ∙ length-append before r.pairs)

-- one call after the other
pub asks_on : (a b c : Source) (m n : ℕ) → AsksAtMost m a b → Keeps b c → AsksAtMost n b c → AsksAtMost (m + n) a c
asks_on a b c m n first keeps second before now was is =
    let mid = is_some b.asked (keeps.told (subst IsSome (sym is) refl)) in
    omega (arith, first before mid.0 was mid.1, second mid.0 now mid.1 is)

-- ## All features

-- once all of the section was asked for
pub fetches_all : (p p' : Pieces) (s s' : Source) → ahead_of p ≡ first_of p → ahead_of p' ≡ end_of p → Fetches p p' s s'
    → Reads (IsInside (first_of p) (end_of p)) s s' (range_with_len (first_of p) (end_of p - first_of p)) × AsksAtMost (mebibytes (end_of p - first_of p)) s s'
fetches_all p p' s s' begins ends f =
    let many : ahead_of p' - ahead_of p ≡ end_of p - first_of p = omega arith in
    let reads : Reads (IsPiece (first_of p) (end_of p)) s s' (range_with_len (first_of p) (end_of p - first_of p)) =
    reads_along _ _ (ap (λ n. range_with_len n (ahead_of p' - ahead_of p)) begins ∙ ap (range_with_len (first_of p)) many) f.reads in
    (reads_inside (first_of p) (end_of p) reads, reads_most (mebibytes (end_of p - first_of p)) reads (omega (arith, reads_few (first_of p) (end_of p) (first_of p) (end_of p - first_of p) reads)))

-- or a front of it
pub part_all : (p p' : Pieces) (s s' : Source) → ahead_of p ≡ first_of p → FetchesPart p p' s s'
    → ReadsFront (IsInside (first_of p) (end_of p)) s s' (range_with_len (first_of p) (end_of p - first_of p))
part_all p p' s s' begins f = front_along _ _ (ap (λ n. range_with_len n (end_of p - n)) begins) (front_inside (first_of p) (end_of p) f.front)
