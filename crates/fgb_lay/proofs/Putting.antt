-- How putting bytes on a page goes on.
use Rattle.std.proofs.Common.{◌≡◌, ◌∙◌, ℕ, List, [], ◌++◌, refl, sym, ap, subst, append_assoc}
use Rattle.std.proofs.lemmas.List.{append-nil}
use Rattle.fgb_outside.specs.Sink.{Sink, Appends, AppendsPart}
use Rattle.fgb_outside.proofs.Shown.{part_nothing}
use Rattle.sink_page.specs.Pages.{Adds, AddsPart}
use Rattle.sink_page.proofs.Pages.{adds_adds, adds_left, adds_nothing, adds_part, adds_then_part, adds_whole, part_more}
use Rattle.fgb_lay.specs.Puts.{Puts}

pub puts_none : (a : Sink) (p all : List ℕ) → Puts a a p p all all
puts_none a p all = record { done = []; adds = adds_nothing a p; whole = refl }

module _ (a b : Sink) (p q before all piece left : List ℕ) (puts : Puts a b p q before all) (is : before ≡ piece ++ left) where
  both : (puts.done ++ piece) ++ left ≡ all
  both = append_assoc puts.done piece left ∙ ap (λ bytes. puts.done ++ bytes) (sym is) ∙ puts.whole

  -- one more of them
  pub puts_more : (c : Sink) (r : List ℕ) → Adds b c q r piece → Puts a c p r left all
  puts_more c r adds = record { done = puts.done ++ piece; adds = adds_adds a b c p q r puts.done piece puts.adds adds; whole = both }

  -- a front of one more
  pub puts_part : (c : Sink) (r : List ℕ) → AddsPart b c q r piece → AddsPart a c p r all
  puts_part c r part =
      subst (AddsPart a c p r) both (part_more a c p r (puts.done ++ piece) left (adds_then_part a b c p q r puts.done piece puts.adds part))

-- none are left
pub puts_all : (a b : Sink) (p q left all : List ℕ) → Puts a b p q left all → left ≡ [] → Adds a b p q all
puts_all a b p q left all puts none =
    subst (Adds a b p q) (sym (append-nil puts.done) ∙ ap (λ bytes. puts.done ++ bytes) (sym none) ∙ puts.whole) puts.adds

-- a page that was empty
module _ (a b : Sink) (p q all : List ℕ) (empty : p ≡ []) where
  pub put_part : AddsPart a b p q all → AppendsPart a b all
  put_part part = adds_left a b q all (subst (λ page. AddsPart a b page q all) empty part) b (part_nothing b q)

  module _ (adds : Adds a b p q all) (c : Sink) where
    from_none : Adds a b [] q all
    from_none = subst (λ page. Adds a b page q all) empty adds

    pub written_whole : Appends b c q → Appends a c all
    written_whole appends = adds_whole a b q all from_none c appends

    pub written_part : AppendsPart b c q → AppendsPart a c all
    written_part part = adds_part a b q all from_none c part
