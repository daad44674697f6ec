-- What is found.
use Rattle.std.proofs.Common.{◌≡◌, ℕ, refl, ap, List, [], Option, Some, None}
use Rattle.std.specs.Prelude.{IfSome, IfNone}
use Rattle.httparse.specs.Grammar.{RequestHead}
use Rattle.httparse.proofs.GrammarLemmas.{request_unique}
use Rattle.request_head.specs.Found.{Found}
use Rattle.request_head.specs.Requests.{IsRequest}
use Rattle.request_head.proofs.Deciding.{request_in}

module _ {A : Type 0} {Fits : A → Type 0} where
  one_at : (found : Option A) → IfSome found Fits → IfNone found ((a : A) → ¬ (Fits a)) → (a : A) → Fits a → ((b : A) → Fits b → b ≡ a)
      → found ≡ Some a
  one_at None some none a fits same = absurd (none a fits)
  one_at (Some b) some none a fits same = ap Some (same b some)

  -- the one that fits
  pub found_one : (f : Found Fits) (a : A) → Fits a → ((b : A) → Fits b → b ≡ a) → f.found ≡ Some a
  found_one f a fits same = one_at f.found f.fits f.nothing a fits same

  none_at : (found : Option A) → IfSome found Fits → ((a : A) → ¬ (Fits a)) → found ≡ None
  none_at None some none = refl
  none_at (Some b) some none = absurd (none b some)

  -- where nothing fits
  pub found_none : (f : Found Fits) → ((a : A) → ¬ (Fits a)) → f.found ≡ None
  found_none f none = none_at f.found f.fits none

pub request_found : (bytes : List ℕ) (tree : RequestHead) → IsRequest bytes tree → (request_in bytes).found ≡ Some tree
request_found bytes tree is =
    found_one (request_in bytes) tree is (λ other fits. (request_unique bytes other tree [] [] fits.reads is.reads).0)

pub request_lacks : (bytes : List ℕ) → ((tree : RequestHead) → ¬ (IsRequest bytes tree)) → (request_in bytes).found ≡ None
request_lacks bytes none = found_none (request_in bytes) none
