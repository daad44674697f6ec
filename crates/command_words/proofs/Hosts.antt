-- A port and a path, in one text.
use Rattle.std.proofs.Common.{◌≡◌, ◌≢◌, ◌∙◌, ◌&&◌, nat_eq, nat_le, ℕ, ◌<◌, [], ◌∷◌, ◌++◌, List, length, get_or, take, drop, true, false, codes, refl, ap, arith}
use Rattle.std.specs.Prelude.{Option}
use Rattle.std.specs.Option.{MatchOption}
use Rattle.std.specs.Borrow.{Bor}
use Rattle.std.specs.Char.{is_ascii_digit, is_ascii_graphic}
use Rattle.std.specs.List.{list_all, starts_with}
use Rattle.std.specs.Str.Pattern.{StripsPrefix, FindsTextPrefix}
use Rattle.std.specs.Str.{all_ascii_digits}
use Rattle.std.proofs.lemmas.List.Folds.{list_all_at}
use Rattle.std.proofs.lemmas.Str.Pattern.{IsSplitOnceResult, split_after}
use Rattle.order_keys.proofs.Spelling.{all_digits}
use Rattle.range_client.specs.Requests.{IsPath}
use Rattle.command_words.specs.Words.{Input, file_named, file_served, Names, SpellsServed}
use Rattle.command_words.proofs.Wording.{number_parts}

-- digits are no slashes
no_slash : (digits : List ℕ) → all_ascii_digits digits ≡ true → (i : ℕ) → i < length digits → get_or digits i 0 ≢ 47
no_slash digits all i inside slash =
    let none : list_all is_ascii_digit digits ≡ false = list_all_at is_ascii_digit digits i 0 inside (ap is_ascii_digit slash) in
    let some : list_all is_ascii_digit digits ≡ true = all_digits digits ∙ all in
    cc

-- a path is a slash and more
slashed : (path : List ℕ) → take 1 path ≡ codes "/" → path ≡ 47 ∷ drop 1 path
slashed [] rooted = absurd (cc)
slashed (c ∷ rest) rooted = cc

module _ (text : List ℕ) (port : ℕ) (path : List ℕ) (spells : SpellsServed text port path) where
  apart : text ≡ spells.digits ++ (47 ∷ drop 1 path)
  apart = spells.parts ∙ ap (λ p. spells.digits ++ p) (slashed path spells.path_is.rooted)

  -- the text is split at the path
  pub splits : (r : Option (Bor (List ℕ) × Bor (List ℕ))) → IsSplitOnceResult 47 text r → MatchOption r ⊥ (λ x. (x.0.now ≡ spells.digits) × (x.1.now ≡ drop 1 path))
  splits r split = split_after 47 text spells.digits (drop 1 path) r split (omega arith) apart
      (no_slash spells.digits (number_parts spells.digits spells.spelled.spelled.form).2)

-- what is left behind the part in front
pub left_over : (digits path : List ℕ) → drop (length digits) (digits ++ path) ≡ path
left_over [] path = refl
left_over (d ∷ digits) path = left_over digits path

-- what is left of a text without its front
pub stripped : (text digits path left : List ℕ) → StripsPrefix (FindsTextPrefix digits) text left → text ≡ digits ++ path → left ≡ path
stripped text digits path left strips parts = strips.2 ∙ (ap (λ n. drop n text) strips.1.0 ∙ (ap (drop (length digits)) parts ∙ left_over digits path))

pub path_passes : (path : List ℕ) → IsPath path → (nat_le (length path) 1024 && list_all is_ascii_graphic path) ≡ true
path_passes path is =
    let short = is.short in let visible = is.visible in
    grind arith

-- a word that begins with `http://` names a port and a path
pub record Hosts (word : List ℕ) (input : Input) : Type 0 where
  pub port : ℕ
  pub path : List ℕ
  pub text : List ℕ
  pub input_is : file_served port path ≡ input
  pub word_is : word ≡ codes "http://127.0.0.1:" ++ text
  pub spells : SpellsServed text port path

pub hosts : (word : List ℕ) → starts_with nat_eq word (codes "http://") ≡ true → (input : Input) → Names word input → Hosts word input
hosts word begins (file_named name) names = absurd (cc (names.1))
hosts word begins (file_served port path) names = record { port = port; path = path; text = names.0; input_is = refl; word_is = names.1; spells = names.2 }
