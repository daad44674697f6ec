-- What the summary of the fields says.
use Rattle.std.proofs.Common.{◌≡◌, ◌≢◌, ◌∙◌, ℕ, ap, arith, Bool, min}
use Rattle.std.specs.Prelude.{◌==◌, ◌||◌, count_by, codes}
use Rattle.std.proofs.lemmas.Bool.Decides.{nat_tests}
use Rattle.http1.specs.declared.fields.KnownFields.{KnownFields}
use Rattle.http1.specs.Fields.{elements_named, has_option, is_named, known_fields}
use Rattle.request_head.specs.Requests.{RequestParts, asks_to_close, has_one_host}

one_of_two : (n : ℕ) → (min n 2 == 1) ≡ (n == 1)
one_of_two n = grind (arith, nat_tests)

later : (n : ℕ) (b : Bool) → n ≢ 0 → b ≡ ((n == 0) || b)
later n b other = grind (arith, nat_tests)

pub hosts_told : (request : RequestParts) (known : KnownFields) → known ≡ known_fields request.fields → request.minor ≢ 0
    → (known.hosts == 1) ≡ has_one_host request
unfolding known_fields
hosts_told request known e other =
    ap (λ (k : KnownFields). k.hosts == 1) e ∙ one_of_two (count_by (is_named (codes "host")) request.fields)
    ∙ later request.minor (count_by (is_named (codes "host")) request.fields == 1) other

pub close_told : (request : RequestParts) (known : KnownFields) → known ≡ known_fields request.fields → request.minor ≢ 0
    → known.close ≡ asks_to_close request
unfolding known_fields
close_told request known e other =
    ap (λ (k : KnownFields). k.close) e
    ∙ later request.minor (has_option (codes "close") (elements_named (codes "connection") request.fields)) other
