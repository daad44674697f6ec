use Rattle.std.proofs.Common.{◌≡◌, ◌≤◌, length, true, false, subst, arith}
use Rattle.fgb_values.specs.Values.{Shows, fits, size_in}
use Rattle.fgb_schema.specs.Headers.{types}
use Rattle.fgb_schema.specs.Properties.{cut_key, no_column}
use Rattle.fgb_header.specs.Views.{columns_shown}
use Rattle.fgb_feature.proofs.ReadPairs.{rest_is, key_is, types_length, pair_shown, value_cut}
use Rattle.fgb_feature.proofs.props.pair_at.Goals as goal

pub returns-then-bytes-lt-KEY : goal.returns-then-bytes-lt-KEY
returns-then-bytes-lt-KEY c = cut_key (omega arith)

pub returns-then-key-len : goal.returns-then-key-len
returns-then-key-len c =
    no_column (omega arith) (omega (arith, key_is c.args.bytes.now c.read_u16-key.result c.read_u16-key.ensures, types_length (columns_shown c.args.columns)))

pub returns-in-Some : goal.returns-in-Some
returns-in-Some c =
    let b = c.args.bytes.now in
    pair_shown (types (columns_shown c.args.columns)) b c.read_u16-key.result c.kind.result (key_is b c.read_u16-key.result c.read_u16-key.ensures) c.kind.ensures.value
    c.in-Some.size c.in-Some.value (omega arith) (omega (arith, types_length (columns_shown c.args.columns)))
    (subst (λ rest. (fits c.kind.result rest ≡ true) × Shows c.kind.result rest c.in-Some.value × (c.in-Some.size ≡ size_in c.kind.result rest) × (c.in-Some.size ≤ length rest)) (rest_is b 2) c.in-Some.ensures)

pub returns-in-None : goal.returns-in-None
returns-in-None c =
    let b = c.args.bytes.now in
    value_cut (types (columns_shown c.args.columns)) b c.read_u16-key.result c.kind.result (key_is b c.read_u16-key.result c.read_u16-key.ensures) c.kind.ensures.value
    (omega arith) (omega (arith, types_length (columns_shown c.args.columns)))
    (subst (λ rest. fits c.kind.result rest ≡ false) (rest_is b 2) c.in-None.ensures)
