use Rattle.std.proofs.Common.{◌≡◌, take}
use Rattle.std.specs.Option.{option_map, option_to_list}
use Rattle.http1.specs.Fields.{values_named}
use Rattle.request_head.specs.Read.{fields_at}
use Rattle.response_head.proofs.fields.only_value.Given as goal

abbrev pub invariant-loop-field : goal.invariant-loop-field
invariant-loop-field l = option_to_list (option_map (λ value. value.now) l.found) ≡ values_named l.name (fields_at l.head (take l.field-index l.fields))
