use Rattle.std.proofs.Common.{◌≡◌, true, take}
use Rattle.std.specs.List.{list_all}
use Rattle.request_head.specs.Requests.{allows_no_body}
use Rattle.request_head.specs.Read.{fields_at}
use Rattle.request_head.proofs.fields.all_allow_no_body.Given as goal

abbrev pub invariant-loop-field : goal.invariant-loop-field
invariant-loop-field l = list_all allows_no_body (fields_at l.head (take l.field-index l.fields)) ≡ true
