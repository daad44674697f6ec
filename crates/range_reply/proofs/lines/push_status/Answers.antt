use Rattle.std.proofs.Common.{◌∙◌, ◌++◌, [], ℕ, List, ap}
use Rattle.std.specs.Prelude.{codes, unwrap_or}
use Rattle.http.specs.StatusCode.{code_digits, reason_phrase}
use Rattle.range_reply.specs.Replies.{status_of}
use Rattle.range_reply.proofs.Texts.{appended}
use Rattle.range_reply.proofs.lines.push_status.Goals as goal

pub returns-clause-text : goal.returns-clause-text
returns-clause-text c =
    appended c.args.text.now.items c.push.new.text.items c.push-2.new.text.items c.push-3.new.text.items c.push-4.new.text.items c.push-5.new.text.items
    (codes "HTTP/1.1 ") (code_digits (status_of c.args.answer)) (codes " ") (unwrap_or (reason_phrase (status_of c.args.answer)) []) (codes "\r\n")
    c.push.ensures.text
    (c.push-2.ensures.text ∙ ap (λ (b : List ℕ). c.push.new.text.items ++ b) (c.as_bytes.ensures.value ∙ c.as_str.ensures ∙ ap code_digits c.status-status.ensures))
    c.push-3.ensures.text
    (c.push-4.ensures.text ∙ ap (λ (b : List ℕ). c.push-3.new.text.items ++ b) (c.as_bytes-2.ensures.value ∙ c.phrase.ensures.text))
    c.push-5.ensures.text
