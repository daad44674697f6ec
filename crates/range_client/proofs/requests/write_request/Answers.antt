use Rattle.std.proofs.Common.{◌≡◌, ℕ, List, [], ◌++◌, sym, ap, ◌∙◌, append_assoc, append-nil}
use Rattle.std.specs.Prelude.{codes}
use Rattle.range_text.specs.Ranges.{range_text}
use Rattle.range_client.specs.Requests.{request}
use Rattle.range_client.proofs.requests.write_request.Goals as goal

-- its lines, as one text
regroup : (path range : List ℕ)
    → ((path ++ codes " HTTP/1.1\r\nHost: 127.0.0.1\r\nRange: ") ++ range) ++ codes "\r\n\r\n"
    ≡ (((path ++ codes " HTTP/1.1") ++ codes "\r\n") ++ (codes "Host: 127.0.0.1\r\nRange: " ++ ((range ++ codes "\r\n") ++ []))) ++ codes "\r\n"
regroup path range =
    let host : List ℕ = codes "Host: 127.0.0.1\r\nRange: " ++ ((range ++ codes "\r\n") ++ []) in
    let end : ((range ++ codes "\r\n") ++ []) ++ codes "\r\n" ≡ range ++ codes "\r\n\r\n" =
    ap (λ l. l ++ codes "\r\n") (append-nil (range ++ codes "\r\n")) ∙ append_assoc range (codes "\r\n") (codes "\r\n") in
    append_assoc (path ++ codes " HTTP/1.1\r\nHost: 127.0.0.1\r\nRange: ") range (codes "\r\n\r\n")
    ∙ append_assoc path (codes " HTTP/1.1\r\nHost: 127.0.0.1\r\nRange: ") (range ++ codes "\r\n\r\n")
    ∙ ap (λ l. path ++ (codes " HTTP/1.1\r\nHost: 127.0.0.1\r\nRange: " ++ l)) (sym end)
    ∙ sym (append_assoc path (codes " HTTP/1.1") (codes "\r\n" ++ (host ++ codes "\r\n")))
    ∙ sym (append_assoc (path ++ codes " HTTP/1.1") (codes "\r\n") (host ++ codes "\r\n"))
    ∙ sym (append_assoc ((path ++ codes " HTTP/1.1") ++ codes "\r\n") host (codes "\r\n"))

-- pieces that were appended, one after another
written : (one two three four five path told : List ℕ) (a b : ℕ) → one ≡ codes "GET " → two ≡ one ++ path → three ≡ two ++ codes " HTTP/1.1\r\nHost: 127.0.0.1\r\nRange: "
    → four ≡ three ++ told → told ≡ range_text a b → five ≡ four ++ codes "\r\n\r\n" → five ≡ request path a b
unfolding request
written one two three four five path told a b first second third fourth is fifth =
    fifth
    ∙ ap (λ t. t ++ codes "\r\n\r\n") (fourth ∙ ap (λ t. three ++ t) is ∙ ap (λ t. t ++ range_text a b) (third ∙ ap (λ t. t ++ codes " HTTP/1.1\r\nHost: 127.0.0.1\r\nRange: ") (second ∙ ap (λ t. t ++ path) first)))
    ∙ ap (λ t. codes "GET " ++ t) (regroup path (range_text a b))

pub returns : goal.returns
returns c =
    written c.extend_from_slice.new.self.items c.extend_from_slice-2.new.self.items c.extend_from_slice-3.new.self.items c.extend_from_slice-4.new.self.items c.extend_from_slice-5.new.self.items
    c.args.path.now c.bytes.result.now c.args.first c.args.last
    (c.in_ok-extend_from_slice.ensures.items ∙ ap (λ l. l ++ codes "GET ") c.clear.ensures.items)
    c.in_ok-extend_from_slice-2.ensures.items
    c.in_ok-extend_from_slice-3.ensures.items
    c.in_ok-extend_from_slice-4.ensures.items
    (c.bytes.ensures ∙ c.write_range.ensures.text)
    c.in_ok-extend_from_slice-5.ensures.items
