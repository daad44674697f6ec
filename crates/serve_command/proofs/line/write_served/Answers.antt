use Rattle.std.proofs.Common.{◌≡◌, ℕ, List, [], ◌∷◌, ◌++◌, codes, decimal, Ok, Err, refl, ap, ◌∙◌}
use Rattle.std.proofs.lemmas.List.{append_assoc}
use Rattle.std.proofs.lemmas.Result.{err_from_is_err_and}
use Rattle.serve_command.specs.Texts.{served_text}
use Rattle.serve_command.proofs.Writing.{both, front}
use Rattle.serve_command.proofs.line.write_served.Goals as goal

-- a text of seven parts, cut behind two, four or six of them
module _ (a b c d e f g : List ℕ) where
  behind_two : a ++ b ++ c ++ d ++ e ++ f ++ g ≡ (a ++ b) ++ ((c ++ d) ++ (e ++ f) ++ g)
  behind_two = simp append_assoc

  behind_four : a ++ b ++ c ++ d ++ e ++ f ++ g ≡ ((a ++ b) ++ (c ++ d)) ++ ((e ++ f) ++ g)
  behind_four = simp append_assoc

  behind_six : a ++ b ++ c ++ d ++ e ++ f ++ g ≡ ((a ++ b) ++ (c ++ d) ++ (e ++ f)) ++ g
  behind_six = simp append_assoc

abbrev first : ℕ → List ℕ
first n = codes "served " ++ decimal n

abbrev second : ℕ → List ℕ
second n = codes " requests " ++ decimal n

abbrev third : ℕ → List ℕ
third n = codes " sent " ++ decimal n

abbrev end : List ℕ
end = 10 ∷ []

pub returns-in_err-write_number : goal.returns-in_err-write_number
unfolding served_text
returns-in_err-write_number g c =
    let n = c.args.connections in let m = c.args.receipt.requests in let k = c.args.receipt.sent in
    let p = err_from_is_err_and c.from_residual.result c.from_residual.ensures.1 in
    front (served_text n c.args.receipt) (first n) (second m ++ third k ++ end) c.from_residual.result (p.1 ∙ ap Err p.2)
    (behind_two (codes "served ") (decimal n) (codes " requests ") (decimal m) (codes " sent ") (decimal k) end) c.in_err-write_number.ensures

pub returns-in_err-write_number-2 : goal.returns-in_err-write_number-2
unfolding served_text
returns-in_err-write_number-2 g c =
    let n = c.args.connections in let m = c.args.receipt.requests in let k = c.args.receipt.sent in
    let p = err_from_is_err_and c.from_residual-in_err-write_number-2.result c.from_residual-in_err-write_number-2.ensures.1 in
    front (served_text n c.args.receipt) (first n ++ second m) (third k ++ end) c.from_residual-in_err-write_number-2.result (p.1 ∙ ap Err p.2)
    (behind_four (codes "served ") (decimal n) (codes " requests ") (decimal m) (codes " sent ") (decimal k) end)
    (both (first n ++ second m) (first n) (second m) (second m) (Err c.in_err-write_number-2.field-0.0) refl refl c.in_ok-write_number.ensures c.in_err-write_number-2.ensures)

pub returns-in_err-write_number-3 : goal.returns-in_err-write_number-3
unfolding served_text
returns-in_err-write_number-3 g c =
    let n = c.args.connections in let m = c.args.receipt.requests in let k = c.args.receipt.sent in
    let p = err_from_is_err_and c.from_residual-in_err-write_number-3.result c.from_residual-in_err-write_number-3.ensures.1 in
    let two = both (first n ++ second m) (first n) (second m) (second m) (Ok c.in_ok-write_number-2.field-0) refl refl c.in_ok-write_number.ensures c.in_ok-write_number-2.ensures in
    front (served_text n c.args.receipt) (first n ++ second m ++ third k) end c.from_residual-in_err-write_number-3.result (p.1 ∙ ap Err p.2)
    (behind_six (codes "served ") (decimal n) (codes " requests ") (decimal m) (codes " sent ") (decimal k) end)
    (both (first n ++ second m ++ third k) (first n ++ second m) (third k) (third k) (Err c.in_err-write_number-3.field-0.0) refl refl two c.in_err-write_number-3.ensures)

pub returns : goal.returns
unfolding served_text
returns g c =
    let n = c.args.connections in let m = c.args.receipt.requests in let k = c.args.receipt.sent in
    let two = both (first n ++ second m) (first n) (second m) (second m) (Ok c.in_ok-write_number-2.field-0) refl refl c.in_ok-write_number.ensures c.in_ok-write_number-2.ensures in
    let three = both (first n ++ second m ++ third k) (first n ++ second m) (third k) (third k) (Ok c.in_ok-write_number-3.field-0) refl refl two c.in_ok-write_number-3.ensures in
    both (served_text n c.args.receipt) (first n ++ second m ++ third k) end end c.write.result
    (behind_six (codes "served ") (decimal n) (codes " requests ") (decimal m) (codes " sent ") (decimal k) end) refl three c.write.ensures
