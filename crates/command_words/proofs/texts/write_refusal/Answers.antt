use Rattle.std.proofs.Common.{ℕ, List, [], ◌∷◌, ◌++◌, codes, decimal, refl, ◌∙◌}
use Rattle.std.proofs.lemmas.List.{append_assoc}
use Rattle.flat_layout.specs.Rules.{name_of}
use Rattle.command_words.specs.Texts.{refusal_text}
use Rattle.command_words.proofs.Telling.{wrote_nothing, wrote_next, failed_next, wrote_all}
use Rattle.command_words.proofs.texts.write_refusal.Goals as goal

abbrev first : List ℕ
first = codes "refused: "

abbrev third : List ℕ
third = codes " at "

abbrev fifth : List ℕ
fifth = 10 ∷ []

pub returns-in_err-write : goal.returns-in_err-write
unfolding refusal_text
returns-in_err-write g c =
    let name = name_of c.args.broken.rule in let place = decimal c.args.broken.place in
    failed_next _ _ _ _ [] first (name ++ third ++ place ++ fifth) _ c.in_err-write.field-0.0 _ _ (simp append_assoc) refl c.from_residual.ensures.1 (wrote_nothing _) c.in_err-write.ensures

pub returns-in_err-write-2 : goal.returns-in_err-write-2
unfolding refusal_text
returns-in_err-write-2 g c =
    let name = name_of c.args.broken.rule in let place = decimal c.args.broken.place in
    let one = wrote_next _ _ _ [] first _ _ refl (wrote_nothing _) c.in_ok-write.ensures in
    failed_next _ _ _ _ first name (third ++ place ++ fifth) _ c.in_err-write-2.field-0.0 _ _ (simp append_assoc) (c.as_bytes.ensures.value ∙ c.name.ensures) c.from_residual-in_err-write-2.ensures.1 one c.in_err-write-2.ensures

pub returns-in_err-write-3 : goal.returns-in_err-write-3
unfolding refusal_text
returns-in_err-write-3 g c =
    let name = name_of c.args.broken.rule in let place = decimal c.args.broken.place in
    let one = wrote_next _ _ _ [] first _ _ refl (wrote_nothing _) c.in_ok-write.ensures in
    let two = wrote_next _ _ _ first name _ _ (c.as_bytes.ensures.value ∙ c.name.ensures) one c.in_ok-write-2.ensures in
    failed_next _ _ _ _ (first ++ name) third (place ++ fifth) _ c.in_err-write-3.field-0.0 _ _ (simp append_assoc) refl c.from_residual-in_err-write-3.ensures.1 two c.in_err-write-3.ensures

pub returns-in_err-write-4 : goal.returns-in_err-write-4
unfolding refusal_text
returns-in_err-write-4 g c =
    let name = name_of c.args.broken.rule in let place = decimal c.args.broken.place in
    let one = wrote_next _ _ _ [] first _ _ refl (wrote_nothing _) c.in_ok-write.ensures in
    let two = wrote_next _ _ _ first name _ _ (c.as_bytes.ensures.value ∙ c.name.ensures) one c.in_ok-write-2.ensures in
    let three = wrote_next _ _ _ (first ++ name) third _ _ refl two c.in_ok-write-3.ensures in
    failed_next _ _ _ _ (first ++ name ++ third) place fifth _ c.in_err-write-4.field-0.0 _ _ (simp append_assoc) (c.as_bytes-2.ensures.value ∙ c.format.ensures.text) c.from_residual-in_err-write-4.ensures.1 three c.in_err-write-4.ensures

pub returns-in_err-write-5 : goal.returns-in_err-write-5
unfolding refusal_text
returns-in_err-write-5 g c =
    let name = name_of c.args.broken.rule in let place = decimal c.args.broken.place in
    let one = wrote_next _ _ _ [] first _ _ refl (wrote_nothing _) c.in_ok-write.ensures in
    let two = wrote_next _ _ _ first name _ _ (c.as_bytes.ensures.value ∙ c.name.ensures) one c.in_ok-write-2.ensures in
    let three = wrote_next _ _ _ (first ++ name) third _ _ refl two c.in_ok-write-3.ensures in
    let four = wrote_next _ _ _ (first ++ name ++ third) place _ _ (c.as_bytes-2.ensures.value ∙ c.format.ensures.text) three c.in_ok-write-4.ensures in
    failed_next _ _ _ _ (first ++ name ++ third ++ place) fifth [] _ c.in_err-write-5.field-0.0 _ _ (simp append_assoc) refl c.from_residual-in_err-write-5.ensures.1 four c.in_err-write-5.ensures

pub returns : goal.returns
unfolding refusal_text
returns g c =
    let name = name_of c.args.broken.rule in let place = decimal c.args.broken.place in
    let one = wrote_next _ _ _ [] first _ _ refl (wrote_nothing _) c.in_ok-write.ensures in
    let two = wrote_next _ _ _ first name _ _ (c.as_bytes.ensures.value ∙ c.name.ensures) one c.in_ok-write-2.ensures in
    let three = wrote_next _ _ _ (first ++ name) third _ _ refl two c.in_ok-write-3.ensures in
    let four = wrote_next _ _ _ (first ++ name ++ third) place _ _ (c.as_bytes-2.ensures.value ∙ c.format.ensures.text) three c.in_ok-write-4.ensures in
    wrote_all _ _ _ _ tt (simp append_assoc) (wrote_next _ _ _ (first ++ name ++ third ++ place) fifth _ _ refl four c.in_ok-write-5.ensures)
