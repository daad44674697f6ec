use Rattle.std.proofs.Common.{ℕ, List, [], ◌++◌, codes, decimal, refl, ◌∙◌}
use Rattle.std.proofs.lemmas.List.{append_assoc}
use Rattle.fgb_tool.specs.Texts.{accepted_text}
use Rattle.command_words.proofs.Telling.{wrote_nothing, wrote_next, failed_next, wrote_all}
use Rattle.fgb_tool.proofs.texts.write_accepted.Goals as goal

abbrev first : List ℕ
first = codes "accepted "

abbrev third : List ℕ
third = codes " features "

abbrev fifth : List ℕ
fifth = codes " nodes\n"

pub returns-in_err-write-clause-writing : goal.returns-in_err-write-clause-writing
unfolding accepted_text
returns-in_err-write-clause-writing g c =
    let features = decimal c.args.features in let nodes = decimal c.args.nodes in
    failed_next _ _ _ _ [] first (features ++ third ++ nodes ++ fifth) _ c.in_err-write.field-0.0 _ _ (simp append_assoc) refl c.from_residual.ensures.1 (wrote_nothing _) c.in_err-write.ensures

pub returns-in_err-write-2-clause-writing : goal.returns-in_err-write-2-clause-writing
unfolding accepted_text
returns-in_err-write-2-clause-writing g c =
    let features = decimal c.args.features in let nodes = decimal c.args.nodes in
    let one = wrote_next _ _ _ [] first _ _ refl (wrote_nothing _) c.in_ok-write.ensures in
    failed_next _ _ _ _ first features (third ++ nodes ++ fifth) _ c.in_err-write-2.field-0.0 _ _ (simp append_assoc) (c.as_bytes.ensures.value ∙ c.format.ensures.text) c.from_residual-in_err-write-2.ensures.1 one c.in_err-write-2.ensures

pub returns-in_err-write-3-clause-writing : goal.returns-in_err-write-3-clause-writing
unfolding accepted_text
returns-in_err-write-3-clause-writing g c =
    let features = decimal c.args.features in let nodes = decimal c.args.nodes in
    let one = wrote_next _ _ _ [] first _ _ refl (wrote_nothing _) c.in_ok-write.ensures in
    let two = wrote_next _ _ _ first features _ _ (c.as_bytes.ensures.value ∙ c.format.ensures.text) one c.in_ok-write-2.ensures in
    failed_next _ _ _ _ (first ++ features) third (nodes ++ fifth) _ c.in_err-write-3.field-0.0 _ _ (simp append_assoc) refl c.from_residual-in_err-write-3.ensures.1 two c.in_err-write-3.ensures

pub returns-in_err-write-4-clause-writing : goal.returns-in_err-write-4-clause-writing
unfolding accepted_text
returns-in_err-write-4-clause-writing g c =
    let features = decimal c.args.features in let nodes = decimal c.args.nodes in
    let one = wrote_next _ _ _ [] first _ _ refl (wrote_nothing _) c.in_ok-write.ensures in
    let two = wrote_next _ _ _ first features _ _ (c.as_bytes.ensures.value ∙ c.format.ensures.text) one c.in_ok-write-2.ensures in
    let three = wrote_next _ _ _ (first ++ features) third _ _ refl two c.in_ok-write-3.ensures in
    failed_next _ _ _ _ (first ++ features ++ third) nodes fifth _ c.in_err-write-4.field-0.0 _ _ (simp append_assoc) (c.as_bytes-2.ensures.value ∙ c.format-2.ensures.text) c.from_residual-in_err-write-4.ensures.1 three c.in_err-write-4.ensures

pub returns-in_err-write-5-clause-writing : goal.returns-in_err-write-5-clause-writing
unfolding accepted_text
returns-in_err-write-5-clause-writing g c =
    let features = decimal c.args.features in let nodes = decimal c.args.nodes in
    let one = wrote_next _ _ _ [] first _ _ refl (wrote_nothing _) c.in_ok-write.ensures in
    let two = wrote_next _ _ _ first features _ _ (c.as_bytes.ensures.value ∙ c.format.ensures.text) one c.in_ok-write-2.ensures in
    let three = wrote_next _ _ _ (first ++ features) third _ _ refl two c.in_ok-write-3.ensures in
    let four = wrote_next _ _ _ (first ++ features ++ third) nodes _ _ (c.as_bytes-2.ensures.value ∙ c.format-2.ensures.text) three c.in_ok-write-4.ensures in
    failed_next _ _ _ _ (first ++ features ++ third ++ nodes) fifth [] _ c.in_err-write-5.field-0.0 _ _ (simp append_assoc) refl c.from_residual-in_err-write-5.ensures.1 four c.in_err-write-5.ensures

pub returns-clause-writing : goal.returns-clause-writing
unfolding accepted_text
returns-clause-writing g c =
    let features = decimal c.args.features in let nodes = decimal c.args.nodes in
    let one = wrote_next _ _ _ [] first _ _ refl (wrote_nothing _) c.in_ok-write.ensures in
    let two = wrote_next _ _ _ first features _ _ (c.as_bytes.ensures.value ∙ c.format.ensures.text) one c.in_ok-write-2.ensures in
    let three = wrote_next _ _ _ (first ++ features) third _ _ refl two c.in_ok-write-3.ensures in
    let four = wrote_next _ _ _ (first ++ features ++ third) nodes _ _ (c.as_bytes-2.ensures.value ∙ c.format-2.ensures.text) three c.in_ok-write-4.ensures in
    wrote_all _ _ _ _ tt (simp append_assoc) (wrote_next _ _ _ (first ++ features ++ third ++ nodes) fifth _ _ refl four c.in_ok-write-5.ensures)
