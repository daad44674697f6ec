use Rattle.std.proofs.Common.{◌∙◌, ap, sym, subst}
use Rattle.std.specs.List.{AllByRecursion}
use Rattle.shape_features.specs.Features.{features_over}
use Rattle.wkb_features.specs.Values.{AreValues, HasValue}
use Rattle.convert_command.proofs.Inputs.{values_of_file}
use Rattle.convert_command.proofs.Turning.{values_spelled}
use Rattle.convert_command.proofs.laws.values_are_convertible.Goals as goal

pub returns : goal.returns
returns c = record {
  some = λ image input is. subst (AllByRecursion HasValue) (sym is.features) (values_of_file c.values_have_spellings.ensures is.shapes image is.file);
  spelled = λ shapes image input bytes values is are.
      let same = c.files_have_one_list.ensures is.shapes shapes image is.file values in
      values_spelled shapes bytes (subst (λ fs. AreValues fs bytes) (is.features ∙ ap features_over same) are);
}
