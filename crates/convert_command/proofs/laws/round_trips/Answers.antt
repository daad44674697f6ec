use Rattle.convert_command.proofs.Inputs.{values_of_file}
use Rattle.convert_command.proofs.LaidValues.{ReadBack, laid_values}
use Rattle.convert_command.proofs.Turning.{turns, turns_some}
use Rattle.convert_command.proofs.laws.round_trips.Goals as goal

pub returns : goal.returns
returns c =
    let features = c.laid_features_read_back.ensures in
    let files = c.plain_files_are_files.ensures in
    let laws : ReadBack = record { clean = features.clean; shown = features.shown; file = files.file; header = files.header } in
    record {
      laid = laid_values laws;
      some = λ shapes image input values fits is. turns_some shapes input (values_of_file c.values_have_spellings.ensures shapes image values) (laid_values laws shapes image values fits) is;
      spelled = λ shapes image input bytes values fits is are. turns shapes input bytes (laid_values laws shapes image values fits) is are;
    }
