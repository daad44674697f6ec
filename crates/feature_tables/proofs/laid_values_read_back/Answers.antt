use Rattle.feature_tables.proofs.Values.{value_read}
use Rattle.feature_tables.proofs.laid_values_read_back.Goals as goal

pub returns-clause-whole : goal.returns-clause-whole
returns-clause-whole c = λ kind content rest is room. (value_read kind content rest is room).whole

pub returns-clause-size : goal.returns-clause-size
returns-clause-size c = λ kind content rest is room. (value_read kind content rest is room).size

pub returns-clause-shown : goal.returns-clause-shown
returns-clause-shown c = λ kind content rest is room. (value_read kind content rest is room).same
