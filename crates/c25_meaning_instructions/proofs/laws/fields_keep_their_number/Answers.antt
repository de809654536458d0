use Rattle.c25_meaning_instructions.proofs.RelocatedFields.{number_below, field_read, others_stay, filled_zero}
use Rattle.c25_meaning_instructions.proofs.laws.fields_keep_their_number.Goals as goal

pub returns-clause-fits : goal.returns-clause-fits
returns-clause-fits c = number_below

pub returns-clause-read : goal.returns-clause-read
returns-clause-read c = field_read

pub returns-clause-others : goal.returns-clause-others
returns-clause-others c = others_stay

pub returns-clause-zero : goal.returns-clause-zero
returns-clause-zero c = filled_zero
