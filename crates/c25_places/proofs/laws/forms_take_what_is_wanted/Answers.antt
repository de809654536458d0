use Rattle.c25_places.proofs.Shapes.{form_refused, form_taken}
use Rattle.c25_places.proofs.laws.forms_take_what_is_wanted.Goals as goal

pub returns-clause-taken : goal.returns-clause-taken
returns-clause-taken c = form_taken

pub returns-clause-refused : goal.returns-clause-refused
returns-clause-refused c = form_refused
