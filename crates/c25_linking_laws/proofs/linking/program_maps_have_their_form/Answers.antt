use Rattle.c25_linking_laws.proofs.Printed.{is_printed, program_places}
use Rattle.c25_linking_laws.proofs.linking.program_maps_have_their_form.Goals as goal

pub returns-clause-places : goal.returns-clause-places
returns-clause-places c = program_places

pub returns-clause-printed : goal.returns-clause-printed
returns-clause-printed c = is_printed
