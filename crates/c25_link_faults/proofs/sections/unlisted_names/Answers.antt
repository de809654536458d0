use Rattle.c25_cmd.specs.View.{placings_of}
use Rattle.c25_link_faults.specs.View.{placing_names}
use Rattle.c25_link_faults.proofs.sections.unlisted_names.Goals as goal

pub returns : goal.returns
returns c = c.in_ok-add_all.ensures (placing_names (placings_of c.args.placings.now)) c.in_ok-names.ensures
