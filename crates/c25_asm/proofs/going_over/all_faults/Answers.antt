use Rattle.std.proofs.Common.{ap, map, ◌∙◌}
use Rattle.c25_meaning_assembly.specs.AllFaults.{all_faults}
use Rattle.c25_phases.specs.View.{fault_of}
use Rattle.c25_asm.proofs.GoingOver.{first_of_all}
use Rattle.c25_asm.proofs.going_over.all_faults.Goals as goal

pub returns : goal.returns
returns c =
    ap (map fault_of) c.truncate.ensures.items
    ∙ first_of_all c.args.most c.in_ok-faults.faults.items (all_faults c.args.files.now c.args.name.now) c.in_ok-faults.ensures
