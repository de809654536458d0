use Rattle.std.proofs.Common.{List, String, map, subst, sym}
use Rattle.std.specs.declared.alloc.Global.{Global}
use Rattle.c25_cmd.specs.View.{command_data}
use Rattle.c25_meaning_common.specs.declared.placed.Placed.{Placed}
use Rattle.c25_meaning_linking.specs.declared.link_fault.LinkFault.{LinkFault}
use Rattle.c25_link_faults.specs.Faults.{AreLinkFaults}
use Rattle.c25_place.specs.View.{refusal_of}
use Rattle.c25_link_faults.proofs.all.all_link_faults.Goals as goal

pub returns-in-Ok : goal.returns-in-Ok
returns-in-Ok c =
    subst (λ (fs : List (Placed (String Global) LinkFault)). AreLinkFaults c.args.modules.now (command_data c.args.command.now) (map refusal_of fs)) (sym c.new.ensures.items) (c.in-Ok.field-0, c.in-Ok.ensures)
