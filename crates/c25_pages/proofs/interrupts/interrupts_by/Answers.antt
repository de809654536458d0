use Rattle.std.proofs.Common.{subst}
use Rattle.c25_meaning_pages.specs.declared.known.Known.{Known}
use Rattle.c25_meaning_pages.specs.Routines.{Begins}
use Rattle.c25_pages.specs.Table.{knowledge_of}
use Rattle.c25_pages.proofs.interrupts.interrupts_by.Goals as goal

pub returns : goal.returns
returns c = λ yes on.
    subst (λ (k : Known). Begins (knowledge_of c.args.table.now) k c.args.vector c.args.row.now.context c.args.row.now.address) c.known_on_entry-entry.ensures (c.begins.ensures yes)
