use Rattle.std.proofs.Common.{IfOk, map, string_bytes, subst, sym}
use Rattle.c25_check.specs.Checking.{TellsPages, operands_meant}
use Rattle.c25_check.specs.declared.showing.Paging.{Paging}
use Rattle.c25_check.proofs.check.pages_told.Goals as goal

pub returns-in-Certain : goal.returns-in-Certain
returns-in-Certain c = λ command program.
    let image = c.args.program.linked.now.image in
    let operands = operands_meant c.args.files.now (map string_bytes c.args.program.sources.now) c.args.program.modules.now image in
    subst (λ (paging : Paging). IfOk c.pages_found.result (λ told. TellsPages c.args.showing.explain paging operands image (string_bytes told.warnings) (string_bytes told.facts)))
    (sym c.in-Certain.is) (c.pages_found.ensures command program)

pub returns-in-All : goal.returns-in-All
returns-in-All c = λ command program.
    let image = c.args.program.linked.now.image in
    let operands = operands_meant c.args.files.now (map string_bytes c.args.program.sources.now) c.args.program.modules.now image in
    subst (λ (paging : Paging). IfOk c.pages_found-in-All.result (λ told. TellsPages c.args.showing.explain paging operands image (string_bytes told.warnings) (string_bytes told.facts)))
    (sym c.in-All.is) (c.pages_found-in-All.ensures command program)
