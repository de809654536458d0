use Rattle.std.proofs.Common.{sym, subst}
use Rattle.c25_macro.specs.Expander.{Expansion}
use Rattle.c25_macro.specs.Expanders.{expansion_of}
use Rattle.c25_meaning_expansion.specs.ExpansionRuns.{start_of}
use Rattle.c25_meaning_assembly.specs.ModuleOfSource.{LinesSoFar, no_lines, passed_from}
use Rattle.c25_asm.specs.Coming.{Comes}
use Rattle.c25_asm.proofs.Coming.{begins}
use Rattle.c25_asm.proofs.assembly.pass_all.Goals as goal

pub returns : goal.returns
returns c =
    let files = c.args.files.now in
    let name = c.args.name.now in
    let meant = passed_from files name (start_of files name) in
    let first = subst (λ (e : Expansion). Comes c.args.listed e.files e.name e.stage no_lines meant) (sym c.new-expander.ensures) (begins c.args.listed files name) in
    c.pass_rest.ensures meant (subst (λ (a : LinesSoFar). Comes c.args.listed (expansion_of c.new-expander.result).files (expansion_of c.new-expander.result).name (expansion_of c.new-expander.result).stage a meant) (sym c.in_ok-passed.ensures) first)
