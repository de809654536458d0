use Rattle.std.proofs.Common.{sym, subst}
use Rattle.c25_macro.specs.Expander.{Expansion}
use Rattle.c25_macro.specs.Expanders.{expansion_of}
use Rattle.c25_warnings.specs.Coming.{StillComes}
use Rattle.c25_warnings.specs.SourceLines.{SourceLines, no_lines, source_lines}
use Rattle.c25_warnings.proofs.Coming.{begins}
use Rattle.c25_warnings.proofs.lines.all_lines.Goals as goal

pub returns : goal.returns
returns c =
    let files = c.args.files.now in
    let name = c.args.name.now in
    let meant = source_lines files name in
    let first = subst (λ (e : Expansion). StillComes e.files e.stage no_lines meant) (sym c.new-expander.ensures) (begins files name) in
    c.with_rest.ensures meant (subst (λ (a : SourceLines). StillComes (expansion_of c.new-expander.result).files (expansion_of c.new-expander.result).stage a meant) (sym c.requires) first)
