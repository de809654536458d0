use Rattle.std.proofs.Common.{◌≡◌, ◌++◌, List, OnOk, Option, Some, ap, subst, sym, ◌∙◌}
use Rattle.std.specs.List.{flat_map}
use Rattle.std.specs.Option.{option_map}
use Rattle.c25_absolute_operands.specs.Operands.{line_operands, operands_of_lines}
use Rattle.c25_absolute_operands.proofs.Names.{lines_same}
use Rattle.c25_line_warnings.specs.View.{lines_of}
use Rattle.c25_line_warnings.specs.declared.source_line.SourceLine.{SourceLine}
use Rattle.c25_meaning_assembly.specs.Sections.{Definitions}
use Rattle.c25_meaning_language.specs.Value.{Table}
use Rattle.c25_page_reports.specs.declared.operands.AbsoluteOperand.{AbsoluteOperand}
use Rattle.c25_phases.specs.View.{symbols_of}
use Rattle.c25_warnings.specs.Coming.{source_of}
use Rattle.c25_warnings.specs.SourceLines as source
use Rattle.c25_warnings.specs.declared.lines.SourceLines as code
use Rattle.c25_absolute_operands.proofs.sources.push_source.Goals as goal

pub returns : goal.returns
returns c =
    let number = c.args.number in
    let a : source.SourceLines = source_of c.in-Some.field-0 in
    let p = a.progress in
    let found : source.source_lines c.args.files.now c.args.name.now ≡ Some a = sym c.in_ok-progress.ensures ∙ ap (λ (o : Option code.SourceLines). option_map source_of o) c.in-Some.is in
    let read : c.into_inner.result ≡ c.in-Some.field-0.progress.value = c.into_inner.ensures in
    let names : c.into_symbols-symbols.result.entries ≡ p.names = ap (λ (t : Table). t.entries) (c.into_symbols-symbols.ensures ∙ ap symbols_of read) in
    let lines : c.as_slice.result.now ≡ c.in-Some.field-0.lines.items = c.as_slice.ensures.value in
    let same : flat_map (line_operands c.into_symbols-symbols.result.entries number) (lines_of c.as_slice.result.now) ≡ operands_of_lines number (source.source_lines c.args.files.now c.args.name.now) =
    ap (λ (ls : List SourceLine). flat_map (line_operands c.into_symbols-symbols.result.entries number) (lines_of ls)) lines
    ∙ ap (λ (ns : Definitions). flat_map (line_operands ns number) a.lines) names
    ∙ sym (lines_same p.names p.declared number a.lines)
    ∙ sym (ap (operands_of_lines number) found) in
    subst (λ (os : List AbsoluteOperand). OnOk c.push_lines.result (c.push_lines.new.operands.items ≡ c.args.operands.now.items ++ os)) same c.push_lines.ensures
