use Rattle.std.proofs.Common.{◌≡◌, sym, subst, arith}
use Rattle.std.proofs.lemmas.Grind.{common_steps}
use Rattle.c25_meaning_objects.specs.Module.{Contents, IsModule, has_sections, lists_fit}
use Rattle.c25_module.specs.declared.parts.Parts.{Parts}
use Rattle.c25_module.specs.View.{contents, sections_data}
use Rattle.c25_module.proofs.Texts.{both}
use Rattle.c25_module.proofs.Fitting.{ListsFit, lists_fit_each}
use Rattle.c25_module.proofs.Small.{symbols_small, files_small}
use Rattle.c25_records.proofs.writing.put_module.Goals as goal

-- the lists of a module fit
fit : (m : Contents) (parts : Parts) → contents parts ≡ m → IsModule m → ListsFit (contents parts)
fit m parts kept is =
    let IsOne : Contents → Type 0 = λ d. IsModule d in
    let lists = (subst IsOne (sym kept) is).lists in
    (lists_fit_each (contents parts) (both (has_sections (contents parts)) (lists_fit (contents parts)) lists).1).0

pub put_first-requires-clause-sections : goal.put_first-requires-clause-sections
put_first-requires-clause-sections c = (fit c.args.object.now c.parts-parts.result.now c.parts-parts.ensures.kept c.parts-parts.ensures.spelled).sections

pub put_first-requires-clause-symbols : goal.put_first-requires-clause-symbols
put_first-requires-clause-symbols c =
    let parts = c.parts-parts.result.now in
    symbols_small parts.version (sections_data parts.sections.items) parts.symbols.items (fit c.args.object.now parts c.parts-parts.ensures.kept c.parts-parts.ensures.spelled).symbols

pub put_second-requires : goal.put_second-requires
put_second-requires c =
    let parts = c.parts-parts.result.now in
    files_small parts.files.items (fit c.args.object.now parts c.parts-parts.ensures.kept c.parts-parts.ensures.spelled).files

pub returns : goal.returns
returns c = grind (arith, common_steps)
