use Rattle.std.proofs.Common.{List, ℕ, ap, ◌++◌, map, ◌∙◌}
use Rattle.std.specs.String.{string_bytes}
use Rattle.c25_meaning_assembly.specs.AllFaults.{all_faults}
use Rattle.c25_meaning_language.specs.ExpansionFault.{ExpansionFault}
use Rattle.c25_phases.specs.View.{fault_of}
use Rattle.c25_phases.specs.declared.fault.AsmFault.{AsmFault}
use Rattle.c25_explain.specs.AllFaults.{source_lines}
use Rattle.c25_explain.proofs.ShownFaults.{enough}
use Rattle.c25_explain.proofs.all_faults.push_source.Goals as goal

pub returns : goal.returns
returns c =
    let name = c.args.source.now in
    let old = string_bytes c.args.text.now in
    c.in_ok-push_faults.ensures
    ∙ ap (λ (fs : List AsmFault). old ++ source_lines name (map fault_of fs)) c.as_slice-2.ensures.value
    ∙ ap (λ (fs : List ExpansionFault). old ++ source_lines name fs) c.in_ok-faults.ensures
    ∙ ap (λ (t : List ℕ). old ++ t) (enough name (all_faults c.args.files.now name))
