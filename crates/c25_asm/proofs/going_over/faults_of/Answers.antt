use Rattle.c25_macro.specs.Expanders.{expansion_of}
use Rattle.c25_meaning_assembly.specs.AllFaults.{all_faults, faults_of}
use Rattle.c25_asm.specs.GoneOver.{gone_over_of}
use Rattle.c25_asm.proofs.GoingOver.{all_in, all_told}
use Rattle.c25_asm.proofs.going_over.faults_of.Goals as goal

pub returns : goal.returns
returns c =
    let files = c.args.files.now in
    let name = c.args.name.now in
    all_in c.faults_in.result (faults_of (gone_over_of c.go_over_rest.new.lines)) (all_faults files name)
    (all_told files name (expansion_of c.new-expander.result) _ (gone_over_of c.go_over_rest.new.lines) c.new-expander.ensures c.in_ok-lines.ensures c.in_ok-go_over_rest.ensures.over)
    c.faults_in.ensures
