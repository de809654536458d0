use Rattle.c25_meaning_assembly.specs.AllFaults.{all_faults}
use Rattle.c25_meaning_assembly.specs.ModuleOfSource.{assembled}
use Rattle.c25_asm.proofs.AllFaults.{first_is, none_then, source_has, whole_then}
use Rattle.c25_asm.proofs.laws.the_first_of_all_faults_is_the_one_that_is_reported.Goals as goal

pub returns-clause-none : goal.returns-clause-none
returns-clause-none c = λ files name.
    (whole_then (assembled files name) (all_faults files name) (source_has files name), none_then (assembled files name) (all_faults files name) (source_has files name))

pub returns-clause-first : goal.returns-clause-first
returns-clause-first c = λ files name fault is. first_is (assembled files name) (all_faults files name) fault (source_has files name) is
