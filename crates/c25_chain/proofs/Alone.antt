-- A source's module, or why there is none, with the chain's faults.
use Rattle.std.proofs.Common.{◌≡◌, Result, Ok, Err, refl, ap, sym, ◌∙◌, subst}
use Rattle.c25_meaning_common.specs.Results.{◌>>=◌, FailsBy, told}
use Rattle.c25_meaning_common.specs.declared.failure.Failure.{Failure}
use Rattle.c25_meaning_common.specs.declared.failure.Failure.TheVariants.{NoMemory, Fault}
use Rattle.c25_meaning_language.specs.ExpansionFault.{ExpansionFault}
use Rattle.c25_meaning_objects.specs.Module.{Contents}
use Rattle.c25_meaning_assembly.specs.ModuleOfSource.{Assembled}
use Rattle.c25_phases.specs.View.{fault_of}
use Rattle.c25_phases.specs.declared.fault.AsmFault.{AsmFault}
use Rattle.c25_chain.specs.Modules.{asm_refusal}
use Rattle.c25_chain.specs.Refusal as chain
use Rattle.c25_chain.specs.Refusal.{refusal_of}
use Rattle.c25_chain.specs.Sources.{IsToldAs}

-- a failure of the assembler, as the chain's, is the failure that is meant
pub fails_as : {A : Type 0} (meant : Result A ExpansionFault) (failure : Failure AsmFault) (answer : chain.Fault) → FailsBy fault_of meant failure → IsToldAs failure answer
    → FailsBy refusal_of (told asm_refusal meant) answer
fails_as meant (NoMemory n) (NoMemory m) h is = tt
fails_as meant (NoMemory n) (Fault f) h is = absurd is
fails_as meant (Fault f) (NoMemory m) h is = tt
fails_as meant (Fault f) (Fault g) h is = ap (told asm_refusal) h ∙ ap Err (sym is)

told_alone : (r : Result Assembled ExpansionFault) → told asm_refusal (r >>= λ a. Ok a.contents) ≡ (told asm_refusal r >>= λ a. Ok a.contents)
told_alone (Ok a) = refl
told_alone (Err f) = refl

-- the module alone
pub module_found : (r : Result Assembled ExpansionFault) (m : Contents) → (r >>= λ a. Ok a.contents) ≡ Ok m → (told asm_refusal r >>= λ a. Ok a.contents) ≡ Ok m
module_found r m h = sym (told_alone r) ∙ ap (told asm_refusal) h

-- why a source has no module
pub module_refused : (r : Result Assembled ExpansionFault) (failure : Failure AsmFault) (answer : chain.Fault) → FailsBy fault_of (r >>= λ a. Ok a.contents) failure → IsToldAs failure answer
    → FailsBy refusal_of (told asm_refusal r >>= λ a. Ok a.contents) answer
module_refused r failure answer h is =
    subst (λ x. FailsBy refusal_of x answer) (told_alone r) (fails_as (r >>= λ a. Ok a.contents) failure answer h is)
