-- Sessions over files that were read from a disk.
use Rattle.std.proofs.Common.{◌≡◌, subst, ℕ, List}
use Rattle.std.specs.Prelude.{Result, String}
use Rattle.std.specs.declared.alloc.Global.{Global}
use Rattle.c25_chain.specs.Refusal.{Fault}
use Rattle.c25_disk.specs.Held.{Held}
use Rattle.c25_meaning_expansion.specs.Files.{Files}
use Rattle.c25_tasks.specs.Debugging.{DebugsOver}

pub debugs_over : (held : Held) (given : Files) (names sources : List (List ℕ)) (command samples schedule script command_shown samples_shown schedule_shown script_shown : List ℕ) (answer : Result (String Global) Fault) → sources ≡ names → command_shown ≡ command → samples_shown ≡ samples → schedule_shown ≡ schedule → script_shown ≡ script → DebugsOver held given sources command_shown samples_shown schedule_shown script_shown answer → DebugsOver held given names command samples schedule script answer
debugs_over held given names sources command samples schedule script command_shown samples_shown schedule_shown script_shown answer named same_command same_samples same_schedule same_script comes =
    let with_names = subst (λ (ns : List (List ℕ)). DebugsOver held given ns command_shown samples_shown schedule_shown script_shown answer) named comes in
    let with_command = subst (λ (t : List ℕ). DebugsOver held given names t samples_shown schedule_shown script_shown answer) same_command with_names in
    let with_samples = subst (λ (t : List ℕ). DebugsOver held given names command t schedule_shown script_shown answer) same_samples with_command in
    let with_schedule = subst (λ (t : List ℕ). DebugsOver held given names command samples t script_shown answer) same_schedule with_samples in
    subst (λ (t : List ℕ). DebugsOver held given names command samples schedule t answer) same_script with_schedule
