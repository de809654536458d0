-- Work over files that were read from a disk.
use Rattle.std.proofs.Common.{◌≡◌, inl, inr, sym, subst, ℕ, List, [], ◌∷◌}
use Rattle.std.specs.Prelude.{IfOk, Option, Result, Ok, Err}
use Rattle.std.specs.Result.{IsErrAnd}
use Rattle.c25_chain.specs.Built.{Builds}
use Rattle.c25_chain.specs.Chain.{given_of}
use Rattle.c25_chain.specs.Refusal.{Fault}
use Rattle.c25_chain.specs.declared.built.Built.{Built}
use Rattle.c25_chain.specs.Ready.{Readies}
use Rattle.c25_chain.specs.declared.ready.Ready.{Ready}
use Rattle.c25_disk.specs.Held.{Held, IsAllOf}
use Rattle.c25_meaning_expansion.specs.Files.{Files}
use Rattle.c25_meaning_common.specs.Results.{IsNoMemory}
use Rattle.c25_tasks.specs.Building.{BuildsOver}
use Rattle.c25_options.specs.declared.task.RunFiles.{RunFiles}
use Rattle.c25_inputs.specs.Files.{SourceNames, assembled_in}
use Rattle.c25_inputs.proofs.Fails.{over_short, unread_short}
use Rattle.c25_tasks.specs.Running.{ReadiesFrom, ReadiesInput, ReadiesOver, ReadiesText, stdin}
use Rattle.c25_tasks.specs.Tells.{IsOfSources}

-- ---- programs

pub builds_over : (held : Held) (given : Files) (names sources : List (List ℕ)) (command shown : List ℕ) (answer : Result Built Fault) → sources ≡ names → shown ≡ command → BuildsOver held given sources shown answer → BuildsOver held given names command answer
builds_over held given names sources command shown answer named same comes =
    subst (λ (t : List ℕ). BuildsOver held given names t answer) same (subst (λ (ns : List (List ℕ)). BuildsOver held given ns shown answer) named comes)

pub builds_short : (held : Held) (given : Files) (names : List (List ℕ)) (command : List ℕ) (fault : Fault) → IsNoMemory fault → BuildsOver held given names command (Err fault)
builds_short held given names command fault short = over_short held given (λ files result. Builds files names command result) fault short

-- ---- programs that are ready to run

pub readies_over : (held : Held) (given : Files) (names sources : List (List ℕ)) (command samples schedule command_shown samples_shown schedule_shown : List ℕ) (answer : Result Ready Fault) → sources ≡ names → command_shown ≡ command → samples_shown ≡ samples → schedule_shown ≡ schedule → ReadiesOver held given sources command_shown samples_shown schedule_shown answer → ReadiesOver held given names command samples schedule answer
readies_over held given names sources command samples schedule command_shown samples_shown schedule_shown answer named same_command same_samples same_schedule comes =
    let with_names = subst (λ (ns : List (List ℕ)). ReadiesOver held given ns command_shown samples_shown schedule_shown answer) named comes in
    let with_command = subst (λ (t : List ℕ). ReadiesOver held given names t samples_shown schedule_shown answer) same_command with_names in
    let with_samples = subst (λ (t : List ℕ). ReadiesOver held given names command t schedule_shown answer) same_samples with_command in
    subst (λ (t : List ℕ). ReadiesOver held given names command samples t answer) same_schedule with_samples

pub readies_short : (held : Held) (given : Files) (names : List (List ℕ)) (command samples schedule : List ℕ) (fault : Fault) → IsNoMemory fault → ReadiesOver held given names command samples schedule (Err fault)
readies_short held given names command samples schedule fault short =
    over_short held given (λ all result. Readies (given_of all names command samples schedule) result) fault short

-- what is ready is a program of sources
of_sources : (held : Held) (given : Files) (names : List (List ℕ)) (command samples schedule : List ℕ) (answer : Result Ready Fault) → ReadiesOver held given names command samples schedule answer → IfOk answer IsOfSources
of_sources held given names command samples schedule (Ok ready) (Ok told, (files, copied, is), same) =
    subst IsOfSources (sym same) (given_of files names command samples schedule, is)
of_sources held given names command samples schedule (Ok ready) (Err failure, over, same) = absurd same
of_sources held given names command samples schedule (Err fault) comes = tt

pub of_files : (held : Held) (sources : SourceNames) (files : RunFiles) (answer : Result Ready Fault) → ReadiesFrom held sources files answer → IfOk answer IsOfSources
of_files held sources files (Err fault) from = tt
of_files held sources files (Ok ready) (inl refused) = absurd refused
of_files held sources files (Ok ready) (inr (given, read, inl refused)) = absurd refused
of_files held sources files (Ok ready) (inr (given, read, inr (command, c, inl refused))) = absurd refused
of_files held sources files (Ok ready) (inr (given, read, inr (command, c, inr (samples, s, inl refused)))) = absurd refused
of_files held sources files (Ok ready) (inr (given, read, inr (command, c, inr (samples, s, inr (schedule, t, over))))) = of_sources held given (assembled_in sources) command samples schedule (Ok ready) over

pub of_input : (held : Held) (input : Option (List ℕ)) (answer : Result Ready Fault) → ReadiesInput held input answer → IfOk answer IsOfSources
of_input held input answer (inl (text, all, over)) = of_sources held ((stdin, text) ∷ []) (stdin ∷ []) [] [] [] answer over
of_input held input (Ok ready) (inr unread) = absurd unread
of_input held input (Err fault) (inr unread) = tt

-- ---- standard input

pub ready_input : (held : Held) (input : Option (List ℕ)) (text shown : List ℕ) (answer : Result Ready Fault) → IsAllOf input text → shown ≡ text → ReadiesText held shown answer → ReadiesInput held input answer
ready_input held input text shown answer all same ran = inl (text, all, subst (λ (t : List ℕ). ReadiesText held t answer) same ran)

pub input_short : (held : Held) (input : Option (List ℕ)) (fault : Fault) → IsNoMemory fault → ReadiesInput held input (Err fault)
input_short held input fault short = inr (unread_short stdin fault short)

pub text_short : (held : Held) (text : List ℕ) (fault : Fault) → IsNoMemory fault → ReadiesText held text (Err fault)
text_short held text fault short = readies_short held ((stdin, text) ∷ []) (stdin ∷ []) [] [] [] fault short

pub text_ready : (held : Held) (text : List ℕ) (given : Files) (names : List (List ℕ)) (answer : Result Ready Fault) → given ≡ (stdin, text) ∷ [] → names ≡ stdin ∷ [] → ReadiesOver held given names [] [] [] answer → ReadiesText held text answer
text_ready held text given names answer given_is named comes =
    let as_named = subst (λ (ns : List (List ℕ)). ReadiesOver held given ns [] [] [] answer) named comes in
    subst (λ (files : Files). ReadiesOver held files (stdin ∷ []) [] [] [] answer) given_is as_named

pub input_told : (held : Held) (input : Option (List ℕ)) (answer : Result Ready Fault) → IsErrAnd answer IsNoMemory → ReadiesInput held input answer
input_told held input (Ok ready) short = absurd short
input_told held input (Err fault) short = input_short held input fault short

pub text_told : (held : Held) (text : List ℕ) (answer : Result Ready Fault) → IsErrAnd answer IsNoMemory → ReadiesText held text answer
text_told held text (Ok ready) short = absurd short
text_told held text (Err fault) short = text_short held text fault short
