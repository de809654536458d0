-- Sources that were read with the files in addition to them, and what follows.
use Rattle.std.proofs.Common.{◌≡◌, inl, inr, subst, sym, ℕ, List, map, string_bytes}
use Rattle.std.specs.Borrow.{Bor}
use Rattle.std.specs.Prelude.{Option, None, Result, Ok, Err}
use Rattle.std.specs.Result.{IsErrAnd}
use Rattle.c25_chain.specs.Refusal.{Fault}
use Rattle.c25_disk.specs.Held.{Held}
use Rattle.c25_meaning_common.specs.Results.{IsNoMemory}
use Rattle.c25_meaning_expansion.specs.Files.{Files}
use Rattle.c25_options.specs.Task.{text_of}
use Rattle.c25_options.specs.declared.task.RunFiles.{RunFiles}
use Rattle.c25_inputs.specs.Files.{AfterOptional, AfterSources, FailsWith, IsOptional, IsUnreadOptional, ReadsAll, SourceNames, assembled_in}
use Rattle.c25_inputs.specs.Inputs.{AfterBeside, AfterInputs, AreInputs, ReadsBeside, ReadsInputs, command_alone}
use Rattle.c25_inputs.specs.declared.sources.Inputs.{Inputs}
use Rattle.c25_inputs.specs.declared.sources.TextsBeside.{TextsBeside}

-- ---- texts in addition to sources

module _ {A : Type 0} (held : Held) (files : RunFiles) (next : (command samples schedule : List ℕ) → Result A Fault → Type 0) where
  pub beside_refused : (answer : Result A Fault) (fault : Fault) → ReadsBeside held files (Err fault) → IsErrAnd answer (λ e. e ≡ fault) → AfterBeside held files next answer
  beside_refused (Ok a) fault refused is = absurd is
  beside_refused (Err e) fault refused is = subst (λ (f : Fault). AfterBeside held files next (Err f)) (sym is) (by refused)
    where
      by : ReadsBeside held files (Err fault) → AfterBeside held files next (Err fault)
      by (inl unread) = inl unread
      by (inr (command, c, inl unread)) = inr (command, c, inl unread)
      by (inr (command, c, inr (samples, s, inl unread))) = inr (command, c, inr (samples, s, inl unread))
      by (inr (command, c, inr (samples, s, inr (schedule, t, none)))) = absurd none

  pub beside_read : (texts : TextsBeside) (answer : Result A Fault) → ReadsBeside held files (Ok texts) → next (string_bytes texts.command) (string_bytes texts.samples) (string_bytes texts.schedule) answer → AfterBeside held files next answer
  beside_read texts answer (inl unread) told = absurd unread
  beside_read texts answer (inr (command, c, inl unread)) told = absurd unread
  beside_read texts answer (inr (command, c, inr (samples, s, inl unread))) told = absurd unread
  beside_read texts answer (inr (command, c, inr (samples, s, inr (schedule, t, (of_command, of_samples, of_schedule))))) told =
      let with_command = subst (λ (x : List ℕ). next x (string_bytes texts.samples) (string_bytes texts.schedule) answer) of_command told in
      let with_samples = subst (λ (x : List ℕ). next command x (string_bytes texts.schedule) answer) of_samples with_command in
      inr (command, c, inr (samples, s, inr (schedule, t, subst (λ (x : List ℕ). next command samples x answer) of_schedule with_samples)))

-- ---- sources with them

pub inputs_short : (sources : SourceNames) (given : Files) (command samples schedule : List ℕ) (answer : Result Inputs Fault) → IsErrAnd answer IsNoMemory → AreInputs sources given command samples schedule answer
inputs_short sources given command samples schedule (Ok inputs) short = absurd short
inputs_short sources given command samples schedule (Err fault) short = short

module _ {A : Type 0} (held : Held) (sources : SourceNames) (files : RunFiles) (next : Files → (command samples schedule : List ℕ) → Result A Fault → Type 0) where
  pub inputs_refused : (answer : Result A Fault) (fault : Fault) → ((given : Files) (command samples schedule : List ℕ) (f : Fault) → IsNoMemory f → next given command samples schedule (Err f))
      → ReadsInputs held sources files (Err fault) → IsErrAnd answer (λ e. e ≡ fault) → AfterInputs held sources files next answer
  inputs_refused (Ok a) fault short refused is = absurd is
  inputs_refused (Err e) fault short refused is = subst (λ (f : Fault). AfterInputs held sources files next (Err f)) (sym is) (by refused)
    where
      by : ReadsInputs held sources files (Err fault) → AfterInputs held sources files next (Err fault)
      by (inl unread) = inl unread
      by (inr (given, read, inl unread)) = inr (given, read, inl unread)
      by (inr (given, read, inr (command, c, inl unread))) = inr (given, read, inr (command, c, inl unread))
      by (inr (given, read, inr (command, c, inr (samples, s, inl unread)))) = inr (given, read, inr (command, c, inr (samples, s, inl unread)))
      by (inr (given, read, inr (command, c, inr (samples, s, inr (schedule, t, none))))) =
          inr (given, read, inr (command, c, inr (samples, s, inr (schedule, t, short given command samples schedule fault none))))

  pub inputs_read : (inputs : Inputs) (answer : Result A Fault) → ReadsInputs held sources files (Ok inputs)
      → (map string_bytes inputs.names.items ≡ assembled_in sources → next inputs.files (string_bytes inputs.beside.command) (string_bytes inputs.beside.samples) (string_bytes inputs.beside.schedule) answer)
      → AfterInputs held sources files next answer
  inputs_read inputs answer (inl unread) told = absurd unread
  inputs_read inputs answer (inr (given, read, inl unread)) told = absurd unread
  inputs_read inputs answer (inr (given, read, inr (command, c, inl unread))) told = absurd unread
  inputs_read inputs answer (inr (given, read, inr (command, c, inr (samples, s, inl unread)))) told = absurd unread
  inputs_read inputs answer (inr (given, read, inr (command, c, inr (samples, s, inr (schedule, t, (of_files, named, of_command, of_samples, of_schedule, shown)))))) told =
      let with_files = subst (λ (x : Files). next x (string_bytes inputs.beside.command) (string_bytes inputs.beside.samples) (string_bytes inputs.beside.schedule) answer) of_files (told named) in
      let with_command = subst (λ (x : List ℕ). next given x (string_bytes inputs.beside.samples) (string_bytes inputs.beside.schedule) answer) of_command with_files in
      let with_samples = subst (λ (x : List ℕ). next given command x (string_bytes inputs.beside.schedule) answer) of_samples with_command in
      inr (given, read, inr (command, c, inr (samples, s, inr (schedule, t, subst (λ (x : List ℕ). next given command samples x answer) of_schedule with_samples))))

-- what is known of them
pub inputs_are : (held : Held) (sources : SourceNames) (files : RunFiles) (inputs : Inputs) → ReadsInputs held sources files (Ok inputs)
    → ReadsAll held sources (Ok inputs.files) × (map string_bytes inputs.names.items ≡ assembled_in sources) × IsOptional held (text_of files.command) (string_bytes inputs.beside.command)
inputs_are held sources files inputs (inl unread) = absurd unread
inputs_are held sources files inputs (inr (given, read, inl unread)) = absurd unread
inputs_are held sources files inputs (inr (given, read, inr (command, c, inl unread))) = absurd unread
inputs_are held sources files inputs (inr (given, read, inr (command, c, inr (samples, s, inl unread)))) = absurd unread
inputs_are held sources files inputs (inr (given, read, inr (command, c, inr (samples, s, inr (schedule, t, (of_files, named, of_command, of_samples, of_schedule, shown)))))) =
    (subst (λ (x : Files). ReadsAll held sources (Ok x)) (sym of_files) read, named, subst (IsOptional held (text_of files.command)) (sym of_command) c)

-- the names of the sources
pub inputs_shown : (held : Held) (sources : SourceNames) (files : RunFiles) (inputs : Inputs) → ReadsInputs held sources files (Ok inputs) → map string_bytes inputs.shown.items ≡ sources.names
inputs_shown held sources files inputs (inl unread) = absurd unread
inputs_shown held sources files inputs (inr (given, read, inl unread)) = absurd unread
inputs_shown held sources files inputs (inr (given, read, inr (command, c, inl unread))) = absurd unread
inputs_shown held sources files inputs (inr (given, read, inr (command, c, inr (samples, s, inl unread)))) = absurd unread
inputs_shown held sources files inputs (inr (given, read, inr (command, c, inr (samples, s, inr (schedule, t, (of_files, named, of_command, of_samples, of_schedule, shown)))))) = shown

-- ---- a command file alone

none_unread : {A : Type 0} {P : Type 0} (answer : Result A Fault) → FailsWith answer (IsUnreadOptional None) → P
none_unread (Ok a) unread = absurd unread
none_unread (Err fault) unread = absurd unread

pub of_command_alone : {A : Type 0} (held : Held) (sources : SourceNames) (asked : Option (Bor (List ℕ))) (files : RunFiles) (next : Files → List ℕ → Result A Fault → Type 0) (answer : Result A Fault) → files ≡ command_alone asked
    → AfterInputs held sources files (λ given command samples schedule. next given command) answer
    → AfterSources held sources (λ given. AfterOptional held (text_of asked) (next given)) answer
of_command_alone held sources asked files next answer alone follows = by (subst (λ (fs : RunFiles). AfterInputs held sources fs (λ given command samples schedule. next given command) answer) alone follows)
  where
    by : AfterInputs held sources (command_alone asked) (λ given command samples schedule. next given command) answer → AfterSources held sources (λ given. AfterOptional held (text_of asked) (next given)) answer
    by (inl refused) = inl refused
    by (inr (given, read, inl unread)) = inr (given, read, inl unread)
    by (inr (given, read, inr (command, c, inl unread))) = none_unread answer unread
    by (inr (given, read, inr (command, c, inr (samples, s, inl unread)))) = none_unread answer unread
    by (inr (given, read, inr (command, c, inr (samples, s, inr (schedule, t, told))))) = inr (given, read, inr (command, c, told))
