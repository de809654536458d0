-- What is read before sources are assembled: the sources, and the files that are named in addition to them.
use Rattle.std.specs.Prelude.{◌≡◌, ℕ, List, map, Option, None, Result, Ok, Err}
use Rattle.std.specs.Borrow.{Bor}
use Rattle.std.specs.String.{string_bytes}
use Rattle.c25_chain.specs.Refusal.{Fault}
use Rattle.c25_disk.specs.Held.{Held}
use Rattle.c25_meaning_common.specs.Results.{IsNoMemory}
use Rattle.c25_meaning_expansion.specs.Files.{Files}
use Rattle.c25_options.specs.Task.{text_of}
use Rattle.c25_options.specs.declared.task.RunFiles.{RunFiles}
use Rattle.c25_inputs.specs.Files.{AfterOptional, AfterSources, SourceNames, assembled_in}
use Rattle.c25_inputs.specs.declared.sources.Inputs.{Inputs}
use Rattle.c25_inputs.specs.declared.sources.TextsBeside.{TextsBeside}

-- what follows the texts of the files in addition to sources, in their order, or that one of them cannot be
-- read
abbrev pub AfterBeside : {A : Type 0} → Held → RunFiles → (next : (command samples schedule : List ℕ) → Result A Fault → Type 0) → Result A Fault → Type 0
AfterBeside held files next answer =
    AfterOptional held (text_of files.command) (λ command.
    AfterOptional held (text_of files.samples) (λ samples.
    AfterOptional held (text_of files.schedule) (next command samples))) answer

-- an answer has these texts
abbrev pub AreTexts : (command samples schedule : List ℕ) → Result TextsBeside Fault → Type 0
AreTexts command samples schedule (Ok texts) =
    (string_bytes texts.command ≡ command) × (string_bytes texts.samples ≡ samples) × (string_bytes texts.schedule ≡ schedule)
AreTexts command samples schedule (Err fault) = ⊥

-- the texts of the files in addition to sources, or that one of them cannot be read
abbrev pub ReadsBeside : Held → RunFiles → Result TextsBeside Fault → Type 0
ReadsBeside held files answer = AfterBeside held files AreTexts answer

-- what follows the texts of the sources and of the files in addition to them, or that one of them has a fault
abbrev pub AfterInputs : {A : Type 0} → Held → SourceNames → RunFiles → (next : Files → (command samples schedule : List ℕ) → Result A Fault → Type 0) → Result A Fault → Type 0
AfterInputs held sources files next answer = AfterSources held sources (λ given. AfterBeside held files (next given)) answer

-- these are the files, the names of what is assembled, those of the sources and the texts, unless memory ran out
abbrev pub AreInputs : SourceNames → Files → (command samples schedule : List ℕ) → Result Inputs Fault → Type 0
AreInputs sources given command samples schedule (Ok inputs) =
    (inputs.files ≡ given) × (map string_bytes inputs.names.items ≡ assembled_in sources)
    × (string_bytes inputs.beside.command ≡ command) × (string_bytes inputs.beside.samples ≡ samples) × (string_bytes inputs.beside.schedule ≡ schedule)
    × (map string_bytes inputs.shown.items ≡ sources.names)
AreInputs sources given command samples schedule (Err fault) = IsNoMemory fault

-- the sources of names and the files in addition to them, or the first that has a fault
abbrev pub ReadsInputs : Held → SourceNames → RunFiles → Result Inputs Fault → Type 0
ReadsInputs held sources files answer = AfterInputs held sources files (AreInputs sources) answer

-- a command file, and no samples and no schedule
abbrev pub command_alone : Option (Bor (List ℕ)) → RunFiles
command_alone command = record { command = command; samples = None; schedule = None }
