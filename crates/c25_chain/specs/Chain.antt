-- What the chain answers: a program of its sources and its command, and a run of it, or the first fault.
use Rattle.std.specs.Prelude.{◌≡◌, ◌⊎◌, ℕ, List, map, Result, Ok, Err}
use Rattle.std.specs.String.{string_bytes}
use Rattle.c25_meaning_expansion.specs.Files.{Files}
use Rattle.c25_meaning_linking.specs.Linking.{ImageData}
use Rattle.c25_meaning_common.specs.Results.{◌>>=◌, told}
use Rattle.c25_meaning_processor.specs.Samples.{samples_of}
use Rattle.c25_meaning_processor.specs.Schedule.{schedule_of}
use Rattle.c25_meaning_common.specs.declared.failure.Failure.TheVariants as failure
use Rattle.c25_meaning_processor.specs.declared.sample.Sample.{Sample}
use Rattle.c25_meaning_processor.specs.declared.schedule.ScheduleEntry.{ScheduleEntry}
use Rattle.c25_chain.specs.Built.{IsBuilt, IsUnbuilt}
use Rattle.c25_chain.specs.Linked.{LinkedTexts}
use Rattle.c25_chain.specs.Refusal.{Fault, refusal_of}
use Rattle.c25_chain.specs.Run.{RunData, IsRunOf}
use Rattle.c25_chain.specs.declared.chain.Chain.{Chain}
use Rattle.c25_chain.specs.declared.fault.ChainFault.{ChainFault}
use Rattle.c25_chain.specs.declared.fault.ChainFault.TheVariants.{Schedule, Samples}

-- what the chain is given: files, the names of the sources among them, and the texts of the command file, the samples and the schedule
pub record Given : Type 0 where
  pub files : Files
  pub sources : List (List ℕ)
  pub command : List ℕ
  pub samples : List ℕ
  pub schedule : List ℕ

-- files, names and texts as one record
abbrev pub given_of : Files → (names : List (List ℕ)) → (command samples schedule : List ℕ) → Given
given_of files names command samples schedule = record { files = files; sources = names; command = command; samples = samples; schedule = schedule }

-- ---- the texts in addition to its sources

-- samples and the entries of a schedule
pub record Inputs : Type 0 where
  pub samples : List Sample
  pub entries : List ScheduleEntry

-- these samples and entries as one record
abbrev pub inputs_view : List Sample × List ScheduleEntry → Inputs
inputs_view both = record { samples = both.0; entries = both.1 }

-- the samples and the schedule of two texts, or the first fault among them
abbrev pub inputs_of : (samples schedule : List ℕ) → Result Inputs (ChainFault (List ℕ))
inputs_of samples schedule =
    told Samples (samples_of samples) >>= λ samples.
    told Schedule (schedule_of schedule) >>= λ entries.
    Ok (record { samples = samples; entries = entries })

-- the samples and the schedule that the chain is given, or the first fault among them
abbrev pub inputs_in : Given → Result Inputs (ChainFault (List ℕ))
inputs_in g = inputs_of g.samples g.schedule

-- ---- the first refusal

-- the sources have a program, but the samples or the schedule have a fault
pub record IsRefusedInput (g : Given) (r : ChainFault (List ℕ)) : Type 0 where
  pub image : ImageData
  pub texts : LinkedTexts
  pub listings : List (List ℕ)
  pub built : IsBuilt g.files g.sources g.command image texts listings
  pub refused : inputs_in g ≡ Err r

-- a source has a fault, or else the command or linking, or else the samples or the schedule
abbrev pub IsRefused : Given → ChainFault (List ℕ) → Type 0
IsRefused g r = IsUnbuilt g.files g.sources g.command r ⊎ IsRefusedInput g r

-- ---- the answer

-- the hex texts and the map of an answer
abbrev pub texts_of : Chain → LinkedTexts
texts_of c = record { page0 = string_bytes c.page0; page1 = string_bytes c.page1; map = string_bytes c.map }

-- the run of an answer
abbrev pub run_of : Chain → RunData
run_of c = record { outputs = c.outputs.items; regs = c.regs; memory = c.memory.items; outcome = c.outcome; steps = c.steps }

-- the program of the sources and the command, in which samples, schedule and n have no part, with its texts and listings; and n steps of
-- its words under the samples and the schedule
pub record IsAnswer (g : Given) (n : ℕ) (c : Chain) : Type 0 where
  pub image : ImageData
  pub inputs : Inputs
  pub built : IsBuilt g.files g.sources g.command image (texts_of c) (map string_bytes c.listings.items)
  pub read : inputs_in g ≡ Ok inputs
  pub run : IsRunOf image.program image.store image.marks image.run_marks inputs.samples inputs.entries n (run_of c)

-- what the chain answers: an answer, or the first fault, unless memory ran out
abbrev pub Answers : Given → ℕ → Result Chain Fault → Type 0
Answers g n (Ok c) = IsAnswer g n c
Answers g n (Err (failure.NoMemory m)) = Unit {0}
Answers g n (Err (failure.Fault f)) = IsRefused g (refusal_of f)
