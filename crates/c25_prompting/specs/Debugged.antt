-- A linked program with its modules, as the code has it, and a session over it.
use Rattle.std.specs.Prelude.{◌≡◌, ℕ, List, [], Option, Result, Ok, Err}
use Rattle.c25_chain.specs.Built.{IsUnbuilt}
use Rattle.c25_chain.specs.Chain.{Given, Inputs, IsRefused, inputs_in, inputs_of}
use Rattle.c25_chain.specs.Linked.{IsLinked, places_of}
use Rattle.c25_chain.specs.Modules.{Modules, modules_of}
use Rattle.c25_chain.specs.Refusal.{Fault, refusal_of}
use Rattle.c25_chain.specs.declared.fault.ChainFault.{ChainFault}
use Rattle.c25_chain.specs.declared.linked.Linked.{Linked}
use Rattle.c25_meaning_common.specs.declared.failure.Failure.TheVariants as failure
use Rattle.c25_meaning_expansion.specs.Files.{Files, text_named}
use Rattle.c25_meaning_processor.specs.FirstState.{first_of_pages}
use Rattle.c25_meaning_processor.specs.Samples.{samples_at}
use Rattle.c25_meaning_processor.specs.Signals.{signals_of}
use Rattle.c25_meaning_processor.specs.State.{State}
use Rattle.c25_meaning_processor.specs.WordStep.{WordStep}
use Rattle.c25_prompt_lines.specs.Addresses.{ProgramData}
use Rattle.c25_prompt_lines.specs.SourceTexts.{text_in}
use Rattle.c25_prompting.specs.Prompting.{Talks}
use Rattle.c25_prompting.specs.declared.program.Debugged.{Debugged}
use Rattle.c25_symbols.specs.Symbols.{all_symbols}

-- ---- programs

-- the modules of sources, what was linked of them, and the texts of the files
pub record IsDebugged (files : Files) (sources : List (List ℕ)) (command : List ℕ) (d : Debugged) : Type 0 where
  pub all : Modules
  pub assembled : modules_of files sources ≡ Ok all
  pub modules_are : d.modules.items ≡ all.modules
  pub linked : IsLinked all.modules command d.linked
  pub texts_are : (name : List ℕ) → text_in d.texts.items name ≡ text_named files name

-- the linked modules of sources, or the first fault, unless memory ran out
abbrev pub LinksSources : Files → List (List ℕ) → List ℕ → Result Debugged Fault → Type 0
LinksSources files sources command (Ok d) = IsDebugged files sources command d
LinksSources files sources command (Err (failure.NoMemory n)) = Unit {0}
LinksSources files sources command (Err (failure.Fault f)) = IsUnbuilt files sources command (refusal_of f)

-- the linked modules of the sources, whose samples and schedule can be read
pub record CanDebug (g : Given) (d : Debugged) : Type 0 where
  pub program : IsDebugged g.files g.sources g.command d
  pub inputs : Inputs
  pub read : inputs_in g ≡ Ok inputs

-- the linked modules of the sources, or the first fault, unless memory ran out
abbrev pub MakesDebugged : Given → Result Debugged Fault → Type 0
MakesDebugged g (Ok d) = CanDebug g d
MakesDebugged g (Err (failure.NoMemory n)) = Unit {0}
MakesDebugged g (Err (failure.Fault f)) = IsRefused g (refusal_of f)

-- ---- sessions

-- the samples and the entries that were read, or none
abbrev pub read_or_none : Result Inputs (ChainFault (List ℕ)) → Inputs
read_or_none (Ok inputs) = inputs
read_or_none (Err r) = record { samples = []; entries = [] }

-- the samples and the entries of two texts
abbrev pub inputs_read : (samples schedule : List ℕ) → Inputs
inputs_read samples schedule = read_or_none (inputs_of samples schedule)

-- the first state of a linked program
abbrev pub first_of : Linked → Inputs → State
first_of l inputs = first_of_pages l.page0.words l.page1.words l.image.marks l.image.run_marks (samples_at inputs.samples)

-- a program with its modules, which have these names, as a session names it
abbrev pub program_data : Debugged → (shown : List (List ℕ)) → ProgramData
program_data d shown = record {
  symbols = all_symbols d.modules.items shown (places_of d.linked.image.described);
  image = d.linked.image;
  texts = text_in d.texts.items;
}

-- lines are answered over a linked program whose modules have these names, from its first state on, with the samples
-- and the schedule of two texts
abbrev pub TalksOver : Debugged → (shown : List (List ℕ)) → (samples schedule : List ℕ) → (input before after : Option (List ℕ)) → Type 0
TalksOver d shown samples schedule input before after =
    Talks WordStep (signals_of (inputs_read samples schedule).entries) (program_data d shown) (first_of d.linked (inputs_read samples schedule)) input before after
