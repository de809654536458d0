-- A session at the prompt with sources on a disk.
use Rattle.std.specs.Prelude.{◌≡◌, ℕ, List, Option, Result, Ok, Err}
use Rattle.c25_chain.specs.Built.{IsBuilt}
use Rattle.c25_chain.specs.Chain.{Given, Inputs, IsRefused, given_of, inputs_in}
use Rattle.c25_chain.specs.Debug.{StepOf, statements_of}
use Rattle.c25_chain.specs.Headline.{first_state, source_modules}
use Rattle.c25_chain.specs.Linked.{LinkedTexts, places_of}
use Rattle.c25_chain.specs.Refusal.{Fault, refusal_of}
use Rattle.c25_disk.specs.Held.{Held}
use Rattle.c25_inputs.specs.Files.{ComesTo, SourceNames, assembled_in}
use Rattle.c25_inputs.specs.Inputs.{AfterInputs}
use Rattle.c25_meaning_common.specs.declared.failure.Failure.TheVariants as failure
use Rattle.c25_meaning_expansion.specs.Files.{Files, text_named}
use Rattle.c25_meaning_linking.specs.Linking.{ImageData}
use Rattle.c25_meaning_processor.specs.Run.{Signals, Stepping}
use Rattle.c25_meaning_processor.specs.Signals.{signals_of}
use Rattle.c25_meaning_processor.specs.State.{State}
use Rattle.c25_meaning_processor.specs.WordStep.{WordStep}
use Rattle.c25_options.specs.declared.task.RunFiles.{RunFiles}
use Rattle.c25_prompt.specs.Conversing.{Converses, standing}
use Rattle.c25_prompt.specs.Session.{SessionPoint, first_session}
use Rattle.c25_prompt.specs.declared.conversation.Broken.{Broken}
use Rattle.c25_prompt_lines.specs.Addresses.{ProgramData}
use Rattle.c25_symbols.specs.Symbols.{all_symbols}

-- the program of sources as a session names it: its image, the symbols that the sources define, local ones too, at
-- the places of its map, in modules of these names, and the texts of the files
abbrev pub program_of : Given → (shown : List (List ℕ)) → ImageData → ProgramData
program_of g shown image = record {
  symbols = all_symbols (source_modules g.files g.sources) shown (places_of image.described);
  image = image;
  texts = text_named g.files;
}

-- lines are answered over a program from its first state on, each before the next is read, up to `quit` or the
-- last: the reader had this before, and the writer held this before and then
abbrev pub Talks : Stepping → Signals → ProgramData → (first : State) → (input before after : Option (List ℕ)) → Type 0
Talks step signals program first input before after =
    (left : Option (List ℕ)) × (last : SessionPoint) × Converses step signals program first (standing input before (first_session first)) (standing left after last)

-- lines are answered over the program of the sources and the command, from its first state on, under the samples
-- and the schedule, one step of it being this
pub record TalksBy (step_of : StepOf) (g : Given) (shown : List (List ℕ)) (input before after : Option (List ℕ)) : Type 0 where
  pub image : ImageData
  pub texts : LinkedTexts
  pub listings : List (List ℕ)
  pub inputs : Inputs
  pub built : IsBuilt g.files g.sources g.command image texts listings
  pub read : inputs_in g ≡ Ok inputs
  pub talks : Talks (step_of image) (signals_of inputs.entries) (program_of g shown image) (first_state image inputs.samples) input before after

-- how a session ended: all lines were answered, or it broke off
abbrev pub SessionEnd : Type 0
SessionEnd = Result (Unit {0}) Broken

-- what was answered in a session that did not break off: over the program's words, and over the statements of the
-- sources, read from no word
abbrev pub Answered : Given → (shown : List (List ℕ)) → (input before after : Option (List ℕ)) → SessionEnd → Type 0
Answered g shown input before after (Ok done) = TalksBy (λ image. WordStep) g shown input before after × TalksBy (statements_of g) g shown input before after
Answered g shown input before after (Err broken) = Unit {0}

-- a session, or the first fault of the program, the samples and the schedule, unless memory ran out
abbrev pub Prompts : Given → (shown : List (List ℕ)) → (input before after : Option (List ℕ)) → Result SessionEnd Fault → Type 0
Prompts g shown input before after (Ok ended) = Answered g shown input before after ended
Prompts g shown input before after (Err (failure.NoMemory m)) = Unit {0}
Prompts g shown input before after (Err (failure.Fault f)) = IsRefused g (refusal_of f)

-- a session over the named sources among given files and those that they copy, with modules of these names, under
-- the texts of the other files
abbrev pub PromptsOver : Held → Files → (names shown : List (List ℕ)) → (command samples schedule : List ℕ) → (input before after : Option (List ℕ)) → Result SessionEnd Fault → Type 0
PromptsOver held given names shown command samples schedule input before after answer =
    ComesTo held given (λ all result. Prompts (given_of all names command samples schedule) shown input before after result) answer

-- a session with files on a disk: the sources are read first, and then the files in addition to them
abbrev pub PromptsFrom : Held → SourceNames → RunFiles → (input before after : Option (List ℕ)) → Result SessionEnd Fault → Type 0
PromptsFrom held sources files input before after answer =
    AfterInputs held sources files (λ given command samples schedule. PromptsOver held given (assembled_in sources) sources.names command samples schedule input before after) answer
