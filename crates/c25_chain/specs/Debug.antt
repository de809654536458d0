-- What a debugger answers of sources and a script: the script's answers over their program, or the first
-- fault.
use Rattle.std.specs.Prelude.{◌≡◌, ◌⊎◌, ℕ, List, Result, Ok, Err, String}
use Rattle.std.specs.String.{string_bytes}
use Rattle.std.specs.declared.alloc.Global.{Global}
use Rattle.c25_chain.specs.Built.{IsBuilt}
use Rattle.c25_chain.specs.Chain.{Given, Inputs, IsRefused, inputs_in}
use Rattle.c25_chain.specs.Headline.{first_state, source_statements}
use Rattle.c25_chain.specs.Linked.{LinkedTexts}
use Rattle.c25_chain.specs.Refusal.{Fault, refusal_of}
use Rattle.c25_chain.specs.declared.fault.ChainFault.{ChainFault}
use Rattle.c25_chain.specs.declared.linked.Linked.{Linked}
use Rattle.c25_chain.specs.declared.fault.ChainFault.TheVariants.{Script}
use Rattle.c25_meaning_common.specs.Results.{told}
use Rattle.c25_meaning_common.specs.declared.failure.Failure.TheVariants as failure
use Rattle.c25_meaning_debugger.specs.Debugger.{AnswersScript}
use Rattle.c25_meaning_linking.specs.Linking.{ImageData}
use Rattle.c25_meaning_processor.specs.FirstState.{first_of_pages}
use Rattle.c25_meaning_processor.specs.Run.{Stepping}
use Rattle.c25_meaning_processor.specs.Statements.{statement_step}
use Rattle.c25_meaning_processor.specs.WordStep.{WordStep}
use Rattle.c25_meaning_processor.specs.Samples.{samples_at}
use Rattle.c25_meaning_processor.specs.Script.{script_of}
use Rattle.c25_meaning_processor.specs.Signals.{signals_of}
use Rattle.c25_meaning_processor.specs.declared.sample.Sample.{Sample}
use Rattle.c25_meaning_processor.specs.declared.schedule.ScheduleEntry.{ScheduleEntry}
use Rattle.c25_meaning_processor.specs.declared.script.Cmd.{Cmd}

-- what one step of a program is
abbrev pub StepOf : Type 1
StepOf = ImageData → Stepping

-- a text is the answers of a script over the program of the sources and the command, from its first state on, under the samples and the
-- schedule, one step of it being this
pub record AnswersBy (step_of : StepOf) (g : Given) (script : List ℕ) (text : List ℕ) : Type 0 where
  pub image : ImageData
  pub texts : LinkedTexts
  pub listings : List (List ℕ)
  pub inputs : Inputs
  pub commands : List Cmd
  pub built : IsBuilt g.files g.sources g.command image texts listings
  pub read : inputs_in g ≡ Ok inputs
  pub script_read : script_of script ≡ Ok commands
  pub answers : AnswersScript (step_of image) (signals_of inputs.entries) image commands (first_state image inputs.samples) text

-- all else is read, but a line of the script is no command
pub record IsRefusedScript (g : Given) (script : List ℕ) (r : ChainFault (List ℕ)) : Type 0 where
  pub image : ImageData
  pub texts : LinkedTexts
  pub listings : List (List ℕ)
  pub inputs : Inputs
  pub built : IsBuilt g.files g.sources g.command image texts listings
  pub read : inputs_in g ≡ Ok inputs
  pub refused : told Script (script_of script) ≡ Err r

-- the answers over the program's words, or the first fault, the chain's before the script's, unless memory
-- ran out
abbrev pub Debugs : Given → List ℕ → Result (String Global) Fault → Type 0
Debugs g script (Ok text) = AnswersBy (λ image. WordStep) g script (string_bytes text)
Debugs g script (Err (failure.NoMemory m)) = Unit {0}
Debugs g script (Err (failure.Fault f)) = IsRefused g (refusal_of f) ⊎ IsRefusedScript g script (refusal_of f)

-- the answers of the script of a text over the words of a linked program, from its first state on
pub record AnswersLinked (l : Linked) (samples : List Sample) (entries : List ScheduleEntry) (script : List ℕ) (text : List ℕ) : Type 0 where
  pub commands : List Cmd
  pub script_read : script_of script ≡ Ok commands
  pub answers : AnswersScript WordStep (signals_of entries) l.image commands
      (first_of_pages l.page0.words l.page1.words l.image.marks l.image.run_marks (samples_at samples)) text

-- the answers over a linked program, or the fault of the script, unless memory ran out
abbrev pub DebugsLinked : Linked → List Sample → List ScheduleEntry → List ℕ → Result (String Global) Fault → Type 0
DebugsLinked l samples entries script (Ok text) = AnswersLinked l samples entries script (string_bytes text)
DebugsLinked l samples entries script (Err (failure.NoMemory m)) = Unit {0}
DebugsLinked l samples entries script (Err (failure.Fault f)) = told Script (script_of script) ≡ Err (refusal_of f)

-- a step of the statements that the sources have under the program's map, read from no word
abbrev pub statements_of : Given → StepOf
statements_of g image lines bio s outcome = outcome ≡ statement_step (source_statements g.files g.sources image.described) lines bio s

-- the answers are those over the statements of the sources
abbrev pub TellsStatements : Given → List ℕ → String Global → Type 0
TellsStatements g script text = AnswersBy (statements_of g) g script (string_bytes text)
