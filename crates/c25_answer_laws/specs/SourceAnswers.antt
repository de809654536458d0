-- What a debugger answers of sources and a script, by the statements of the sources: steps are steps of them, and
-- `where` and `list` read them with their lines. Of the program's image, `symbols` alone reads the map, and memories
-- begin with its words.
use Rattle.std.specs.Prelude.{◌≡◌, ℕ, List, Ok}
use Rattle.c25_chain.specs.Built.{IsBuilt}
use Rattle.c25_chain.specs.Chain.{Given, Inputs, inputs_in}
use Rattle.c25_chain.specs.Debug.{statements_of}
use Rattle.c25_chain.specs.Headline.{first_state, source_modules}
use Rattle.c25_chain.specs.Linked.{LinkedTexts, places_of}
use Rattle.c25_meaning_expansion.specs.Files.{Files}
use Rattle.c25_meaning_linking.specs.Linking.{ImageData}
use Rattle.c25_meaning_linking.specs.MapText.{MapData}
use Rattle.c25_meaning_processor.specs.Script.{script_of}
use Rattle.c25_meaning_processor.specs.Signals.{signals_of}
use Rattle.c25_meaning_processor.specs.declared.script.Cmd.{Cmd}
use Rattle.c25_statement_laws.specs.StatementLines.{TracedStatement, traced_statements}
use Rattle.c25_debugger_laws.specs.StatementAnswers.{ScriptAnswersOf}

-- the instruction statements of the sources of these names under a printed map, each with its file and line
abbrev pub traced_sources : Files → List (List ℕ) → MapData → List TracedStatement
traced_sources files names printed = traced_statements files names (source_modules files names) (places_of printed)

-- a text is the answers of a script over the statements of the sources, from the first state of their program on, under
-- the samples and the schedule
pub record AnswersFromSources (g : Given) (script text : List ℕ) : Type 0 where
  pub image : ImageData
  pub texts : LinkedTexts
  pub listings : List (List ℕ)
  pub inputs : Inputs
  pub commands : List Cmd
  pub built : IsBuilt g.files g.sources g.command image texts listings
  pub read : inputs_in g ≡ Ok inputs
  pub script_read : script_of script ≡ Ok commands
  pub answers : ScriptAnswersOf (traced_sources g.files g.sources image.described) (statements_of g image) (signals_of inputs.entries) image commands (first_state image inputs.samples) text
