-- The answers over a program's words are those over the statements of its sources.
use Rattle.std.proofs.Common.{◌≡◌, ◌↔◌, ℕ, List, Result, Ok, Err, String, string_bytes}
use Rattle.std.specs.Prelude.{IfOk}
use Rattle.std.specs.declared.alloc.Global.{Global}
use Rattle.c25_chain.specs.Built.{IsBuilt}
use Rattle.c25_chain.specs.Chain.{Given}
use Rattle.c25_chain.specs.Headline.{first_state, source_statements}
use Rattle.c25_chain.specs.Linked.{LinkedTexts}
use Rattle.c25_chain.specs.Refusal.{Fault}
use Rattle.c25_chain.specs.Debug.{AnswersBy, Debugs, TellsStatements, statements_of}
use Rattle.c25_meaning_debugger.specs.Debugger.{AnswersScript}
use Rattle.c25_meaning_expansion.specs.Files.{Files}
use Rattle.c25_meaning_linking.specs.Linking.{ImageData}
use Rattle.c25_meaning_processor.specs.Run.{Signals}
use Rattle.c25_meaning_processor.specs.State.{State}
use Rattle.c25_meaning_processor.specs.Statements.{IsImageOf, Statements, statement_step}
use Rattle.c25_meaning_processor.specs.WordStep.{WordStep}
use Rattle.c25_meaning_processor.specs.Signals.{signals_of}
use Rattle.c25_meaning_processor.specs.declared.sample.Sample.{Sample}
use Rattle.c25_meaning_processor.specs.declared.script.Cmd.{Cmd}

-- the first state of each program holds the statements of its sources
abbrev pub FirstStates : Type 0
FirstStates =
    (files : Files) (names : List (List ℕ)) (command : List ℕ) (image : ImageData) (texts : LinkedTexts) (listings : List (List ℕ)) (samples : List Sample)
    → IsBuilt files names command image texts listings → IsImageOf (source_statements files names image.described) (first_state image samples).world

-- a script is answered over words as over the statements that they are
abbrev pub Alike : Type 0
Alike =
    (statements : Statements) (signals : Signals) (image : ImageData) (commands : List Cmd) (s : State) (text : List ℕ)
    → IsImageOf statements s.world
    → AnswersScript WordStep signals image commands s text
    ↔ AnswersScript (λ lines bio t outcome. outcome ≡ statement_step statements lines bio t) signals image commands s text

by_statements : FirstStates → Alike → (g : Given) (script text : List ℕ) → AnswersBy (λ image. WordStep) g script text → AnswersBy (statements_of g) g script text
by_statements first_states alike g script text a =
    let samples = (a.inputs).samples in
    let statements = source_statements g.files g.sources (a.image).described in
    let there = first_states g.files g.sources g.command a.image a.texts a.listings samples a.built in
    let same = alike statements (signals_of (a.inputs).entries) a.image a.commands (first_state a.image samples) text there in
    record {
      image = a.image;
      texts = a.texts;
      listings = a.listings;
      inputs = a.inputs;
      commands = a.commands;
      built = a.built;
      read = a.read;
      script_read = a.script_read;
      answers = same.0 a.answers;
    }

-- of a text that is answered
pub told_by_statements : FirstStates → Alike → (g : Given) (script : List ℕ) (result : Result (String Global) Fault) → Debugs g script result → IfOk result (TellsStatements g script)
told_by_statements first_states alike g script (Ok text) a = by_statements first_states alike g script (string_bytes text) a
told_by_statements first_states alike g script (Err f) h = tt
