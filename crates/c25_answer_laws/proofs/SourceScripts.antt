-- The answers of a script over the program of sources are answers over the statements of these sources.
use Rattle.std.proofs.Common.{◌≡◌, ℕ, List, ap, sym, ◌∙◌, subst}
use Rattle.c25_chain.proofs.Sourced.{are_modules}
use Rattle.c25_chain.specs.Built.{IsBuilt}
use Rattle.c25_chain.specs.Chain.{Given}
use Rattle.c25_chain.specs.Debug.{AnswersBy}
use Rattle.c25_chain.specs.Headline.{first_state, source_modules, source_statements, without_refusal}
use Rattle.c25_chain.specs.Linked.{LinkedTexts, places_of}
use Rattle.c25_meaning_debugger.specs.Debugger.{AnswersScript}
use Rattle.c25_meaning_expansion.specs.Files.{Files}
use Rattle.c25_meaning_linking.specs.Command.{CommandData}
use Rattle.c25_meaning_linking.specs.Linking.{ImageData, IsProgram}
use Rattle.c25_meaning_objects.specs.Module.{Contents}
use Rattle.c25_meaning_processor.specs.Run.{Signals}
use Rattle.c25_meaning_processor.specs.Signals.{signals_of}
use Rattle.c25_meaning_processor.specs.State.{State}
use Rattle.c25_meaning_processor.specs.Statements.{IsImageOf, Statements, statement_step}
use Rattle.c25_meaning_processor.specs.WordStep.{WordStep}
use Rattle.c25_meaning_processor.specs.declared.sample.Sample.{Sample}
use Rattle.c25_meaning_processor.specs.declared.script.Cmd.{Cmd}
use Rattle.c25_laws.specs.ProgramStatements.{AreModulesOf, program_statements}
use Rattle.c25_statement_laws.specs.StatementLines.{TracedStatement, traced_statements}
use Rattle.c25_debugger_laws.specs.StatementAnswers.{ScriptAnswersOf}
use Rattle.c25_answer_laws.specs.SourceAnswers.{AnswersFromSources, traced_sources}

-- the laws on which this rests
pub record Laws : Type 0 where
  pub first_states : (files : Files) (names : List (List ℕ)) (command : List ℕ) (image : ImageData) (texts : LinkedTexts) (listings : List (List ℕ)) (samples : List Sample)
      → IsBuilt files names command image texts listings → IsImageOf (source_statements files names image.described) (first_state image samples).world
  pub places : (modules : List Contents) (command : CommandData) (image : ImageData) → (p : IsProgram modules command image) → places_of image.described ≡ p.places
  pub scripts : (files : Files) (names : List (List ℕ)) (modules : List Contents) (command : CommandData) (image : ImageData)
      → AreModulesOf files names modules → (p : IsProgram modules command image)
      → (signals : Signals) (commands : List Cmd) (s : State) (text : List ℕ) → IsImageOf (program_statements files names modules p.places) s.world
      → AnswersScript WordStep signals image commands s text
      → ScriptAnswersOf (traced_statements files names modules p.places) (λ lines bio t outcome. outcome ≡ statement_step (program_statements files names modules p.places) lines bio t) signals image commands s text

module _ (laws : Laws) (files : Files) (names : List (List ℕ)) (command : List ℕ) (image : ImageData) (texts : LinkedTexts) (listings : List (List ℕ)) (b : IsBuilt files names command image texts listings) where
  modules_said : source_modules files names ≡ (b.all).modules
  modules_said = ap without_refusal b.assembled

  places_said : places_of image.described ≡ ((b.linked).program).places
  places_said = laws.places (b.all).modules (b.linked).command image (b.linked).program

  said : source_statements files names image.described ≡ program_statements files names (b.all).modules ((b.linked).program).places
  said =
      ap (λ (ms : List Contents). program_statements files names ms (places_of image.described)) modules_said
      ∙ ap (program_statements files names (b.all).modules) places_said

  traced_said : traced_sources files names image.described ≡ traced_statements files names (b.all).modules ((b.linked).program).places
  traced_said =
      ap (λ (ms : List Contents). traced_statements files names ms (places_of image.described)) modules_said
      ∙ ap (traced_statements files names (b.all).modules) places_said

  -- a script over the words of the program
  script_said : (samples : List Sample) (signals : Signals) (commands : List Cmd) (text : List ℕ) → AnswersScript WordStep signals image commands (first_state image samples) text
      → ScriptAnswersOf (traced_sources files names image.described) (λ lines bio t outcome. outcome ≡ statement_step (source_statements files names image.described) lines bio t) signals image commands (first_state image samples) text
  script_said samples signals commands text h =
      let s = first_state image samples in
      let there : IsImageOf (program_statements files names (b.all).modules ((b.linked).program).places) s.world =
      subst (λ (ss : Statements). IsImageOf ss s.world) said (laws.first_states files names command image texts listings samples b) in
      let answers = laws.scripts files names (b.all).modules (b.linked).command image (are_modules files names b.all b.assembled) (b.linked).program signals commands s text there h in
      subst (λ (all : List TracedStatement). ScriptAnswersOf all (λ lines bio t outcome. outcome ≡ statement_step (source_statements files names image.described) lines bio t) signals image commands s text) (sym traced_said)
      (subst (λ (ss : Statements). ScriptAnswersOf (traced_statements files names (b.all).modules ((b.linked).program).places) (λ lines bio t outcome. outcome ≡ statement_step ss lines bio t) signals image commands s text) (sym said) answers)

pub from_sources : Laws → (g : Given) (script text : List ℕ) → AnswersBy (λ image. WordStep) g script text → AnswersFromSources g script text
from_sources laws g script text h = record {
  image = h.image;
  texts = h.texts;
  listings = h.listings;
  inputs = h.inputs;
  commands = h.commands;
  built = h.built;
  read = h.read;
  script_read = h.script_read;
  answers = script_said laws g.files g.sources g.command h.image h.texts h.listings h.built (h.inputs).samples (signals_of (h.inputs).entries) h.commands text h.answers;
}
