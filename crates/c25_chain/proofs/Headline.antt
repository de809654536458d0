-- The program of an answer runs as its sources say.
use Rattle.std.proofs.Common.{◌≡◌, ℕ, List, map, ap, sym, ◌∙◌, subst, inl, inr}
use Rattle.std.specs.List.{All}
use Rattle.std.specs.String.{string_bytes}
use Rattle.c25_laws.specs.ProgramStatements.{AreMarksOf, AreModulesOf, PlacedStatement, ReadsAs, all_statements, on_page, program_statements, split_by_run}
use Rattle.c25_laws.specs.SourceWords as items
use Rattle.c25_meaning_expansion.specs.Files.{Files}
use Rattle.c25_meaning_image.specs.WordMap.{IsWordMap}
use Rattle.c25_hex.specs.Hex.{SpellsWords}
use Rattle.c25_meaning_linking.specs.Linking.{ImageData}
use Rattle.c25_meaning_linking.specs.Place.{Place}
use Rattle.c25_meaning_objects.specs.Module.{Contents}
use Rattle.c25_meaning_processor.specs.Run.{Ending, Ran}
use Rattle.c25_meaning_processor.specs.Statements.{IsImageOf, RunsAsStatements, Statements, loaded_statements}
use Rattle.c25_meaning_processor.specs.Samples.{samples_at}
use Rattle.c25_meaning_processor.specs.Signals.{signals_of}
use Rattle.c25_meaning_processor.specs.declared.sample.Sample.{Sample}
use Rattle.c25_chain.proofs.Cited.{Laws}
use Rattle.c25_chain.proofs.Sourced.{are_modules, have_statements, modules_are}
use Rattle.c25_chain.specs.Built.{IsBuilt}
use Rattle.c25_chain.specs.Chain.{Given, IsAnswer, run_of, texts_of}
use Rattle.c25_chain.specs.Headline.{CodeStays, HasSourceWords, HoldsSourceWords, MarksStatements, OfProgram, RunsAsSources, RunsItsWords, TellsStatementsRun, first_state, source_modules, source_statements, stored_statements, without_refusal}
use Rattle.c25_chain.specs.Linked.{LinkedTexts, places_of}
use Rattle.c25_chain.specs.Run.{EndsAs}
use Rattle.c25_chain.specs.declared.chain.Chain.{Chain}

-- ---- the program

module _ (laws : Laws) (files : Files) (names : List (List ℕ)) (command : List ℕ) (image : ImageData) (texts : LinkedTexts) (listings : List (List ℕ)) (b : IsBuilt files names command image texts listings) where
  modules_said : source_modules files names ≡ (b.all).modules
  modules_said = ap without_refusal b.assembled

  places_said : places_of image.described ≡ ((b.linked).program).places
  places_said = laws.places (b.all).modules (b.linked).command image (b.linked).program

  all_said : all_statements files names (source_modules files names) (places_of image.described) ≡ all_statements files names (b.all).modules ((b.linked).program).places
  all_said =
      ap (λ (ms : List Contents). all_statements files names ms (places_of image.described)) modules_said
      ∙ ap (all_statements files names (b.all).modules) places_said

  said : source_statements files names image.described ≡ program_statements files names (b.all).modules ((b.linked).program).places
  said = ap split_by_run all_said

  of : AreModulesOf files names (b.all).modules
  of = are_modules files names b.all b.assembled

  marks_said : AreMarksOf (source_statements files names image.described) image.marks image.run_marks
  marks_said = subst (λ (ss : Statements). AreMarksOf ss image.marks image.run_marks) (sym said) (laws.marks files names (b.all).modules (b.linked).command image of (b.linked).program)

  words_read : All (ReadsAs image.program) (loaded_statements (source_statements files names image.described))
  words_read = subst (λ (ss : Statements). All (ReadsAs image.program) (loaded_statements ss)) (sym said) (laws.program files names (b.all).modules (b.linked).command image of (b.linked).program)

  stored_read : All (ReadsAs image.store) (stored_statements files names image.described)
  stored_read = subst (λ (all : List PlacedStatement). All (ReadsAs image.store) (on_page 1 all)) (sym all_said) (laws.stored files names (b.all).modules (b.linked).command image of (b.linked).program)

  words_said : (page : ℕ) (words : _) → items.HasSourceWords files names (b.all).modules ((b.linked).program).places page words → HasSourceWords files names image.described page words
  words_said page words h =
      subst (λ (ms : List Contents). items.HasSourceWords files names ms (places_of image.described) page words) (sym modules_said)
      (subst (λ (ps : List Place). items.HasSourceWords files names (b.all).modules ps page words) (sym places_said) h)

  pages_said : HasSourceWords files names image.described 0 image.program × HasSourceWords files names image.described 1 image.store
  pages_said =
      let pages = laws.pages files names (b.all).modules (b.linked).command image of (b.linked).program in
      (words_said 0 image.program pages.0, words_said 1 image.store pages.1)

  words_fit : IsWordMap image.program × IsWordMap image.store
  words_fit =
      let l = b.linked in
      laws.words_fit (b.all).modules l.command image (modules_are laws files names (b.all).modules of) (laws.commands command l.command l.read) l.program

  program_spelled : SpellsWords texts.page0 image.program
  program_spelled = subst (λ (t : List ℕ). SpellsWords t image.program) (sym ((b.linked).texts_are).page0) (laws.spelled image.program words_fit.0)

  store_spelled : SpellsWords texts.page1 image.store
  store_spelled = subst (λ (t : List ℕ). SpellsWords t image.store) (sym ((b.linked).texts_are).page1) (laws.spelled image.store words_fit.1)

  pub image_said : (samples : List Sample) → IsImageOf (source_statements files names image.described) (first_state image samples).world
  image_said samples =
      subst (λ (ss : Statements). IsImageOf ss (first_state image samples).world) (sym said)
      (laws.images files names (b.all).modules (b.linked).command image (samples_at samples) of (b.linked).program)

  runs_said : (samples : List Sample) → RunsAsStatements (source_statements files names image.described) (first_state image samples)
  runs_said samples =
      subst (λ (ss : Statements). RunsAsStatements ss (first_state image samples)) (sym said)
      (laws.runs files names (b.all).modules (b.linked).command image (samples_at samples) of (b.linked).program)

  marks_claimed : MarksStatements files names image
  marks_claimed = record { sources = have_statements laws files names (b.all).modules of; marks = marks_said }

  runs_claimed : RunsAsSources files names image
  runs_claimed samples entries n e = runs_said samples (signals_of entries) 0 n e

  code_claimed : CodeStays files names image
  code_claimed samples entries n t address reached code =
      let words : RunsItsWords image samples entries n (Ran t) = elim reached [
        | inl run ↦ run
        | inr run ↦ (runs_claimed samples entries n (Ran t)).1 (sym run)
      ] in
      (laws.kept (signals_of entries) 0 n (first_state image samples) t words).program address ((image_said samples).code address ∙ code)

-- ---- the answer

module _ (laws : Laws) (g : Given) (n : ℕ) (c : Chain) (a : IsAnswer g n c) where
  pub words_of_answer : OfProgram (HoldsSourceWords c) g.files g.sources g.command c
  words_of_answer =
      let t = ((a.built).linked).texts_are in
      let listings = map string_bytes c.listings.items in
      let pages = pages_said laws g.files g.sources g.command a.image (texts_of c) listings a.built in
      record {
        image = a.image;
        built = a.built;
        holds = record {
          printed = t.printed;
          page0 = t.page0;
          page1 = t.page1;
          spelled0 = program_spelled laws g.files g.sources g.command a.image (texts_of c) listings a.built;
          spelled1 = store_spelled laws g.files g.sources g.command a.image (texts_of c) listings a.built;
          program = pages.0;
          store = pages.1;
          statements = words_read laws g.files g.sources g.command a.image (texts_of c) listings a.built;
          stored = stored_read laws g.files g.sources g.command a.image (texts_of c) listings a.built;
        };
      }

  pub marks_of_answer : OfProgram MarksStatements g.files g.sources g.command c
  marks_of_answer =
      record { image = a.image; built = a.built; holds = marks_claimed laws g.files g.sources g.command a.image (texts_of c) (map string_bytes c.listings.items) a.built }

  pub runs_of_answer : OfProgram RunsAsSources g.files g.sources g.command c
  runs_of_answer =
      record { image = a.image; built = a.built; holds = runs_claimed laws g.files g.sources g.command a.image (texts_of c) (map string_bytes c.listings.items) a.built }

  pub code_of_answer : OfProgram CodeStays g.files g.sources g.command c
  code_of_answer =
      record { image = a.image; built = a.built; holds = code_claimed laws g.files g.sources g.command a.image (texts_of c) (map string_bytes c.listings.items) a.built }

  pub own_run_of_answer : TellsStatementsRun g n c
  own_run_of_answer =
      let run = a.run in
      let same = (runs_claimed laws g.files g.sources g.command a.image (texts_of c) (map string_bytes c.listings.items) a.built (a.inputs).samples (a.inputs).entries n run.0).0 run.1 in
      record { image = a.image; inputs = a.inputs; built = a.built; read = a.read; run = subst (λ (e : Ending). EndsAs n e (run_of c)) same run.2 }
