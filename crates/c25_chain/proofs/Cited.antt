-- The laws on which the claims of an answer rest: each is the contract of a public function.
use Rattle.std.proofs.Common.{◌≡◌, ℕ, List, All, Ok}
use Rattle.std.specs.FinMap as finite
use Rattle.std.specs.Ordering.{nat_cmp}
use Rattle.c25_laws.specs.ProgramStatements.{AreMarksOf, AreModulesOf, ReadsAs, lines_in, lines_of, page_statements, program_statements}
use Rattle.c25_laws.specs.SourceWords.{HasSourceWords}
use Rattle.c25_meaning_linking.specs.Command.{CommandData, IsCommand}
use Rattle.c25_meaning_linking.specs.CommandText.{command_of}
use Rattle.c25_meaning_expansion.specs.Files.{Files}
use Rattle.c25_meaning_image.specs.WordMap.{IsWordMap}
use Rattle.c25_hex.specs.Hex.{SpellsWords}
use Rattle.c25_hex.specs.HexText.{written}
use Rattle.c25_meaning_linking.specs.Linking.{ImageData, IsProgram}
use Rattle.c25_meaning_objects.specs.Module.{Contents, IsModule}
use Rattle.c25_meaning_processor.specs.FirstState.{first_of_pages}
use Rattle.c25_meaning_processor.specs.Run.{Reaches, Signals}
use Rattle.c25_meaning_processor.specs.State.{State}
use Rattle.c25_meaning_processor.specs.Statements.{IsImageOf, RunsAsStatements, loaded_statements}
use Rattle.c25_meaning_processor.specs.WordStep.{WordStep}
use Rattle.c25_meaning_assembly.specs.ModuleOfSource.{Assembled, assembled}
use Rattle.c25_run_laws.specs.KeptCode.{KeepsCode}
use Rattle.c25_chain.specs.Linked.{places_of}

-- what is said of each program of sources
abbrev pub OfPrograms : ((files : Files) (names : List (List ℕ)) (modules : List Contents) (command : CommandData) (image : ImageData) → IsProgram modules command image → Type 0) → Type 0
OfPrograms law =
    (files : Files) (names : List (List ℕ)) (modules : List Contents) (command : CommandData) (image : ImageData) → AreModulesOf files names modules → (p : IsProgram modules command image)
    → law files names modules command image p

pub record Laws : Type 0 where
  -- of sources
  pub each_module : (files : Files) (name : List ℕ) (a : Assembled) → assembled files name ≡ Ok a → IsModule a.contents
  pub lines : (files : Files) (name : List ℕ) (a : Assembled) → assembled files name ≡ Ok a → lines_of files name ≡ Ok (lines_in files name)
  -- of command files and hex texts
  pub commands : (text : List ℕ) (command : CommandData) → command_of text ≡ Ok command → IsCommand command
  pub spelled : (words : finite.FinMap nat_cmp ℕ) → IsWordMap words → SpellsWords (written words) words
  -- of programs
  pub places : (modules : List Contents) (command : CommandData) (image : ImageData) → (p : IsProgram modules command image) → places_of image.described ≡ p.places
  pub words_fit : (modules : List Contents) (command : CommandData) (image : ImageData)
      → All IsModule modules → IsCommand command → IsProgram modules command image → IsWordMap image.program × IsWordMap image.store
  pub marks : OfPrograms (λ files names modules command image p. AreMarksOf (program_statements files names modules p.places) image.marks image.run_marks)
  pub program : OfPrograms (λ files names modules command image p. All (ReadsAs image.program) (loaded_statements (program_statements files names modules p.places)))
  pub stored : OfPrograms (λ files names modules command image p. All (ReadsAs image.store) (page_statements 1 files names modules p.places))
  pub pages : OfPrograms (λ files names modules command image p. HasSourceWords files names modules p.places 0 image.program × HasSourceWords files names modules p.places 1 image.store)
  -- of runs
  pub images : (files : Files) (names : List (List ℕ)) (modules : List Contents) (command : CommandData) (image : ImageData) (samples : ℕ → List ℕ)
      → AreModulesOf files names modules → (p : IsProgram modules command image)
      → IsImageOf (program_statements files names modules p.places) (first_of_pages image.program image.store image.marks image.run_marks samples).world
  pub runs : (files : Files) (names : List (List ℕ)) (modules : List Contents) (command : CommandData) (image : ImageData) (samples : ℕ → List ℕ)
      → AreModulesOf files names modules → (p : IsProgram modules command image)
      → RunsAsStatements (program_statements files names modules p.places) (first_of_pages image.program image.store image.marks image.run_marks samples)
  pub kept : (signals : Signals) (k n : ℕ) (s t : State) → Reaches WordStep signals k n s t → KeepsCode s.world t.world
