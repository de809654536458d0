-- The headline: the run is the one that the sources describe. Each claim is of the program of an answer.
use Rattle.std.specs.Prelude.{◌≡◌, ℕ, ◌↔◌, ◌⊎◌, List, [], map, true, Result, Ok, Err}
use Rattle.std.specs.FinMap as finite
use Rattle.std.specs.List.{All}
use Rattle.std.specs.Ordering.{nat_cmp}
use Rattle.std.specs.String.{string_bytes}
use Rattle.c25_laws.specs.ProgramStatements.{AreMarksOf, ReadsAs, lines_in, lines_of, page_statements, program_statements}
use Rattle.c25_laws.specs.SourceWords as sources
use Rattle.c25_meaning_expansion.specs.Files.{Files}
use Rattle.c25_meaning_processor.specs.FirstState.{first_of_pages, memory_of_map}
use Rattle.c25_hex.specs.Hex.{SpellsWords}
use Rattle.c25_hex.specs.HexText.{written}
use Rattle.c25_meaning_linking.specs.Linking.{ImageData}
use Rattle.c25_meaning_linking.specs.MapText.{IsMapOf, MapData}
use Rattle.c25_meaning_objects.specs.Module.{Contents}
use Rattle.c25_meaning_processor.specs.Run as runs
use Rattle.c25_meaning_processor.specs.Run.{Ending, Ran}
use Rattle.c25_meaning_processor.specs.Samples.{samples_at}
use Rattle.c25_meaning_processor.specs.Signals.{signals_of}
use Rattle.c25_meaning_processor.specs.State.{State}
use Rattle.c25_meaning_image.specs.Marks.{is_code}
use Rattle.c25_meaning_processor.specs.Statements.{Statement, Statements, loaded_statements, marks_of, statement_step}
use Rattle.c25_meaning_processor.specs.declared.sample.Sample.{Sample}
use Rattle.c25_meaning_processor.specs.declared.schedule.ScheduleEntry.{ScheduleEntry}
use Rattle.c25_chain.specs.Built.{IsBuilt}
use Rattle.c25_chain.specs.Chain.{Given, Inputs, inputs_in, run_of, texts_of}
use Rattle.c25_chain.specs.Linked.{places_of}
use Rattle.c25_chain.specs.Modules.{Modules, modules_of}
use Rattle.c25_chain.specs.Run.{EndsAs, RunsWords}
use Rattle.c25_chain.specs.declared.chain.Chain.{Chain}
use Rattle.c25_chain.specs.declared.fault.ChainFault.{ChainFault}

-- ---- what sources say under a map

-- modules, or none where a source has a fault
abbrev pub without_refusal : Result Modules (ChainFault (List ℕ)) → List Contents
without_refusal (Ok all) = all.modules
without_refusal (Err r) = []

-- the modules of the sources of these names
abbrev pub source_modules : Files → List (List ℕ) → List Contents
source_modules files names = without_refusal (modules_of files names)

-- the instruction statements of the sources on page 0, over all modules and sections, those that run where they are loaded and those
-- that run in block B0: each at its addresses under the map, and its mnemonic with the numbers of its operands under the map
abbrev pub source_statements : Files → List (List ℕ) → MapData → Statements
source_statements files names printed = program_statements files names (source_modules files names) (places_of printed)

-- the statements on page 1: their words are in its hex text, and nothing runs them
abbrev pub stored_statements : Files → List (List ℕ) → MapData → List Statement
stored_statements files names printed = page_statements 1 files names (source_modules files names) (places_of printed)

-- the words of a page are those of the items of the sources' lines at their addresses under a map, neither more nor less
abbrev pub HasSourceWords : Files → List (List ℕ) → MapData → ℕ → finite.FinMap nat_cmp ℕ → Type 0
HasSourceWords files names printed page words = sources.HasSourceWords files names (source_modules files names) (places_of printed) page words

-- the lines of a source have no fault, so none of its statements is left out
abbrev pub HasStatements : Files → List ℕ → Type 0
HasStatements files name = lines_of files name ≡ Ok (lines_in files name)

-- ---- runs

-- the state in which every run of a program begins: a reset, with its words in both memories
abbrev pub first_state : ImageData → List Sample → State
first_state image samples = first_of_pages image.program image.store image.marks image.run_marks (samples_at samples)

-- the end of n steps of the program's words
abbrev pub RunsItsWords : ImageData → List Sample → List ScheduleEntry → ℕ → Ending → Type 0
RunsItsWords image = RunsWords image.program image.store image.marks image.run_marks

-- the end of n steps of the statements of the sources, read from no word
abbrev pub statements_run : Files → List (List ℕ) → ImageData → List Sample → List ScheduleEntry → ℕ → Ending
statements_run files names image samples entries n =
    runs.run_of (statement_step (source_statements files names image.described)) (signals_of entries) 0 n (first_state image samples)

-- ---- claims of a program

-- the hex texts hold exactly the words of the sources at the addresses of the printed map, and the words at each instruction
-- statement on either page, where they are loaded, read as its mnemonic with the numbers of its operands
pub record HoldsSourceWords (c : Chain) (files : Files) (names : List (List ℕ)) (image : ImageData) : Type 0 where
  pub printed : IsMapOf (string_bytes c.map) image.described
  pub page0 : string_bytes c.page0 ≡ written image.program
  pub page1 : string_bytes c.page1 ≡ written image.store
  pub spelled0 : SpellsWords (string_bytes c.page0) image.program
  pub spelled1 : SpellsWords (string_bytes c.page1) image.store
  pub program : HasSourceWords files names image.described 0 image.program
  pub store : HasSourceWords files names image.described 1 image.store
  pub statements : All (ReadsAs image.program) (loaded_statements (source_statements files names image.described))
  pub stored : All (ReadsAs image.store) (stored_statements files names image.described)

-- the marks and the run marks are exactly the addresses and sizes of the instruction statements on page 0, and no source lacks its
-- statements
pub record MarksStatements (files : Files) (names : List (List ℕ)) (image : ImageData) : Type 0 where
  pub sources : All (HasStatements files) names
  pub marks : AreMarksOf (source_statements files names image.described) image.marks image.run_marks

-- for every sample list, schedule and n the words run to an end exactly where the statements do: in the same state, outputs, registers
-- and memories included, or leaving the code at the same step for the same reason
abbrev pub RunsAsSources : Files → List (List ℕ) → ImageData → Type 0
RunsAsSources files names image =
    (samples : List Sample) (entries : List ScheduleEntry) (n : ℕ) (e : Ending)
    → RunsItsWords image samples entries n e ↔ (e ≡ statements_run files names image samples entries n)

-- a state that one of the runs is in after n steps
abbrev pub IsReached : Files → List (List ℕ) → ImageData → List Sample → List ScheduleEntry → ℕ → State → Type 0
IsReached files names image samples entries n t =
    RunsItsWords image samples entries n (Ran t) ⊎ (statements_run files names image samples entries n ≡ Ran t)

-- in every state of either run the words of the instruction statements, where they are loaded, are those of the hex text
abbrev pub CodeStays : Files → List (List ℕ) → ImageData → Type 0
CodeStays files names image =
    (samples : List Sample) (entries : List ScheduleEntry) (n : ℕ) (t : State) (address : ℕ)
    → IsReached files names image samples entries n t
    → is_code (marks_of (loaded_statements (source_statements files names image.described))) address ≡ true
    → t.world.program address ≡ memory_of_map image.program address

-- ---- claims of an answer

-- a claim of the one program that the answer's texts are those of, in which its samples, its schedule and its n have no part
pub record OfProgram (claim : Files → List (List ℕ) → ImageData → Type 0) (files : Files) (names : List (List ℕ)) (command : List ℕ) (c : Chain) : Type 0 where
  pub image : ImageData
  pub built : IsBuilt files names command image (texts_of c) (map string_bytes c.listings.items)
  pub holds : claim files names image

-- the run of the answer is the run of the statements with the answer's own samples, schedule and n
pub record TellsStatementsRun (g : Given) (n : ℕ) (c : Chain) : Type 0 where
  pub image : ImageData
  pub inputs : Inputs
  pub built : IsBuilt g.files g.sources g.command image (texts_of c) (map string_bytes c.listings.items)
  pub read : inputs_in g ≡ Ok inputs
  pub run : EndsAs n (statements_run g.files g.sources image inputs.samples inputs.entries n) (run_of c)
