-- The instruction statements of a program: those of its sources, each at its addresses and with the numbers of its operands
-- under the map (SPRU018, source statement format, linker description; SPRU014, instruction set).
use Rattle.std.specs.Prelude.{◌≡◌, ℕ, ◌+◌, ◌<◌, ◌==◌, Bool, true, not, ◌&&◌, List, [], ◌∷◌, ◌++◌, filter, map, Some, Result, Ok, Err}
use Rattle.std.specs.List.{flat_map}
use Rattle.std.specs.List.Sorted.{IsPermutation}
use Rattle.std.specs.FinMap as finite
use Rattle.std.specs.Ordering.{nat_cmp}
use Rattle.c25_meaning_assembly.specs.OperandFields.{field_of}
use Rattle.c25_meaning_language.specs.ExpansionFault.{ExpansionFault}
use Rattle.c25_meaning_expansion.specs.ExpansionRuns.{start_of}
use Rattle.c25_meaning_expansion.specs.Files.{Files}
use Rattle.c25_meaning_image.specs.Marks.{fit_from, run_fit}
use Rattle.c25_meaning_objects.specs.Module.{Contents}
use Rattle.c25_meaning_assembly.specs.ModuleOfSource.{Assembled, assembled, passed_from}
use Rattle.c25_meaning_linking.specs.Place.{Place}
use Rattle.c25_meaning_common.specs.Results.{◌>>=◌}
use Rattle.c25_meaning_assembly.specs.Sections.{Content, Definitions, PendingItem, Operands, Progress, start}
use Rattle.c25_meaning_language.specs.Statement.{insn_of}
use Rattle.c25_meaning_processor.specs.State.{World, program_at}
use Rattle.c25_meaning_processor.specs.Statements.{Copied, Statement, Statements, marks_of, run_mark_of}
use Rattle.c25_meaning_instructions.specs.Table.{Reads, size_of}
use Rattle.c25_meaning_language.specs.Tree.{Tree}
use Rattle.c25_meaning_linking.specs.Words.{section_base, section_name, section_page, section_run, section_runs_elsewhere}
use Rattle.c25_meaning_assembly.specs.declared.assembly.Target.{Target}
use Rattle.c25_meaning_assembly.specs.declared.assembly.Target.TheVariants as target
use Rattle.c25_meaning_image.specs.declared.mark.Mark.{Mark}
use Rattle.c25_meaning_image.specs.declared.mark.RunMark.{RunMark}
use Rattle.c25_meaning_instructions.specs.declared.insn.Insn.{Insn}
use Rattle.c25_laws.specs.SourceValues.{counted_from, operand_number}

-- ---- sources

-- these are the modules of the sources of these names
abbrev pub AreModulesOf : Files → List (List ℕ) → List Contents → Type 0
AreModulesOf files [] [] = Unit {0}
AreModulesOf files [] (m ∷ modules) = ⊥
AreModulesOf files (name ∷ names) [] = ⊥
AreModulesOf files (name ∷ names) (m ∷ modules) =
    ((a : Assembled) × (assembled files name ≡ Ok a) × (a.contents ≡ m)) × AreModulesOf files names modules

-- what the lines of the source of this name make, or their fault
abbrev pub lines_of : Files → List ℕ → Result Progress ExpansionFault
lines_of files name = passed_from files name (start_of files name) >>= λ a. Ok a.progress

-- what lines make; nothing if there is a fault
abbrev pub without_fault : Result Progress ExpansionFault → Progress
without_fault (Ok p) = p
without_fault (Err fault) = start

-- what the lines of the source of this name make; a source that assembles to a module has no fault
abbrev pub lines_in : Files → List ℕ → Progress
lines_in files name = without_fault (lines_of files name)

-- ---- statements

-- the numbers of the operands of a line that begins at this offset of this section
abbrev pub numbers_under : List Contents → List Place → ℕ → Contents → Definitions → ℕ → ℕ → Target → List Tree → List ℕ
numbers_under modules places number m names section offset t trees =
    counted_from (λ k e. operand_number modules places number m names section offset (field_of t k) e) 0 trees

-- an instruction statement under the map: the name and the page of its section, the addresses where its words
-- are loaded and where they run, whether they run elsewhere than they are loaded, and its mnemonic with the
-- numbers of its operands
pub record PlacedStatement : Type 0 where
  pub section : List ℕ
  pub page : ℕ
  pub load : ℕ
  pub run : ℕ
  pub elsewhere : Bool
  pub insn : Insn

-- the statement of an item, if the item is an instruction: its addresses are its section's part plus its
-- offset
abbrev pub item_statements : List Contents → List Place → ℕ → Contents → Definitions → PendingItem → Content → List PlacedStatement
item_statements modules places number m names i (Operands (target.Instruction f) trees) = record {
  section = section_name m i.section;
  page = section_page places m i.section;
  load = section_base modules places number m i.section + i.offset;
  run = section_run modules places number m i.section + i.offset;
  elsewhere = section_runs_elsewhere places m i.section;
  insn = insn_of f (numbers_under modules places number m names i.section i.offset (target.Instruction f) trees);
} ∷ []
item_statements modules places number m names i _ = []

-- the statements of the lines of a module
abbrev pub line_statements : List Contents → List Place → ℕ → Contents → Progress → List PlacedStatement
line_statements modules places number m p = flat_map (λ i. item_statements modules places number m p.names i i.content) p.items

-- the statements of modules, one module after the other; the modules are numbered from `number` on
abbrev pub statements_from : List Contents → List Place → ℕ → List Contents → List Progress → List PlacedStatement
statements_from modules places number (m ∷ ms) (p ∷ ps) =
    line_statements modules places number m p ++ statements_from modules places (number + 1) ms ps
statements_from modules places number _ _ = []

-- the instruction statements of the sources of these names, whose modules are placed so
abbrev pub all_statements : Files → List (List ℕ) → List Contents → List Place → List PlacedStatement
all_statements files names modules places = statements_from modules places 0 modules (map (lines_in files) names)

-- ---- pages

-- whether a statement's section is on this page
abbrev pub stands_on : ℕ → PlacedStatement → Bool
stands_on page s = s.page == page

-- whether a statement is on page 0 and runs where it is loaded
abbrev pub runs_in_place : PlacedStatement → Bool
runs_in_place s = stands_on 0 s && not s.elsewhere

-- whether a statement is on page 0 and runs elsewhere, in block B0
abbrev pub runs_in_b0 : PlacedStatement → Bool
runs_in_b0 s = stands_on 0 s && s.elsewhere

-- a statement at the address where its words are loaded
abbrev pub as_loaded : PlacedStatement → Statement
as_loaded s = record { address = s.load; insn = s.insn }

-- a statement with the addresses where its words are loaded and where they run
abbrev pub as_copied : PlacedStatement → Copied
as_copied s = record { load = s.load; run = s.run; insn = s.insn }

-- the statements on a page, at the addresses where their words are loaded
abbrev pub on_page : ℕ → List PlacedStatement → List Statement
on_page page all = map as_loaded (filter (stands_on page) all)

-- the statements on page 0: those that run where they are loaded, and those that run in block B0
abbrev pub split_by_run : List PlacedStatement → Statements
split_by_run all = record { plain = map as_loaded (filter runs_in_place all); copied = map as_copied (filter runs_in_b0 all) }

-- the instruction statements on a page of the sources of these names, whose modules are placed so
abbrev pub page_statements : ℕ → Files → List (List ℕ) → List Contents → List Place → List Statement
page_statements page files names modules places = on_page page (all_statements files names modules places)

-- the instruction statements on page 0 of the sources of these names, whose modules are placed so
abbrev pub program_statements : Files → List (List ℕ) → List Contents → List Place → Statements
program_statements files names modules places = split_by_run (all_statements files names modules places)

-- ---- programs

-- marks are exactly the addresses and sizes of the statements that run where they are loaded, in ascending order, and run marks
-- exactly the load addresses, the run addresses and the sizes of those that run in block B0, in the order in which they run
pub record AreMarksOf (ss : Statements) (marks : List Mark) (run_marks : List RunMark) : Type 0 where
  pub same : IsPermutation (marks_of ss.plain) marks
  pub ascend : fit_from 0 marks ≡ true
  pub copied : IsPermutation (map run_mark_of ss.copied) run_marks
  pub fit : run_fit marks run_marks ≡ true

-- the words of a page at a statement's address read as the statement, and the second word is there where it
-- has two
pub record ReadsAs (page : finite.FinMap nat_cmp ℕ) (s : Statement) : Type 0 where
  pub first : ℕ
  pub second : ℕ
  pub first_is : finite.get page s.address ≡ Some first
  pub second_is : size_of s.insn ≡ 2 → finite.get page (s.address + 1) ≡ Some second
  pub reads : Reads first second s.insn

-- block B0, which the processor sees at FF00h to FFFFh of program memory under CNF 1, holds the words of a
-- section that runs there: at each offset the word that program memory holds at that offset of the section
-- where it is loaded
abbrev pub HoldsSection : World → Place → ℕ → Type 0
HoldsSection w section run = (offset : ℕ) → offset < section.size → program_at true w (run + offset) ≡ w.program (section.base + offset)
