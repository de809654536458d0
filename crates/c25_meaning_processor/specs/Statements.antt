-- The instruction statements of a program: how a processor would run them without any words, and when the
-- words in memory are an image of them.
use Rattle.std.specs.Prelude.{◌≡◌, ℕ, ◌+◌, ◌%◌, ◌^◌, ◌≤◌, ◌↔◌, Bool, List, [], ◌++◌, map, Option, None, Some, if◌then◌else◌}
use Rattle.std.specs.Option.{option_map, option_and_then}
use Rattle.c25_meaning_image.specs.declared.mark.Mark.{Mark}
use Rattle.c25_meaning_image.specs.declared.mark.RunMark.{RunMark}
use Rattle.c25_meaning_instructions.specs.declared.insn.Insn.{Insn}
use Rattle.c25_meaning_processor.specs.declared.lines.Lines.{Lines}
use Rattle.c25_meaning_processor.specs.State.{World, State, StepResult, holds, loaded_marks, under}
use Rattle.c25_meaning_image.specs.Marks.{first_at, size_at, is_code, run_at}
use Rattle.c25_meaning_instructions.specs.Table.{Reads, size_of, words}
use Rattle.c25_meaning_processor.specs.Step.{clear_of_b0, begun, stepped}
use Rattle.c25_meaning_processor.specs.WordStep.{WordStep}
use Rattle.c25_meaning_processor.specs.Run.{Signals, Ending, Reaches, Runs, run_of}

-- an instruction statement on page 0: its address, and its mnemonic with its operands' numbers
pub record Statement : Type 0 where
  pub address : ℕ
  pub insn : Insn

-- an instruction statement on page 0 whose section runs in B0: where it is loaded, where it runs, and its mnemonic with its operands' numbers
pub record Copied : Type 0 where
  pub load : ℕ
  pub run : ℕ
  pub insn : Insn

-- the instruction statements of a program on page 0: those that run where they stand, and those that run in
-- B0, where the program moves them
pub record Statements : Type 0 where
  pub plain : List Statement
  pub copied : List Copied

-- the statements of a program that runs nothing in B0
abbrev pub plainly : List Statement → Statements
plainly statements = record { plain = statements; copied = [] }

-- the instruction of the statement at an address, if there is one
unfoldable pub statement_at : List Statement → ℕ → Option Insn
statement_at statements address = option_map (λ s. s.insn) (first_at (λ s. s.address) statements address)

-- the mark of a statement
abbrev pub mark_of : Statement → Mark
mark_of s = record { address = s.address; size = size_of s.insn }

-- the marks of statements
abbrev pub marks_of : List Statement → List Mark
marks_of statements = map mark_of statements

-- ---- statements that run in B0

-- a statement that runs in B0, as one where it is loaded
abbrev pub loaded_statement : Copied → Statement
loaded_statement c = record { address = c.load; insn = c.insn }

-- all statements of a program, each where its words are loaded
abbrev pub loaded_statements : Statements → List Statement
loaded_statements ss = map loaded_statement ss.copied ++ ss.plain

-- the run mark of a statement that runs in B0
abbrev pub run_mark_of : Copied → RunMark
run_mark_of c = record { load = c.load; run = c.run; size = size_of c.insn }

-- the statement that runs at an address of B0, if there is one
unfoldable pub copied_at : List Copied → ℕ → Option Copied
copied_at copied address = first_at (λ c. c.run) copied address

-- the instruction of a statement that runs in B0, where B0 holds its words
abbrev pub held : World → Copied → Option Insn
held w c = if holds w c.run (words c.insn) then Some c.insn else None

-- ---- steps

-- an instruction, unless a word of it lies in B0 under CNF 1
abbrev pub outside_b0 : Bool → ℕ → Insn → Option Insn
outside_b0 cnf pc i = if clear_of_b0 cnf pc (size_of i) then Some i else None

-- the instruction that a program has at an address: of the given statement, which runs there in B0, if B0
-- holds its words; where none is given, of the statement that stands there, unless it lies in B0
abbrev pub standing_by : Statements → Bool → World → ℕ → Option Copied → Option Insn
standing_by ss cnf w pc None = option_and_then (outside_b0 cnf pc) (statement_at ss.plain pc)
standing_by ss cnf w pc (Some c) = held w c

-- the instruction that a program has at an address, if it has one; statements run in B0 under CNF 1 alone
abbrev pub standing : Statements → Bool → World → ℕ → Option Insn
standing ss cnf w pc = standing_by ss cnf w pc (option_and_then (under cnf) (copied_at ss.copied pc))

-- one step of the statements, with these interrupt lines and this BIO level: the statement at PC acts, with
-- the numbers that it has as operands
abbrev pub statement_step : Statements → Lines → Bool → State → StepResult
statement_step ss lines bio s =
    let r = begun lines s in
    stepped bio (standing ss r.cnf s.world r.pc) r s.world

-- what lies around the processor is an image of these statements: its marks and run marks are those of the
-- statements, its code is the words of the statements where they are loaded, and there the words of each
-- statement read as its instruction and lie below address 65,536
pub record IsImageOf (ss : Statements) (w : World) : Type 0 where
  pub starts : (address : ℕ) → size_at w.marks address ≡ size_at (marks_of ss.plain) address
  pub code : (address : ℕ) → is_code (loaded_marks w) address ≡ is_code (marks_of (loaded_statements ss)) address
  pub runs : (address : ℕ) → run_at w.run_marks address ≡ option_map run_mark_of (copied_at ss.copied address)
  pub room : (address : ℕ) (i : Insn) → statement_at ss.plain address ≡ Some i → address + size_of i ≤ 2 ^ 16
  pub reads : (address : ℕ) (i : Insn) → statement_at ss.plain address ≡ Some i → Reads (w.program address) (w.program ((address + 1) % 2 ^ 16)) i
  pub copied_room : (address : ℕ) (c : Copied) → copied_at ss.copied address ≡ Some c → c.load + size_of c.insn ≤ 2 ^ 16
  pub copied_reads : (address : ℕ) (c : Copied) → copied_at ss.copied address ≡ Some c → Reads (w.program c.load) (w.program ((c.load + 1) % 2 ^ 16)) c.insn

-- each run of the words ends as the run of the statements does: in the same state, outputs and memories
-- included, or with the same stop at the same step
abbrev pub RunsAsStatements : Statements → State → Type 0
RunsAsStatements statements s =
    (signals : Signals) (k n : ℕ) (e : Ending) → Runs WordStep signals k n s e ↔ (e ≡ run_of (statement_step statements) signals k n s)

-- in every state that a run of the words reaches, the words are still an image of the statements
abbrev pub KeepsStatements : Statements → State → Type 0
KeepsStatements statements s =
    (signals : Signals) (k n : ℕ) (t : State) → Reaches WordStep signals k n s t → IsImageOf statements t.world
