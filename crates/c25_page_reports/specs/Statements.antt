-- The statements of a linked image, as its words and marks have them.
use Rattle.std.specs.Prelude.{◌≡◌, ℕ, ◌+◌, ◌%◌, ◌^◌, ◌≤◌, List, map}
use Rattle.std.specs.List.{All}
use Rattle.c25_meaning_image.specs.declared.mark.Mark.{Mark}
use Rattle.c25_meaning_image.specs.declared.mark.RunMark.{RunMark}
use Rattle.c25_meaning_instructions.specs.declared.insn.Insn.{Insn}
use Rattle.c25_meaning_instructions.specs.Table.{Reads, size_of}
use Rattle.c25_meaning_linking.specs.Linking.{ImageData}
use Rattle.c25_meaning_processor.specs.FirstState.{first_of_pages}
use Rattle.c25_meaning_processor.specs.Memory.{Memory}
use Rattle.c25_meaning_processor.specs.Statements.{IsImageOf}
use Rattle.c25_pages.specs.Program.{statements_of}
use Rattle.c25_pages.specs.declared.program.CopiedStatement.{CopiedStatement}
use Rattle.c25_pages.specs.declared.program.PlainStatement.{PlainStatement}
use Rattle.c25_pages.specs.declared.program.Program.{Program}

-- the statements are those of an image: the first state of its run is an image of them, with any samples
abbrev pub AreStatementsOf : ImageData → Program → Type 0
AreStatementsOf image program =
    (samples : ℕ → List ℕ) → IsImageOf (statements_of program) (first_of_pages image.program image.store image.marks image.run_marks samples).world

-- the words at an address of program memory read as an instruction of this size, and end below address 65,536
pub record IsInsnAt (program : Memory) (address size : ℕ) (i : Insn) : Type 0 where
  pub reads : Reads (program address) (program ((address + 1) % 2 ^ 16)) i
  pub size_is : size_of i ≡ size
  pub room : address + size ≤ 2 ^ 16

-- the mark of a statement that runs where it stands
abbrev pub plain_mark : PlainStatement → Mark
plain_mark s = record { address = s.address; size = size_of s.insn }

-- the mark of a statement that runs in block B0
abbrev pub copied_mark : CopiedStatement → RunMark
copied_mark s = record { load = s.load; run = s.run; size = size_of s.insn }

-- the words at a statement's address read as it
abbrev pub IsRead : Memory → PlainStatement → Type 0
IsRead program s = IsInsnAt program s.address (size_of s.insn) s.insn

-- the words where a statement that runs in block B0 is loaded read as it
abbrev pub IsCopiedRead : Memory → CopiedStatement → Type 0
IsCopiedRead program s = IsInsnAt program s.load (size_of s.insn) s.insn

-- these are the statements of marks, as the words read
pub record ArePlain (program : Memory) (marks : List Mark) (statements : List PlainStatement) : Type 0 where
  pub marks_are : map plain_mark statements ≡ marks
  pub reads : All (IsRead program) statements

-- these are the statements of run marks, as the words read
pub record AreCopied (program : Memory) (marks : List RunMark) (statements : List CopiedStatement) : Type 0 where
  pub marks_are : map copied_mark statements ≡ marks
  pub reads : All (IsCopiedRead program) statements
