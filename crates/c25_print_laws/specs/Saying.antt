-- What a line whose operands are numbers says: the statement that it is read as, and the numbers of its
-- operands.
use Rattle.std.specs.Prelude.{◌≡◌, ℕ, List, [], None, Ok}
use Rattle.c25_meaning_instructions.specs.declared.insn.Insn.{Insn}
use Rattle.c25_meaning_language.specs.Statement.{insn_of}
use Rattle.c25_meaning_language.specs.Tree.{Tree}
use Rattle.c25_meaning_language.specs.Value.{Table}
use Rattle.c25_meaning_language.specs.declared.statement.Form.{Form}
use Rattle.c25_meaning_assembly.specs.Addresses.{operand_values, words_of}
use Rattle.c25_meaning_assembly.specs.AssemblyLine.{Put, read_statement}
use Rattle.c25_meaning_assembly.specs.declared.assembly.Target.{Target}
use Rattle.c25_meaning_assembly.specs.declared.assembly.Target.TheVariants.{Instruction}

-- the operands have these numbers, which their fields take, and none is an address, whatever symbols there
-- are
abbrev pub HasNumbers : Target → List Tree → List ℕ → Type 0
HasNumbers t trees numbers = (table : Table) → operand_values t table trees ≡ Ok (record { numbers = numbers; addresses = [] })

-- a line has no label, and puts these numbers into the fields of its instruction or data
pub record Puts (text : List ℕ) (t : Target) (numbers : List ℕ) : Type 0 where
  pub trees : List Tree
  pub read : read_statement text ≡ Ok (record { label = None; act = Put t trees })
  pub valued : HasNumbers t trees numbers

-- a line says this instruction: its form and its numbers make it
pub record Says (text : List ℕ) (i : Insn) : Type 0 where
  pub form : Form
  pub numbers : List ℕ
  pub puts : Puts text (Instruction form) numbers
  pub insn : insn_of form numbers ≡ i

-- a line makes these words
pub record Makes (text words : List ℕ) : Type 0 where
  pub target : Target
  pub numbers : List ℕ
  pub puts : Puts text target numbers
  pub words_are : words_of target numbers ≡ words
