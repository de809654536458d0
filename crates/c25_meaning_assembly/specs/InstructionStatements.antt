-- The instruction statements of a module: the address of each, and its operands as numbers and addresses
-- (SPRU018, relocation).
use Rattle.std.specs.Prelude.{ℕ, List, [], ◌∷◌, ◌++◌, Result, Ok}
use Rattle.c25_meaning_assembly.specs.Addresses.{OperandValues, operand_values}
use Rattle.c25_meaning_assembly.specs.Emission.{all_names, at_origin, table_at}
use Rattle.c25_meaning_language.specs.ExpansionFault.{ExpansionFault}
use Rattle.c25_meaning_common.specs.Results.{◌>>=◌, fold_ok}
use Rattle.c25_meaning_assembly.specs.Sections.{Definitions, Content, Operands, PendingItem, Progress}
use Rattle.c25_meaning_language.specs.Statement.{insn_of}
use Rattle.c25_meaning_assembly.specs.declared.assembly.Target.TheVariants as target
use Rattle.c25_meaning_instructions.specs.declared.insn.Insn.{Insn}
use Rattle.c25_meaning_language.specs.declared.statement.Form.{Form}

-- an instruction statement: its section, its offset there, its form, and its operands, whose numbers are 0
-- where there is an address
pub record Instruction : Type 0 where
  pub section : ℕ
  pub offset : ℕ
  pub form : Form
  pub sheet : OperandValues

-- the instruction with 0 in its relocated fields
abbrev pub insn_with_zeros : Instruction → Insn
insn_with_zeros i = insn_of i.form i.sheet.numbers

-- the statements so far, with that of an item if the item is an instruction
abbrev pub statement_by : Definitions → PendingItem → Content → List Instruction → Result (List Instruction) ExpansionFault
statement_by names item (Operands (target.Instruction f) trees) before =
    at_origin item.origin (operand_values (target.Instruction f) (table_at names item.section item.offset) trees) >>= λ s.
    Ok (before ++ record { section = item.section; offset = item.offset; form = f; sheet = s } ∷ [])
statement_by names item _ before = Ok before

-- the statements so far, with that of one more item
abbrev pub with_statement : Definitions → List Instruction → PendingItem → Result (List Instruction) ExpansionFault
with_statement names before item = statement_by names item item.content before

-- the instruction statements of a module, in the order of its lines
abbrev pub instructions_of : Progress → Result (List Instruction) ExpansionFault
instructions_of p = fold_ok (with_statement (all_names p)) [] p.items
