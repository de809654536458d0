-- The operands of a line when all symbols are known: the numbers that absolute values give their fields, and
-- for each address its field and what it counts from (SPRU018, expressions and relocation).
use Rattle.std.specs.Prelude.{ℕ, ◌+◌, ◌<◌, Bool, true, false, List, [], ◌∷◌, ◌++◌, length, map, reverse, Option, Some, None, Result, Ok, Err, ℤ, if◌then◌else◌}
use Rattle.std.specs.List.{All}
use Rattle.c25_meaning_common.specs.Results.{◌>>=◌, fold_ok}
use Rattle.c25_meaning_language.specs.Statement.{insn_of, number_in, relocation_of, valued}
use Rattle.c25_meaning_instructions.specs.Table.{size, words}
use Rattle.c25_meaning_language.specs.Tree.{Tree}
use Rattle.c25_meaning_language.specs.Value.{Table}
use Rattle.c25_meaning_assembly.specs.OperandFields.{field_of, word_of}
use Rattle.c25_meaning_assembly.specs.declared.assembly.Address.{Address}
use Rattle.c25_meaning_assembly.specs.declared.assembly.Target.{Target}
use Rattle.c25_meaning_assembly.specs.declared.assembly.Target.TheVariants as target
use Rattle.c25_meaning_objects.specs.declared.object.Relocation.{Relocation}
use Rattle.c25_meaning_objects.specs.declared.object.RelocationBase.{RelocationBase}
use Rattle.c25_meaning_objects.specs.declared.object.RelocationBase.TheVariants as relocated
use Rattle.c25_meaning_common.specs.declared.relocation.RelocationKind.{RelocationKind}
use Rattle.c25_meaning_language.specs.declared.statement.FaultKind.{FaultKind}
use Rattle.c25_meaning_language.specs.declared.statement.FaultKind.TheVariants as fault
use Rattle.c25_meaning_language.specs.declared.statement.Field.{Field}
use Rattle.c25_meaning_language.specs.declared.statement.Form.TheVariants as form
use Rattle.c25_meaning_language.specs.declared.value.Base.{Base}
use Rattle.c25_meaning_language.specs.declared.value.Base.TheVariants.{Absolute, Section, Loaded, External}

-- ---- numbers and addresses

-- the operands of a line: the numbers of its expressions, 0 where a value is an address, and the addresses
-- among them
pub record OperandValues : Type 0 where
  pub numbers : List ℕ
  pub addresses : List Address

-- no operands: before the first expression
abbrev pub no_operands : OperandValues
no_operands = record { numbers = []; addresses = [] }

-- the operands with one more number
abbrev pub with_number : ℕ → OperandValues → OperandValues
with_number n s = record s { numbers = s.numbers ++ n ∷ [] }

-- the operands with one more address, if the field takes one
abbrev pub with_address : Option RelocationKind → RelocationBase → ℤ → OperandValues → Result OperandValues FaultKind
with_address None base addend s = Err fault.NotRelocatable
with_address (Some kind) base addend s =
    Ok (record { numbers = s.numbers ++ 0 ∷ []; addresses = s.addresses ++ record { operand = length s.numbers; kind = kind; base = base; addend = addend } ∷ [] })

-- the operands with one more value, a number or an address, if the field takes it
abbrev pub with_value : Base → Field → ℤ → OperandValues → Result OperandValues FaultKind
with_value Absolute field z s = number_in field z >>= λ n. Ok (with_number n s)
with_value (Section number) field z s = with_address (relocation_of field) (relocated.Section number) z s
with_value (Loaded number) field z s = with_address (relocation_of field) (relocated.Loaded number) z s
with_value (External number) field z s = with_address (relocation_of field) (relocated.External number) z s

-- the operands with one more expression
unfoldable pub taken : Target → Table → OperandValues → Tree → Result OperandValues FaultKind
taken t table s e = valued table e >>= λ v. with_value v.base (field_of t (length s.numbers)) v.offset s

-- the operands of a line: all its expressions, from left to right
abbrev pub operand_values : Target → Table → List Tree → Result OperandValues FaultKind
operand_values t table trees = fold_ok (taken t table) no_operands trees

-- the field of each address lies in one of the first `size` words of the line
abbrev pub AreWithin : Target → ℕ → List Address → Type 0
AreWithin t size addresses = All (λ a. word_of (field_of t a.operand) a.operand < size) addresses

-- ---- words and relocations

-- the words of a line, by the numbers of its operands
abbrev pub words_of : Target → List ℕ → List ℕ
words_of (target.Instruction f) ns = words (insn_of f ns)
words_of (target.Data w) ns = ns

-- the relocation of an address in a line that begins at this offset of this section
abbrev pub relocation_at : Target → ℕ → ℕ → Address → Relocation
relocation_at t section offset a = record {
  section = section;
  offset = offset + word_of (field_of t a.operand) a.operand;
  kind = a.kind;
  base = a.base;
  addend = a.addend;
}

-- whether the operand of the second word is written first, as in MAC, MACD, BLKP and BLKD
abbrev pub ends_first : Target → Bool
ends_first (target.Instruction (form.LongMem name addr)) = true
ends_first _ = false

-- the addresses of a line in the order of its words
abbrev pub in_order : Target → List Address → List Address
in_order t addresses = if ends_first t then reverse addresses else addresses

-- the relocations of a line, in the order of its words
abbrev pub relocations_of : Target → ℕ → ℕ → List Address → List Relocation
relocations_of t section offset addresses = map (relocation_at t section offset) (in_order t addresses)
