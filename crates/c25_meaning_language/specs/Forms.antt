-- The form of an instruction by the kinds of its operands, or what is wrong with them: first too few or too
-- many operands (51), then an operand of another kind than the instruction takes (52) (SPRU014, instruction
-- set and addressing modes).
use Rattle.std.specs.Prelude.{ℕ, zero, suc, ◌+◌, ◌||◌, ◌&&◌, Bool, true, false, nat_lt, if◌then◌else◌, List, [], ◌∷◌, length, slice_get, Option, Some, None, Result, Ok, Err}
use Rattle.std.specs.List.{list_all}
use Rattle.c25_meaning_common.specs.Results.{◌>>=◌}
use Rattle.c25_meaning_instructions.specs.declared.insn.Change.{Change}
use Rattle.c25_meaning_instructions.specs.declared.insn.Change.TheVariants as change
use Rattle.c25_meaning_instructions.specs.declared.mnemonic.Mnemonic.{Mnemonic}
use Rattle.c25_meaning_instructions.specs.declared.mnemonic.Mnemonic.TheVariants as family
use Rattle.c25_meaning_instructions.specs.declared.mnemonic.Spelling.{Spelling}
use Rattle.c25_meaning_instructions.specs.declared.mnemonic.Spelling.TheVariants as spelling
use Rattle.c25_meaning_instructions.specs.declared.mnemonic.MemName.TheVariants as mem
use Rattle.c25_meaning_instructions.specs.declared.mnemonic.ShortName.{ShortName}
use Rattle.c25_meaning_instructions.specs.declared.mnemonic.ShortName.TheVariants as short
use Rattle.c25_meaning_instructions.specs.declared.mnemonic.LongName.{LongName}
use Rattle.c25_meaning_instructions.specs.declared.mnemonic.LongName.TheVariants as long
use Rattle.c25_meaning_instructions.specs.declared.mnemonic.JumpName.{JumpName}
use Rattle.c25_meaning_instructions.specs.declared.mnemonic.JumpName.TheVariants as jump
use Rattle.c25_meaning_instructions.specs.declared.mnemonic.PlainName.{PlainName}
use Rattle.c25_meaning_instructions.specs.declared.mnemonic.PlainName.TheVariants as plain
use Rattle.c25_meaning_language.specs.declared.statement.AddrForm.{AddrForm}
use Rattle.c25_meaning_language.specs.declared.statement.AddrForm.TheVariants as addr
use Rattle.c25_meaning_language.specs.declared.statement.Form.{Form}
use Rattle.c25_meaning_language.specs.declared.statement.Form.TheVariants as form
use Rattle.c25_meaning_language.specs.declared.statement.Written.{Written}
use Rattle.c25_meaning_language.specs.declared.statement.Written.TheVariants as written
use Rattle.c25_meaning_language.specs.declared.statement.FaultKind.{FaultKind}
use Rattle.c25_meaning_language.specs.declared.statement.FaultKind.TheVariants as fault

-- whether an operand is written as an expression
abbrev pub is_expression : Written → Bool
is_expression written.Expression = true
is_expression _ = false

-- nothing, where there are from low to high operands; else OperandCount (51)
abbrev pub counted : ℕ → ℕ → List Written → Result (Unit {0}) FaultKind
counted low high ws = if nat_lt (length ws) low || nat_lt high (length ws) then Err fault.OperandCount else Ok tt

-- whether all operands but the one at an index are expressions
abbrev pub others : ℕ → List Written → Bool
others k [] = true
others zero (w ∷ ws) = list_all is_expression ws
others (suc k) (w ∷ ws) = is_expression w && others k ws

-- how many more operands this one allows: the next auxiliary register may follow an indirect operand
abbrev pub more_behind : Option Written → ℕ
more_behind (Some (written.Indirect change)) = 1
more_behind _ = 0

-- the form of a memory operand: direct for an expression, indirect with its change
abbrev pub addr_written : Option Written → Result AddrForm FaultKind
addr_written (Some written.Expression) = Ok addr.Direct
addr_written (Some (written.Indirect change)) = Ok (addr.Indirect change)
addr_written _ = Err fault.OperandForm

-- the form, if the other operands fit it; else OperandForm (52)
abbrev pub formed : {A : Type 0} → Bool → A → Result A FaultKind
formed true x = Ok x
formed false x = Err fault.OperandForm

-- the form of the memory operand at an index, the others being expressions; there are from low to high
-- operands, and one more may follow where it is indirect
unfoldable pub memory : ℕ → ℕ → ℕ → List Written → Result AddrForm FaultKind
memory at low high ws =
    counted low (high + more_behind (slice_get ws at)) ws >>= λ _. addr_written (slice_get ws at) >>= λ a. formed (others at ws) a

-- nothing, where there are from low to high operands, all of them expressions; else 51, then 52
unfoldable pub expressions : ℕ → ℕ → List Written → Result (Unit {0}) FaultKind
expressions low high ws = counted low high ws >>= λ _. formed (list_all is_expression ws) tt

-- the change of an indirect operand; the default where the operand is not written
abbrev pub change_written : Change → Option Written → Result Change FaultKind
change_written default None = Ok default
change_written default (Some (written.Indirect change)) = Ok change
change_written default _ = Err fault.OperandForm

-- the change of a jump that is written without one: BANZ decrements the current auxiliary register
abbrev pub jump_change : JumpName → Change
jump_change jump.Banz = change.Decrement
jump_change _ = change.Keep

-- the change of a jump: its operands are the address, perhaps an indirect operand, and after that perhaps the
-- next auxiliary register
unfoldable pub jumping : JumpName → List Written → Result Change FaultKind
jumping name ws =
    counted 1 (2 + more_behind (slice_get ws 1)) ws >>= λ _. change_written (jump_change name) (slice_get ws 1) >>= λ c. formed (others 1 ws) c

-- the change of NORM: its one operand is indirect and may be missing, which stands for `*+`
unfoldable pub norm : List Written → Result Change FaultKind
norm ws = counted 0 1 ws >>= λ _. change_written change.Increment (slice_get ws 0)

-- how many operands a short constant has
abbrev pub short_count : ShortName → ℕ
short_count short.Lark = 2
short_count _ = 1

-- how many operands a long constant has at least; it has at most two
abbrev pub long_least : LongName → ℕ
long_least long.Lrlk = 2
long_least _ = 1

-- the change of a plain instruction: NORM has its own; SPM, FORT and CMPR take one number, the others no
-- operand
abbrev pub plain_change : PlainName → List Written → Result Change FaultKind
plain_change plain.Norm ws = norm ws
plain_change plain.Spm ws = expressions 1 1 ws >>= λ _. Ok change.Keep
plain_change plain.Fort ws = expressions 1 1 ws >>= λ _. Ok change.Keep
plain_change plain.Cmpr ws = expressions 1 1 ws >>= λ _. Ok change.Keep
plain_change _ ws = expressions 0 0 ws >>= λ _. Ok change.Keep

-- the form of an instruction by its row of the opcode table
abbrev pub row_form : Mnemonic → List Written → Result Form FaultKind
row_form (family.Mem name) ws = memory 0 1 1 ws >>= λ a. Ok (form.Mem name a)
row_form (family.Shifted name) ws = memory 0 1 2 ws >>= λ a. Ok (form.Shifted name a)
row_form (family.ArMem name) ws = memory 1 2 2 ws >>= λ a. Ok (form.ArMem name a)
row_form (family.Port name) ws = memory 0 2 2 ws >>= λ a. Ok (form.Port name a)
row_form (family.Bit name) ws = memory 0 2 2 ws >>= λ a. Ok (form.Bit name a)
row_form (family.Short name) ws = expressions (short_count name) (short_count name) ws >>= λ _. Ok (form.Short name)
row_form (family.Long name) ws = expressions (long_least name) 2 ws >>= λ _. Ok (form.Long name)
row_form (family.LongMem name) ws = memory 1 2 2 ws >>= λ a. Ok (form.LongMem name a)
row_form (family.Jump name) ws = jumping name ws >>= λ c. Ok (form.Jump name c)
row_form (family.Plain name) ws = plain_change name ws >>= λ c. Ok (form.Plain name c)

-- the form of an instruction by its mnemonic: ZAC is LACK 0, NOP is MAR 0, LARP n is MAR *,n
abbrev pub form_of : Spelling → List Written → Result Form FaultKind
form_of (spelling.Row mnemonic) ws = row_form mnemonic ws
form_of spelling.Zac ws = expressions 0 0 ws >>= λ _. Ok (form.Short short.Lack)
form_of spelling.Nop ws = expressions 0 0 ws >>= λ _. Ok (form.Mem mem.Mar addr.Direct)
form_of spelling.Larp ws = expressions 1 1 ws >>= λ _. Ok (form.Mem mem.Mar (addr.Indirect change.Keep))
