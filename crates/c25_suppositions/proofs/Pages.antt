-- DP is below 512 in every state that a run reaches from one in which it is.
use Rattle.std.proofs.Common.{◌≡◌, ℕ, zero, suc, ◌+◌, ◌%◌, ◌^◌, ◌<◌, ℤ, pos, negsuc, Bool, true, false, not, ◌&&◌, if◌then◌else◌, Option, None, Some, Ok, Err, sym, subst, arith}
use Rattle.std.specs.Prelude.{slice_get}
use Rattle.c25_bits.specs.Cut.{cut}
use Rattle.c25_meaning_image.specs.Marks.{is_code}
use Rattle.c25_meaning_instructions.specs.declared.insn.Addr.{Addr}
use Rattle.c25_meaning_instructions.specs.declared.insn.Addr.TheVariants.{Direct, Indirect}
use Rattle.c25_meaning_instructions.specs.declared.insn.Change.{Change}
use Rattle.c25_meaning_instructions.specs.declared.insn.PlainOperand.{PlainOperand}
use Rattle.c25_meaning_instructions.specs.declared.insn.Insn.{Insn}
use Rattle.c25_meaning_instructions.specs.declared.insn.Insn.TheVariants as insn
use Rattle.c25_meaning_instructions.specs.declared.mnemonic.ArMemName.{ArMemName}
use Rattle.c25_meaning_instructions.specs.declared.mnemonic.ArMemName.TheVariants as ar_mem
use Rattle.c25_meaning_instructions.specs.declared.mnemonic.JumpName.{JumpName}
use Rattle.c25_meaning_instructions.specs.declared.mnemonic.JumpName.TheVariants as jump
use Rattle.c25_meaning_instructions.specs.declared.mnemonic.LongName.{LongName}
use Rattle.c25_meaning_instructions.specs.declared.mnemonic.LongName.TheVariants as long
use Rattle.c25_meaning_instructions.specs.declared.mnemonic.LongMemName.{LongMemName}
use Rattle.c25_meaning_instructions.specs.declared.mnemonic.LongMemName.TheVariants as long_mem
use Rattle.c25_meaning_instructions.specs.declared.mnemonic.MemName.{MemName}
use Rattle.c25_meaning_instructions.specs.declared.mnemonic.MemName.TheVariants as mem
use Rattle.c25_meaning_instructions.specs.declared.mnemonic.PlainName.{PlainName}
use Rattle.c25_meaning_instructions.specs.declared.mnemonic.PlainName.TheVariants as plain
use Rattle.c25_meaning_instructions.specs.declared.mnemonic.PortName.{PortName}
use Rattle.c25_meaning_instructions.specs.declared.mnemonic.PortName.TheVariants as port
use Rattle.c25_meaning_instructions.specs.declared.mnemonic.ShiftedName.{ShiftedName}
use Rattle.c25_meaning_instructions.specs.declared.mnemonic.ShiftedName.TheVariants as shifted
use Rattle.c25_meaning_instructions.specs.declared.mnemonic.ShortName.{ShortName}
use Rattle.c25_meaning_instructions.specs.declared.mnemonic.ShortName.TheVariants as short
use Rattle.c25_meaning_instructions.specs.Table.{size_of}
use Rattle.c25_meaning_processor.specs.Arithmetic.{normalized}
use Rattle.c25_meaning_processor.specs.declared.lines.Lines.{Lines}
use Rattle.c25_meaning_processor.specs.declared.registers.Registers.{Registers}
use Rattle.c25_meaning_processor.specs.declared.stop.Stop.TheVariants.{BadRepeat, CodeWrite}
use Rattle.c25_meaning_processor.specs.Effect.{ar_mem_effect, branch, effect, input, jump_effect, long_effect, long_mem_effect, mem_address, mem_effect, mem_operand, norm_effect, operand_change, operand_word, plain_effect, port_effect, settle, shifted_effect, short_effect, store_program, to, without_overflow}
use Rattle.c25_meaning_processor.specs.Operand.{address_of, after_operand}
use Rattle.c25_meaning_processor.specs.Reset.{reset}
use Rattle.c25_meaning_processor.specs.Run.{Reaches, Signals}
use Rattle.c25_meaning_processor.specs.State.{State, StepResult, World, data_at, in_program_b0, loaded_marks, with_program}
use Rattle.c25_meaning_processor.specs.Step.{advanced, begun, executed, is_unrepeatable, stepped}
use Rattle.c25_meaning_processor.specs.WordStep.{WordStep}
use Rattle.c25_suppositions.proofs.Begun.{advanced_as, begun_as}

-- the page is one of the 512 pages
abbrev pub IsPage : ℕ → Type 0
IsPage page = page < 512

-- the result of a step has a page in DP, where there is a state after it
abbrev pub HasPage : StepResult → Type 0
HasPage (Ok s) = IsPage s.registers.dp
HasPage (Err stop) = Unit {0}

low_bits : (n : ℕ) → n % 512 < 512
low_bits n = omega arith

cut_page : (z : ℤ) → cut z 9 < 512
cut_page (pos n) = omega arith
cut_page (negsuc n) = omega arith

operand_page : (a : Addr) (arp : ℕ) (r : Registers) → IsPage r.dp → IsPage (after_operand a arp r).dp
operand_page (Direct low) arp r h = h
operand_page (Indirect change None) arp r h = h
operand_page (Indirect change (Some next)) arp r h = h

settle_page : (a : Addr) (arp : ℕ) (o : StepResult) → HasPage o → HasPage (settle a arp o)
settle_page a arp (Ok s) h = operand_page a arp s.registers h
settle_page a arp (Err stop) h = tt

store_program_page : (address word : ℕ) (r : Registers) (w : World) → IsPage r.dp → HasPage (store_program address word r w)
store_program_page address word r w h = go (is_code (loaded_marks w) address && not (r.cnf && in_program_b0 address))
  where
    go : (b : Bool) → HasPage (if b then Err CodeWrite else to r (with_program r.cnf w address word))
    go true = tt
    go false = h

mem_page : (name : MemName) (m address k : ℕ) (r : Registers) (w : World) → IsPage r.dp → HasPage (mem_effect name m address k r w)
mem_page mem.Ldp m address k r w h = low_bits m
mem_page mem.Lst m address k r w h = low_bits m
mem_page mem.Tblw m address k r w h = store_program_page _ _ r w h
mem_page name m address k r w h = h

shifted_page : (name : ShiftedName) (m address s : ℕ) (r : Registers) (w : World) → IsPage r.dp → HasPage (shifted_effect name m address s r w)
shifted_page shifted.Sacl m address s r w h = h
shifted_page name m address s r w h = h

ar_mem_page : (name : ArMemName) (register : ℕ) (a : Addr) (m address : ℕ) (r : Registers) (w : World) → IsPage r.dp → HasPage (ar_mem_effect name register a m address r w)
ar_mem_page ar_mem.Lar register a m address r w h = operand_page a r.arp r h
ar_mem_page ar_mem.Sar register a m address r w h = operand_page a r.arp r h

input_page : (sample : Option ℕ) (address number : ℕ) (r : Registers) (w : World) → IsPage r.dp → HasPage (input sample address number r w)
input_page None address number r w h = tt
input_page (Some word) address number r w h = h

port_page : (name : PortName) (m address number : ℕ) (r : Registers) (w : World) → IsPage r.dp → HasPage (port_effect name m address number r w)
port_page port.In m address number r w h = input_page (slice_get (w.samples number) 0) address number r w h
port_page port.Out m address number r w h = h

short_page : (name : ShortName) (register : ℕ) (k : ℤ) (r : Registers) → IsPage r.dp → IsPage (short_effect name register k r).dp
short_page short.Ldpk register k r h = cut_page k
short_page name register k r h = h

long_page : (name : LongName) (k high : ℕ) (r : Registers) → IsPage r.dp → IsPage (long_effect name k high r).dp
long_page long.Lrlk k high r h = h
long_page name k high r h = h

long_mem_page : (name : LongMemName) (at m address : ℕ) (r : Registers) (w : World) → IsPage r.dp → HasPage (long_mem_effect name at m address r w)
long_mem_page long_mem.Macd at m address r w h = h
long_mem_page name at m address r w h = h

branch_page : (b : Bool) (target : ℕ) (r : Registers) → IsPage r.dp → IsPage (branch b target r).dp
branch_page true target r h = h
branch_page false target r h = h

jump_page : (name : JumpName) (target : ℕ) (bio : Bool) (r : Registers) → IsPage r.dp → IsPage (jump_effect name target bio r).dp
jump_page jump.Bv target bio r h = go r.acc.ov
  where
    go : (b : Bool) → IsPage (if b then record (without_overflow r) { pc = target } else r).dp
    go true = h
    go false = h
jump_page jump.Bnv target bio r h = go r.acc.ov
  where
    go : (b : Bool) → IsPage (if b then without_overflow r else record r { pc = target }).dp
    go true = h
    go false = h
jump_page jump.Call target bio r h = h
jump_page jump.B target bio r h = h
jump_page name target bio r h = branch_page _ target r h

norm_page : (value : Option ℕ) (change : Change) (r : Registers) → IsPage r.dp → IsPage (norm_effect value change r).dp
norm_page None change r h = h
norm_page (Some value) change r h = h

plain_page : (name : PlainName) (o : PlainOperand) (r : Registers) → IsPage r.dp → IsPage (plain_effect name o r).dp
plain_page plain.Norm o r h = norm_page (normalized r.acc.value) (operand_change o) r h
plain_page name o r h = h

effect_page : (i : Insn) (k : ℕ) (bio : Bool) (r : Registers) (w : World) → IsPage r.dp → HasPage (effect i k bio r w)
unfolding effect
effect_page (insn.Mem name a) k bio r w h =
    settle_page (mem_operand name a) r.arp _ (mem_page name (data_at r.cnf w (mem_address name a r)) (mem_address name a r) k r w h)
effect_page (insn.Shifted name a s) k bio r w h = settle_page a r.arp _ (shifted_page name (operand_word a r w) (address_of a r) s r w h)
effect_page (insn.ArMem name register a) k bio r w h = ar_mem_page name register a (operand_word a r w) (address_of a r) r w h
effect_page (insn.Port name a number) k bio r w h = settle_page a r.arp _ (port_page name (operand_word a r w) (address_of a r) number r w h)
effect_page (insn.Bit name a code) k bio r w h = operand_page a r.arp _ h
effect_page (insn.Short name register number) k bio r w h = short_page name register number r h
effect_page (insn.Long name number high) k bio r w h = long_page name number high r h
effect_page (insn.LongMem name word a) k bio r w h =
    settle_page a r.arp _ (long_mem_page name ((word + k) % 2 ^ 16) (operand_word a r w) (address_of a r) r w h)
effect_page (insn.Jump name target change next) k bio r w h =
    operand_page (Indirect change next) r.arp (jump_effect name target bio r) (jump_page name target bio r h)
effect_page (insn.Plain name o) k bio r w h = plain_page name o r h

executed_page : (bio : Bool) (i : Option Insn) (r : Registers) (w : World) → IsPage r.dp → HasPage (executed bio i r w)
executed_page bio None r w h = tt
executed_page bio (Some i) r w h = go (r.repeating && is_unrepeatable i)
  where
    go : (b : Bool) → HasPage (if b then Err BadRepeat else effect i r.repeated bio (advanced (size_of i) r) w)
    go true = tt
    go false = effect_page i r.repeated bio (advanced (size_of i) r) w (subst IsPage (advanced_as (size_of i) r).dp h)

stepped_page : (bio : Bool) (i : Option Insn) (r : Registers) (w : World) → IsPage r.dp → HasPage (stepped bio i r w)
unfolding stepped
stepped_page bio i r w h = go r.asleep
  where
    go : (b : Bool) → HasPage (if b then Ok (record { registers = r; world = w }) else executed bio i r w)
    go true = h
    go false = executed_page bio i r w h

step_page : (lines : Lines) (bio : Bool) (s : State) (o : StepResult) → WordStep lines bio s o → IsPage s.registers.dp → HasPage o
step_page lines bio s o (i, fetched, is) h =
    subst HasPage (sym is) (stepped_page bio i (begun lines s) s.world (subst IsPage (begun_as lines s).dp h))

pub runs_have_pages : (signals : Signals) (k n : ℕ) (s t : State) → Reaches WordStep signals k n s t → IsPage s.registers.dp → IsPage t.registers.dp
runs_have_pages signals k zero s t same h = subst (λ (x : State). IsPage x.registers.dp) same h
runs_have_pages signals k (suc n) s t (u, reached, steps) h =
    step_page (signals.lines (k + n)) (signals.bio (k + n)) u (Ok t) steps (runs_have_pages signals k n s u reached h)

pub reset_has_page : (s : State) → s.registers ≡ reset → IsPage s.registers.dp
unfolding reset
reset_has_page s from = subst (λ (r : Registers). IsPage r.dp) (sym from) zero_page
  where
    zero_page : 0 < 512
    zero_page = omega arith
