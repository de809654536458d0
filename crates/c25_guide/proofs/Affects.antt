-- A field of the status words that an instruction does not affect stays. Each row is looked at with each field: a field
-- that the row affects is shown as 0 before and after, so that one reason serves for all.
use Rattle.std.proofs.Common.{◌≡◌, ℕ, ℤ, Bool, true, false, Option, None, Some, Ok, Err, cond, refl, ◌∙◌}
use Rattle.std.specs.Prelude.{IfOk, slice_get, not, ◌&&◌, ◌||◌, nat_lt, nat_le, nat_eq, slice_index, ◌^◌}
use Rattle.c25_meaning_instructions.specs.declared.insn.Insn.{Insn}
use Rattle.c25_meaning_instructions.specs.declared.insn.Insn.TheVariants as insn
use Rattle.c25_meaning_instructions.specs.declared.insn.Addr.{Addr}
use Rattle.c25_meaning_instructions.specs.declared.insn.Addr.TheVariants.{Direct, Indirect}
use Rattle.c25_meaning_instructions.specs.declared.insn.Change.{Change}
use Rattle.c25_meaning_instructions.specs.declared.insn.PlainOperand.{PlainOperand}
use Rattle.c25_meaning_instructions.specs.declared.mnemonic.MemName.{MemName}
use Rattle.c25_meaning_instructions.specs.declared.mnemonic.MemName.TheVariants as mem
use Rattle.c25_meaning_instructions.specs.declared.mnemonic.ShiftedName.{ShiftedName}
use Rattle.c25_meaning_instructions.specs.declared.mnemonic.ShiftedName.TheVariants as shifted
use Rattle.c25_meaning_instructions.specs.declared.mnemonic.ArMemName.TheVariants as ar_mem
use Rattle.c25_meaning_instructions.specs.declared.mnemonic.PortName.TheVariants as port
use Rattle.c25_meaning_instructions.specs.declared.mnemonic.BitName.{BitName}
use Rattle.c25_meaning_instructions.specs.declared.mnemonic.BitName.TheVariants as bit
use Rattle.c25_meaning_instructions.specs.declared.mnemonic.ShortName.{ShortName}
use Rattle.c25_meaning_instructions.specs.declared.mnemonic.ShortName.TheVariants as short
use Rattle.c25_meaning_instructions.specs.declared.mnemonic.LongName.{LongName}
use Rattle.c25_meaning_instructions.specs.declared.mnemonic.LongName.TheVariants as long
use Rattle.c25_meaning_instructions.specs.declared.mnemonic.LongMemName.{LongMemName}
use Rattle.c25_meaning_instructions.specs.declared.mnemonic.LongMemName.TheVariants as long_mem
use Rattle.c25_meaning_instructions.specs.declared.mnemonic.JumpName.{JumpName}
use Rattle.c25_meaning_instructions.specs.declared.mnemonic.JumpName.TheVariants as jump
use Rattle.c25_meaning_instructions.specs.declared.mnemonic.PlainName.{PlainName}
use Rattle.c25_meaning_instructions.specs.declared.mnemonic.PlainName.TheVariants as plain
use Rattle.c25_meaning_processor.specs.declared.registers.Registers.{Registers}
use Rattle.c25_meaning_processor.specs.declared.stop.Stop.{Stop}
use Rattle.c25_meaning_processor.specs.State.{World, State, StepResult}
use Rattle.c25_meaning_processor.specs.Operand.{after_operand}
use Rattle.c25_meaning_processor.specs.Arithmetic.{normalized, left_once, right_once, rotated_left, rotated_right}
use Rattle.c25_meaning_processor.specs.Effect.{effect, settle, to, with_ar, branch, without_overflow, input, norm_effect, mem_operand, mem_effect, shifted_effect, bit_effect, short_effect, long_effect, long_mem_effect, jump_effect, plain_effect}
use Rattle.c25_guide.specs.Affects.{Flag, ARP, ARB, among, number_of, affects, mem_affects, shifted_affects, bit_affects, short_affects, long_affects, long_mem_affects, jump_affects, plain_affects, operand_affects, mem_operand_affects}

-- a field's number, or 0 where it is affected
abbrev shown : Bool → Flag → Registers → ℕ
shown affected f r = cond affected 0 (number_of f r)

abbrev Same : Bool → Flag → Registers → Registers → Type 0
Same affected f r s = shown affected f s ≡ shown affected f r

abbrev Stays : Bool → Flag → Registers → StepResult → Type 0
Stays affected f r t = IfOk t (λ (s : State). Same affected f r s.registers)

-- what shows less is the same too
widened : (affected more : Bool) (f : Flag) (r s : Registers) → Same affected f r s → Same (affected || more) f r s
widened true more f r s h = refl
widened false true f r s h = refl
widened false false f r s h = h

exchanged : (more more2 affected : Bool) (f : Flag) (r : Registers) (t : StepResult) → more ≡ more2 → Stays (affected || more) f r t → Stays (affected || more2) f r t
exchanged true true affected f r t e h = h
exchanged false false affected f r t e h = h
exchanged true false affected f r t e h = absurd (cc)
exchanged false true affected f r t e h = absurd (cc)

-- ---- operands

-- an operand changes ARP and ARB alone, where it has a next register
operand_stays : (a : Addr) (f : Flag) (affected : Bool) (arp : ℕ) (r : Registers) → Same (affected || among f (operand_affects a)) f r (after_operand a arp r)
operand_stays (Indirect c (Some next)) ARP true arp r = refl
operand_stays (Indirect c (Some next)) ARP false arp r = refl
operand_stays (Indirect c (Some next)) ARB true arp r = refl
operand_stays (Indirect c (Some next)) ARB false arp r = refl
operand_stays (Indirect c (Some next)) _ affected arp r = refl
operand_stays (Indirect c None) ARP affected arp r = refl
operand_stays (Indirect c None) _ affected arp r = refl
operand_stays (Direct low) f affected arp r = refl

moved : (a : Addr) (affected : Bool) (f : Flag) (arp : ℕ) (r s : Registers) → Same affected f r s → Same (affected || among f (operand_affects a)) f r (after_operand a arp s)
moved a affected f arp r s h = operand_stays a f affected arp s ∙ widened affected (among f (operand_affects a)) f r s h

settled : (a : Addr) (affected : Bool) (f : Flag) (arp : ℕ) (r : Registers) (t : StepResult) → Stays affected f r t → Stays (affected || among f (operand_affects a)) f r (settle a arp t)
settled a affected f arp r (Ok s) h = moved a affected f arp r s.registers h
settled a affected f arp r (Err stop) h = tt

mem_operand_is : (name : MemName) (a : Addr) (f : Flag) → among f (operand_affects (mem_operand name a)) ≡ among f (mem_operand_affects name a)
mem_operand_is mem.Lst (Direct low) f = refl
mem_operand_is mem.Lst (Indirect c next) f = refl
mem_operand_is mem.Lst1 (Direct low) f = refl
mem_operand_is mem.Lst1 (Indirect c next) f = refl
mem_operand_is _ a f = refl

-- ---- what may stop, branch or load a register

guarded : (b : Bool) (f : Flag) (stop : Stop) (r : Registers) (w : World) → Stays false f r (cond b (Err stop) (to r w))
guarded true f stop r w = tt
guarded false f stop r w = refl

input_stays : (o : Option ℕ) (f : Flag) (address n : ℕ) (r : Registers) (w : World) → Stays false f r (input o address n r w)
input_stays None f address n r w = tt
input_stays (Some x) f address n r w = refl

loaded : (f : Flag) (n word : ℕ) (r : Registers) → number_of f (with_ar n word r) ≡ number_of f r
loaded ARP n word r = refl
loaded _ n word r = refl

loaded_same : (affected : Bool) (f : Flag) (n word : ℕ) (r : Registers) → Same affected f r (with_ar n word r)
loaded_same true f n word r = refl
loaded_same false f n word r = loaded f n word r

branched : (b : Bool) (f : Flag) (target : ℕ) (r : Registers) → Same false f r (branch b target r)
branched true ARP target r = refl
branched true _ target r = refl
branched false f target r = refl

over : (b : Bool) (f : Flag) (target : ℕ) (r : Registers) → Same (among f (jump_affects jump.Bv)) f r (cond b (record (without_overflow r) { pc = target }) r)
over true ARP target r = refl
over true _ target r = refl
over false ARP target r = refl
over false _ target r = refl

not_over : (b : Bool) (f : Flag) (target : ℕ) (r : Registers) → Same (among f (jump_affects jump.Bnv)) f r (cond b (without_overflow r) (record r { pc = target }))
not_over true ARP target r = refl
not_over true _ target r = refl
not_over false ARP target r = refl
not_over false _ target r = refl

normal : (o : Option ℕ) (f : Flag) (c : Change) (r : Registers) → Same (among f (plain_affects plain.Norm)) f r (norm_effect o c r)
normal None ARP c r = refl
normal None _ c r = refl
normal (Some n) ARP c r = refl
normal (Some n) _ c r = refl

-- ---- the rows

mem_rows : (name : MemName) (f : Flag) (m address k : ℕ) (r : Registers) (w : World) → Stays (among f (mem_affects name)) f r (mem_effect name m address k r w)
mem_rows mem.Tblw f m address k r w = guarded _ f _ r _
mem_rows _ ARP m address k r w = refl
mem_rows _ _ m address k r w = refl

shifted_rows : (name : ShiftedName) (f : Flag) (m address s : ℕ) (r : Registers) (w : World) → Stays (among f (shifted_affects name)) f r (shifted_effect name m address s r w)
shifted_rows shifted.Add ARP m address s r w = refl
shifted_rows _ ARP m address s r w = refl
shifted_rows _ _ m address s r w = refl

bit_rows : (name : BitName) (f : Flag) (m code : ℕ) (r : Registers) → Same (among f (bit_affects name)) f r (bit_effect m code r)
bit_rows bit.Bit ARP m code r = refl
bit_rows bit.Bit _ m code r = refl

short_rows : (name : ShortName) (f : Flag) (register : ℕ) (number : ℤ) (r : Registers) → Same (among f (short_affects name)) f r (short_effect name register number r)
short_rows short.Adrk ARP register number r = refl
short_rows _ ARP register number r = refl
short_rows _ _ register number r = refl

long_rows : (name : LongName) (f : Flag) (number high : ℕ) (r : Registers) → Same (among f (long_affects name)) f r (long_effect name number high r)
long_rows long.Lrlk ARP number high r = refl
long_rows _ ARP number high r = refl
long_rows _ _ number high r = refl

long_mem_rows : (name : LongMemName) (f : Flag) (at m address : ℕ) (r : Registers) (w : World) → Stays (among f (long_mem_affects name)) f r (long_mem_effect name at m address r w)
long_mem_rows long_mem.Mac ARP at m address r w = refl
long_mem_rows _ ARP at m address r w = refl
long_mem_rows _ _ at m address r w = refl

jump_rows : (name : JumpName) (f : Flag) (target : ℕ) (bio : Bool) (r : Registers) → Same (among f (jump_affects name)) f r (jump_effect name target bio r)
jump_rows jump.Bc f target bio r = branched r.acc.c f target r
jump_rows jump.Bnc f target bio r = branched (not r.acc.c) f target r
jump_rows jump.Bv f target bio r = over r.acc.ov f target r
jump_rows jump.Bgz f target bio r = branched (nat_lt r.acc.value (2 ^ 31) && not (nat_eq r.acc.value 0)) f target r
jump_rows jump.Blez f target bio r = branched (nat_le (2 ^ 31) r.acc.value || nat_eq r.acc.value 0) f target r
jump_rows jump.Blz f target bio r = branched (nat_le (2 ^ 31) r.acc.value) f target r
jump_rows jump.Bgez f target bio r = branched (nat_lt r.acc.value (2 ^ 31)) f target r
jump_rows jump.Bnz f target bio r = branched (not (nat_eq r.acc.value 0)) f target r
jump_rows jump.Bz f target bio r = branched (nat_eq r.acc.value 0) f target r
jump_rows jump.Bnv f target bio r = not_over r.acc.ov f target r
jump_rows jump.Bbz f target bio r = branched (not r.tc) f target r
jump_rows jump.Bbnz f target bio r = branched r.tc f target r
jump_rows jump.Bioz f target bio r = branched (not bio) f target r
jump_rows jump.Banz f target bio r = branched (not (nat_eq (slice_index r.ar r.arp) 0)) f target r
jump_rows jump.Call ARP target bio r = refl
jump_rows jump.Call _ target bio r = refl
jump_rows jump.B ARP target bio r = refl
jump_rows jump.B _ target bio r = refl

plain_rows : (name : PlainName) (f : Flag) (o : PlainOperand) (r : Registers) → Same (among f (plain_affects name)) f r (plain_effect name o r)
unfolding left_once right_once rotated_left rotated_right
plain_rows plain.Norm f o r = normal (normalized r.acc.value) f _ r
plain_rows _ ARP o r = refl
plain_rows _ _ o r = refl

-- ---- any instruction

all_rows : (i : Insn) (f : Flag) (k : ℕ) (bio : Bool) (r : Registers) (w : World) → Stays (affects i f) f r (effect i k bio r w)
unfolding effect
all_rows (insn.Mem name a) f k bio r w =
    exchanged _ _ (among f (mem_affects name)) f r _ (mem_operand_is name a f)
    (settled (mem_operand name a) (among f (mem_affects name)) f r.arp r _ (mem_rows name f _ _ k r w))
all_rows (insn.Shifted name a s) f k bio r w = settled a (among f (shifted_affects name)) f r.arp r _ (shifted_rows name f _ _ s r w)
all_rows (insn.ArMem ar_mem.Lar n a) f k bio r w = loaded_same (among f (operand_affects a)) f n _ (after_operand a r.arp r) ∙ operand_stays a f false r.arp r
all_rows (insn.ArMem ar_mem.Sar n a) f k bio r w = operand_stays a f false r.arp r
all_rows (insn.Port port.In a n) f k bio r w = settled a false f r.arp r _ (input_stays (slice_get (w.samples n) 0) f _ n r w)
all_rows (insn.Port port.Out a n) f k bio r w = operand_stays a f false r.arp r
all_rows (insn.Bit name a n) f k bio r w = moved a (among f (bit_affects name)) f r.arp r _ (bit_rows name f _ n r)
all_rows (insn.Short name n z) f k bio r w = short_rows name f n z r
all_rows (insn.Long name n high) f k bio r w = long_rows name f n high r
all_rows (insn.LongMem name n a) f k bio r w = settled a (among f (long_mem_affects name)) f r.arp r _ (long_mem_rows name f _ _ _ r w)
all_rows (insn.Jump name n c next) f k bio r w = moved (Indirect c next) (among f (jump_affects name)) f r.arp r _ (jump_rows name f n bio r)
all_rows (insn.Plain name o) f k bio r w = plain_rows name f o r

unshown : (affected : Bool) (f : Flag) (r : Registers) (t : StepResult) → affected ≡ false → Stays affected f r t → IfOk t (λ (s : State). number_of f s.registers ≡ number_of f r)
unshown false f r t e h = h
unshown true f r t e h = absurd (cc)

pub field_stays : (i : Insn) (f : Flag) (k : ℕ) (bio : Bool) (r : Registers) (w : World) → affects i f ≡ false → IfOk (effect i k bio r w) (λ s. number_of f s.registers ≡ number_of f r)
field_stays i f k bio r w e = unshown (affects i f) f r (effect i k bio r w) e (all_rows i f k bio r w)
