-- A step puts out one word at most.
use Rattle.std.proofs.Common.{◌≡◌, ℕ, zero, suc, ◌+◌, ◌≤◌, Bool, true, false, not, ◌&&◌, if◌then◌else◌, List, [], ◌∷◌, ◌++◌, length, Option, None, Some, Ok, Err, refl, ap, sym, subst, ◌∙◌, append_assoc, append-nil, arith}
use Rattle.std.proofs.lemmas.List.{length-append}
use Rattle.std.specs.Prelude.{slice_get}
use Rattle.c25_meaning_instructions.specs.declared.insn.Addr.{Addr}
use Rattle.c25_meaning_instructions.specs.declared.insn.Insn.{Insn}
use Rattle.c25_meaning_instructions.specs.declared.insn.Insn.TheVariants as insn
use Rattle.c25_meaning_instructions.specs.declared.mnemonic.ShiftedName.{ShiftedName}
use Rattle.c25_meaning_instructions.specs.declared.mnemonic.ShiftedName.TheVariants as shifted
use Rattle.c25_meaning_instructions.specs.declared.mnemonic.ArMemName.{ArMemName}
use Rattle.c25_meaning_instructions.specs.declared.mnemonic.ArMemName.TheVariants as ar_mem
use Rattle.c25_meaning_instructions.specs.declared.mnemonic.PortName.{PortName}
use Rattle.c25_meaning_instructions.specs.declared.mnemonic.PortName.TheVariants as port
use Rattle.c25_meaning_instructions.specs.declared.mnemonic.MemName.{MemName}
use Rattle.c25_meaning_instructions.specs.declared.mnemonic.MemName.TheVariants as mem
use Rattle.c25_meaning_instructions.specs.declared.mnemonic.LongMemName.{LongMemName}
use Rattle.c25_meaning_instructions.specs.declared.mnemonic.LongMemName.TheVariants as long_mem
use Rattle.c25_meaning_instructions.specs.Table.{size_of}
use Rattle.c25_meaning_image.specs.Marks.{is_code}
use Rattle.c25_meaning_processor.specs.declared.registers.Registers.{Registers}
use Rattle.c25_meaning_processor.specs.declared.stop.Stop.TheVariants.{BadRepeat, CodeWrite}
use Rattle.c25_meaning_processor.specs.Memory.{put}
use Rattle.c25_meaning_processor.specs.Operand.{address_of}
use Rattle.c25_meaning_processor.specs.Run.{Reaches, Signals}
use Rattle.c25_meaning_processor.specs.State.{State, World, StepResult, b0_word, data_at, in_b0, in_program_b0, loaded_marks, with_data, with_program}
use Rattle.c25_meaning_processor.specs.Step.{advanced, begun, executed, is_unrepeatable, stepped}
use Rattle.c25_meaning_processor.specs.WordStep.{WordStep}
use Rattle.c25_meaning_processor.specs.Effect.{ar_mem_effect, effect, input, long_mem_effect, mem_address, mem_effect, mem_operand, operand_word, port_effect, settle, shifted_effect, store_program, to}

-- outputs, and at most so many after them
abbrev pub Grows : ℕ → List (ℕ × ℕ) → List (ℕ × ℕ) → Type 0
Grows n old new = (more : List (ℕ × ℕ)) × (new ≡ old ++ more) × (length more ≤ n)

grows_not : (old : List (ℕ × ℕ)) (n : ℕ) → Grows n old old
grows_not old n = ([], sym (append-nil old), omega arith)

-- an outcome that leaves a state has one output more at most
abbrev GrowsAfter : World → StepResult → Type 0
GrowsAfter w (Ok s) = Grows 1 w.outputs s.world.outputs
GrowsAfter w (Err stop) = Unit {0}

data_few : (cnf : Bool) (w : World) (address word : ℕ) → Grows 1 w.outputs (with_data cnf w address word).outputs
unfolding with_data
data_few cnf w address word = go (cnf && in_b0 address)
  where
    go : (b : Bool) → Grows 1 w.outputs (if b then w else record w { words = put w.words address word }).outputs
    go true = grows_not w.outputs 1
    go false = grows_not w.outputs 1

program_few : (cnf : Bool) (w : World) (address word : ℕ) → Grows 1 w.outputs (with_program cnf w address word).outputs
unfolding with_program
program_few cnf w address word = go (cnf && in_program_b0 address)
  where
    go : (b : Bool) → Grows 1 w.outputs (if b then record w { words = put w.words (b0_word address) word } else record w { program = put w.program address word }).outputs
    go true = grows_not w.outputs 1
    go false = grows_not w.outputs 1

store_program_few : (address word : ℕ) (r : Registers) (w : World) → GrowsAfter w (store_program address word r w)
store_program_few address word r w = go (is_code (loaded_marks w) address && not (r.cnf && in_program_b0 address))
  where
    go : (b : Bool) → GrowsAfter w (if b then Err CodeWrite else to r (with_program r.cnf w address word))
    go true = tt
    go false = program_few r.cnf w address word

mem_few : (name : MemName) (m address k : ℕ) (r : Registers) (w : World) → GrowsAfter w (mem_effect name m address k r w)
mem_few mem.Ltd m address k r w = data_few _ w _ _
mem_few mem.Dmov m address k r w = data_few _ w _ _
mem_few mem.Tblr m address k r w = data_few _ w _ _
mem_few mem.Tblw m address k r w = store_program_few _ _ r w
mem_few mem.Sst m address k r w = data_few _ w _ _
mem_few mem.Sst1 m address k r w = data_few _ w _ _
mem_few mem.Popd m address k r w = data_few _ w _ _
mem_few mem.Spl m address k r w = data_few _ w _ _
mem_few mem.Sph m address k r w = data_few _ w _ _
mem_few name m address k r w = grows_not w.outputs 1

shifted_few : (name : ShiftedName) (m address s : ℕ) (r : Registers) (w : World) → GrowsAfter w (shifted_effect name m address s r w)
shifted_few shifted.Sacl m address s r w = data_few _ w _ _
shifted_few shifted.Sach m address s r w = data_few _ w _ _
shifted_few name m address s r w = grows_not w.outputs 1

ar_mem_few : (name : ArMemName) (register : ℕ) (a : Addr) (m address : ℕ) (r : Registers) (w : World) → GrowsAfter w (ar_mem_effect name register a m address r w)
ar_mem_few ar_mem.Lar register a m address r w = grows_not w.outputs 1
ar_mem_few ar_mem.Sar register a m address r w = data_few _ w _ _

input_few : (sample : Option ℕ) (address number : ℕ) (r : Registers) (w : World) → GrowsAfter w (input sample address number r w)
input_few None address number r w = tt
input_few (Some word) address number r w = data_few r.cnf _ _ _

port_few : (name : PortName) (m address number : ℕ) (r : Registers) (w : World) → GrowsAfter w (port_effect name m address number r w)
port_few port.In m address number r w = input_few (slice_get (w.samples number) 0) address number r w
port_few port.Out m address number r w = ((number, m) ∷ [], refl, omega arith)

long_mem_few : (name : LongMemName) (at m address : ℕ) (r : Registers) (w : World) → GrowsAfter w (long_mem_effect name at m address r w)
long_mem_few long_mem.Macd at m address r w = data_few _ w _ _
long_mem_few long_mem.Mac at m address r w = grows_not w.outputs 1
long_mem_few long_mem.Blkp at m address r w = data_few _ w _ _
long_mem_few long_mem.Blkd at m address r w = data_few _ w _ _

settle_few : (w : World) (a : Addr) (arp : ℕ) (o : StepResult) → GrowsAfter w o → GrowsAfter w (settle a arp o)
settle_few w a arp (Ok s) h = h
settle_few w a arp (Err stop) h = tt

effect_few : (i : Insn) (k : ℕ) (bio : Bool) (r : Registers) (w : World) → GrowsAfter w (effect i k bio r w)
unfolding effect
effect_few (insn.Mem name a) k bio r w =
    settle_few w (mem_operand name a) r.arp _ (mem_few name (data_at r.cnf w (mem_address name a r)) (mem_address name a r) k r w)
effect_few (insn.Shifted name a s) k bio r w = settle_few w a r.arp _ (shifted_few name (operand_word a r w) (address_of a r) s r w)
effect_few (insn.ArMem name register a) k bio r w = ar_mem_few name register a (operand_word a r w) (address_of a r) r w
effect_few (insn.Port name a number) k bio r w = settle_few w a r.arp _ (port_few name (operand_word a r w) (address_of a r) number r w)
effect_few (insn.LongMem name word a) k bio r w = settle_few w a r.arp _ (long_mem_few name _ (operand_word a r w) (address_of a r) r w)
effect_few i k bio r w = grows_not w.outputs 1

executed_few : (bio : Bool) (i : Option Insn) (r : Registers) (w : World) → GrowsAfter w (executed bio i r w)
executed_few bio None r w = tt
executed_few bio (Some i) r w = go (r.repeating && is_unrepeatable i)
  where
    go : (b : Bool) → GrowsAfter w (if b then Err BadRepeat else effect i r.repeated bio (advanced (size_of i) r) w)
    go true = tt
    go false = effect_few i r.repeated bio (advanced (size_of i) r) w

stepped_few : (bio : Bool) (i : Option Insn) (r : Registers) (w : World) → GrowsAfter w (stepped bio i r w)
unfolding stepped
stepped_few bio i r w = go r.asleep
  where
    go : (b : Bool) → GrowsAfter w (if b then Ok (record { registers = r; world = w }) else executed bio i r w)
    go true = grows_not w.outputs 1
    go false = executed_few bio i r w

-- ---- runs

grows_then : (a b c : List (ℕ × ℕ)) (m n : ℕ) → Grows m a b → Grows n b c → Grows (m + n) a c
grows_then a b c m n (p, first, few) (q, second, less) =
    let lengths = length-append p q in
    (p ++ q, second ∙ ap (λ (x : List (ℕ × ℕ)). x ++ q) first ∙ append_assoc a p q, omega (arith, lengths, few, less))

pub runs_grow : (signals : Signals) (k n : ℕ) (s t : State) → Reaches WordStep signals k n s t → Grows n s.world.outputs t.world.outputs
runs_grow signals k zero s t same = subst (λ (x : State). Grows 0 s.world.outputs x.world.outputs) same (grows_not s.world.outputs 0)
runs_grow signals k (suc n) s t (u, reached, (i, fetched, is)) =
    let one = subst (GrowsAfter u.world) (sym is) (stepped_few (signals.bio (k + n)) i (begun (signals.lines (k + n)) u) u.world) in
    let more : n + 1 ≡ suc n = omega arith in
    subst (λ (x : ℕ). Grows x s.world.outputs t.world.outputs) more (grows_then s.world.outputs u.world.outputs t.world.outputs n 1 (runs_grow signals k n s u reached) one)
