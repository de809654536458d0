-- What instructions write to data memory: a saved ST0 stays where its word is not written.
use Rattle.std.proofs.Common.{◌≡◌, ℕ, ◌+◌, ◌%◌, ◌^◌, Bool, true, false, not, ◌&&◌, if◌then◌else◌, Option, None, Some, Ok, Err, refl, sym, ap, arith}
use Rattle.std.specs.Prelude.{slice_get}
use Rattle.c25_meaning_instructions.specs.declared.insn.Addr.{Addr}
use Rattle.c25_meaning_instructions.specs.declared.insn.Insn.{Insn}
use Rattle.c25_meaning_instructions.specs.declared.insn.Insn.TheVariants as insn
use Rattle.c25_meaning_instructions.specs.declared.mnemonic.ShiftedName.{ShiftedName}
use Rattle.c25_meaning_instructions.specs.declared.mnemonic.ShiftedName.TheVariants as shifted
use Rattle.c25_meaning_instructions.specs.declared.mnemonic.ArMemName.{ArMemName}
use Rattle.c25_meaning_instructions.specs.declared.mnemonic.ArMemName.TheVariants as ar_mem
use Rattle.c25_meaning_instructions.specs.declared.mnemonic.PortName.{PortName}
use Rattle.c25_meaning_instructions.specs.declared.mnemonic.PortName.TheVariants as port
use Rattle.c25_meaning_instructions.specs.declared.mnemonic.MemName.{MemName}
use Rattle.c25_meaning_instructions.specs.declared.mnemonic.MemName.TheVariants as mem
use Rattle.c25_meaning_instructions.specs.declared.mnemonic.LongMemName.{LongMemName}
use Rattle.c25_meaning_instructions.specs.declared.mnemonic.LongMemName.TheVariants as long_mem
use Rattle.c25_meaning_image.specs.Marks.{is_code}
use Rattle.c25_meaning_processor.specs.declared.registers.Registers.{Registers}
use Rattle.c25_meaning_processor.specs.declared.stop.Stop.TheVariants.{CodeWrite}
use Rattle.c25_meaning_processor.specs.State.{World, StepResult, data_at, with_program, in_program_b0, loaded_marks}
use Rattle.c25_meaning_processor.specs.Operand.{address_of}
use Rattle.c25_meaning_processor.specs.Effect.{to, store_program, input, mem_effect, mem_address, mem_operand, shifted_effect, ar_mem_effect, port_effect, long_mem_effect, settle, operand_word, effect}
use Rattle.std.proofs.Common.{◌<◌, eqb}
use Rattle.std.proofs.lemmas.Bool.Decides.{nat_tests}
use Rattle.c25_meaning_processor.specs.State.{with_data, in_b0, b0_word}
use Rattle.c25_meaning_processor.specs.Memory.{put}
use Rattle.c25_meaning_processor.specs.Status.{st0}
use Rattle.c25_meaning_pages.specs.KnownAfter.{written_address}

-- a word is as it was
abbrev pub Same : World → ℕ → StepResult → Type 0
Same w x (Ok s) = s.world.words x ≡ w.words x
Same w x (Err stop) = Unit {0}

not_at : (b : Bool) (x address word old : ℕ) → (x ≡ address → ⊥) → eqb x address ≡ b → (if b then word else old) ≡ old
not_at true x address word old apart e = absurd (apart (grind (arith, nat_tests)))
not_at false x address word old apart e = refl

put_same : (m : ℕ → ℕ) (x address word : ℕ) → (x ≡ address → ⊥) → put m address word x ≡ m x
unfolding put
put_same m x address word apart = not_at (eqb x address) x address word (m x) apart refl

data_same : (cnf : Bool) (w : World) (x address word : ℕ) → (x ≡ address → ⊥) → (with_data cnf w address word).words x ≡ w.words x
unfolding with_data
data_same cnf w x address word apart = go (cnf && in_b0 address)
  where
    go : (b : Bool) → (if b then w else record w { words = put w.words address word }).words x ≡ w.words x
    go true = refl
    go false = put_same w.words x address word apart

program_same : (cnf : Bool) (w : World) (x address word : ℕ) → x < 128 → (with_program cnf w address word).words x ≡ w.words x
unfolding with_program
program_same cnf w x address word small = go (cnf && in_program_b0 address)
  where
    go : (b : Bool) → (if b then record w { words = put w.words (b0_word address) word } else record w { program = put w.program address word }).words x ≡ w.words x
    go true = put_same w.words x (b0_word address) word (λ e. omega (arith, e, small))
    go false = refl

-- an address other than the one that is written
not_some : (x y : ℕ) → (Some y ≡ Some x → ⊥) → x ≡ y → ⊥
not_some x y apart e = apart (ap Some (sym e))

module _ (x : ℕ) (small : x < 128) where
  store_program_same : (address word : ℕ) (r : Registers) (w : World) → Same w x (store_program address word r w)
  store_program_same address word r w = go (is_code (loaded_marks w) address && not (r.cnf && in_program_b0 address))
    where
      go : (b : Bool) → Same w x (if b then Err CodeWrite else to r (with_program r.cnf w address word))
      go true = tt
      go false = program_same r.cnf w x address word small

  mem_same : (name : MemName) (a : Addr) (m n : ℕ) (r : Registers) (w : World) → (written_address (insn.Mem name a) r ≡ Some x → ⊥) → Same w x (mem_effect name m (mem_address name a r) n r w)
  mem_same mem.Ltd a m n r w apart = data_same _ w x _ _ (not_some x _ apart)
  mem_same mem.Dmov a m n r w apart = data_same _ w x _ _ (not_some x _ apart)
  mem_same mem.Tblr a m n r w apart = data_same _ w x _ _ (not_some x _ apart)
  mem_same mem.Popd a m n r w apart = data_same _ w x _ _ (not_some x _ apart)
  mem_same mem.Spl a m n r w apart = data_same _ w x _ _ (not_some x _ apart)
  mem_same mem.Sph a m n r w apart = data_same _ w x _ _ (not_some x _ apart)
  mem_same mem.Sst a m n r w apart = data_same _ w x _ _ (not_some x _ apart)
  mem_same mem.Sst1 a m n r w apart = data_same _ w x _ _ (not_some x _ apart)
  mem_same mem.Tblw a m n r w apart = store_program_same _ _ r w
  mem_same name a m n r w apart = refl

  shifted_same : (name : ShiftedName) (a : Addr) (m s : ℕ) (r : Registers) (w : World) → (written_address (insn.Shifted name a s) r ≡ Some x → ⊥) → Same w x (shifted_effect name m (address_of a r) s r w)
  shifted_same shifted.Sacl a m s r w apart = data_same _ w x _ _ (not_some x _ apart)
  shifted_same shifted.Sach a m s r w apart = data_same _ w x _ _ (not_some x _ apart)
  shifted_same name a m s r w apart = refl

  ar_mem_same : (name : ArMemName) (register : ℕ) (a : Addr) (m : ℕ) (r : Registers) (w : World) → (written_address (insn.ArMem name register a) r ≡ Some x → ⊥) → Same w x (ar_mem_effect name register a m (address_of a r) r w)
  ar_mem_same ar_mem.Lar register a m r w apart = refl
  ar_mem_same ar_mem.Sar register a m r w apart = data_same _ w x _ _ (not_some x _ apart)

  input_same : (sample : Option ℕ) (address number : ℕ) (r : Registers) (w : World) → (x ≡ address → ⊥) → Same w x (input sample address number r w)
  input_same None address number r w apart = tt
  input_same (Some word) address number r w apart = data_same r.cnf _ x address word apart

  port_same : (name : PortName) (a : Addr) (m number : ℕ) (r : Registers) (w : World) → (written_address (insn.Port name a number) r ≡ Some x → ⊥) → Same w x (port_effect name m (address_of a r) number r w)
  port_same port.In a m number r w apart = input_same (slice_get (w.samples number) 0) (address_of a r) number r w (not_some x _ apart)
  port_same port.Out a m number r w apart = refl

  long_mem_same : (name : LongMemName) (word : ℕ) (a : Addr) (at m : ℕ) (r : Registers) (w : World) → (written_address (insn.LongMem name word a) r ≡ Some x → ⊥) → Same w x (long_mem_effect name at m (address_of a r) r w)
  long_mem_same long_mem.Macd word a at m r w apart = data_same _ w x _ _ (not_some x _ apart)
  long_mem_same long_mem.Mac word a at m r w apart = refl
  long_mem_same long_mem.Blkp word a at m r w apart = data_same _ w x _ _ (not_some x _ apart)
  long_mem_same long_mem.Blkd word a at m r w apart = data_same _ w x _ _ (not_some x _ apart)

  settle_same : (w : World) (a : Addr) (arp : ℕ) (o : StepResult) → Same w x o → Same w x (settle a arp o)
  settle_same w a arp (Ok s) h = h
  settle_same w a arp (Err stop) h = tt

  pub effect_same : (i : Insn) (k : ℕ) (bio : Bool) (r : Registers) (w : World) → (written_address i r ≡ Some x → ⊥) → Same w x (effect i k bio r w)
  unfolding effect
  effect_same (insn.Mem name a) k bio r w apart =
      settle_same w (mem_operand name a) r.arp _ (mem_same name a (data_at r.cnf w (mem_address name a r)) k r w apart)
  effect_same (insn.Shifted name a s) k bio r w apart = settle_same w a r.arp _ (shifted_same name a (operand_word a r w) s r w apart)
  effect_same (insn.ArMem name register a) k bio r w apart = ar_mem_same name register a (operand_word a r w) r w apart
  effect_same (insn.Port name a number) k bio r w apart = settle_same w a r.arp _ (port_same name a (operand_word a r w) number r w apart)
  effect_same (insn.LongMem name word a) k bio r w apart =
      settle_same w a r.arp _ (long_mem_same name word a ((word + k) % 2 ^ 16) (operand_word a r w) r w apart)
  effect_same i k bio r w apart = refl

-- ---- a saved ST0

-- DP is the low nine bits of ST0
pub st0_page : (r : Registers) → st0 r % 512 ≡ r.dp % 512
unfolding st0
st0_page r = omega arith

low_outside : (cnf : Bool) (address : ℕ) → address < 128 → (cnf && in_b0 address) ≡ false
low_outside true address small = grind (arith, nat_tests)
low_outside false address small = refl

put_there : (m : ℕ → ℕ) (x word : ℕ) → put m x word x ≡ word
unfolding put
put_there m x word = go (eqb x x) refl
  where
    go : (b : Bool) → eqb x x ≡ b → (if b then word else m x) ≡ word
    go true e = refl
    go false e = absurd (let t : eqb x x ≡ true = grind (arith, nat_tests) in cc)

pub data_there : (cnf : Bool) (w : World) (x word : ℕ) → x < 128 → (with_data cnf w x word).words x ≡ word
unfolding with_data
data_there cnf w x word small = rw (low_outside cnf x small) (put_there w.words x word)

pub low_data : (cnf : Bool) (w : World) (x : ℕ) → x < 128 → data_at cnf w x ≡ w.words x
unfolding data_at
low_data cnf w x small = rw (low_outside cnf x small) refl
