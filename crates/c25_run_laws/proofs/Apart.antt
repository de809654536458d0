-- What was put out before has no part in a step.
use Rattle.std.proofs.Common.{◌≡◌, ℕ, ◌+◌, ◌%◌, ◌^◌, Bool, true, false, not, ◌&&◌, if◌then◌else◌, List, [], ◌∷◌, Option, None, Some, Ok, Err, refl, ap, ◌∙◌, append_assoc}
use Rattle.std.specs.Prelude.{slice_get}
use Rattle.c25_meaning_instructions.specs.declared.insn.Addr.{Addr}
use Rattle.c25_meaning_instructions.specs.declared.insn.Insn.{Insn}
use Rattle.c25_meaning_instructions.specs.declared.insn.Insn.TheVariants as insn
use Rattle.c25_meaning_instructions.specs.declared.mnemonic.ShiftedName.{ShiftedName}
use Rattle.c25_meaning_instructions.specs.declared.mnemonic.ShiftedName.TheVariants as shifted
use Rattle.c25_meaning_instructions.specs.declared.mnemonic.ArMemName.{ArMemName}
use Rattle.c25_meaning_instructions.specs.declared.mnemonic.ArMemName.TheVariants as ar_mem
use Rattle.c25_meaning_instructions.specs.declared.mnemonic.PortName.{PortName}
use Rattle.c25_meaning_instructions.specs.declared.mnemonic.PortName.TheVariants as port
use Rattle.c25_meaning_instructions.specs.declared.mnemonic.MemName.{MemName}
use Rattle.c25_meaning_instructions.specs.declared.mnemonic.MemName.TheVariants as mem
use Rattle.c25_meaning_instructions.specs.declared.mnemonic.LongMemName.{LongMemName}
use Rattle.c25_meaning_instructions.specs.declared.mnemonic.LongMemName.TheVariants as long_mem
use Rattle.c25_meaning_instructions.specs.Table.{size_of}
use Rattle.c25_meaning_image.specs.Marks.{is_code}
use Rattle.c25_meaning_processor.specs.declared.registers.Registers.{Registers}
use Rattle.c25_meaning_processor.specs.declared.stop.Stop.TheVariants.{BadRepeat, CodeWrite}
use Rattle.c25_meaning_processor.specs.Memory.{put}
use Rattle.c25_meaning_processor.specs.Operand.{address_of, after_operand}
use Rattle.c25_meaning_processor.specs.State.{World, StepResult, b0_word, data_at, in_b0, in_program_b0, loaded_marks, program_at, with_data, with_program}
use Rattle.c25_meaning_processor.specs.Step.{advanced, executed, is_unrepeatable, stepped}
use Rattle.c25_meaning_processor.specs.Effect.{ar_mem_effect, bit_effect, effect, input, long_mem_effect, mem_address, mem_effect, mem_operand, multiplied, operand_word, port_effect, settle, shifted_effect, store, store_program, to}
use Rattle.c25_run_laws.specs.Behind.{behind, world_behind}

-- the same outcome, with these outputs before those of its state
abbrev pub outcome_behind : List (ℕ × ℕ) → StepResult → StepResult
outcome_behind o (Ok s) = Ok (behind o s)
outcome_behind o (Err stop) = Err stop

-- ---- memories

module _ (o : List (ℕ × ℕ)) where
  data_apart : (cnf : Bool) (w : World) (address : ℕ) → data_at cnf (world_behind o w) address ≡ data_at cnf w address
  unfolding data_at
  data_apart cnf w address = refl

  pub program_apart : (cnf : Bool) (w : World) (address : ℕ) → program_at cnf (world_behind o w) address ≡ program_at cnf w address
  unfolding program_at
  program_apart cnf w address = refl

  stored_apart : (cnf : Bool) (w : World) (address word : ℕ) → with_data cnf (world_behind o w) address word ≡ world_behind o (with_data cnf w address word)
  unfolding with_data
  stored_apart cnf w address word = go (cnf && in_b0 address)
    where
      go : (b : Bool) → (if b then world_behind o w else record (world_behind o w) { words = put w.words address word }) ≡ world_behind o (if b then w else record w { words = put w.words address word })
      go true = refl
      go false = refl

  programmed_apart : (cnf : Bool) (w : World) (address word : ℕ) → with_program cnf (world_behind o w) address word ≡ world_behind o (with_program cnf w address word)
  unfolding with_program
  programmed_apart cnf w address word = go (cnf && in_program_b0 address)
    where
      go : (b : Bool)
          → (if b then record (world_behind o w) { words = put w.words (b0_word address) word } else record (world_behind o w) { program = put w.program address word })
          ≡ world_behind o (if b then record w { words = put w.words (b0_word address) word } else record w { program = put w.program address word })
      go true = refl
      go false = refl

  store_apart : (address word : ℕ) (r : Registers) (w : World) → store address word r (world_behind o w) ≡ outcome_behind o (store address word r w)
  store_apart address word r w = ap (to r) (stored_apart r.cnf w address word)

  store_program_apart : (address word : ℕ) (r : Registers) (w : World) → store_program address word r (world_behind o w) ≡ outcome_behind o (store_program address word r w)
  store_program_apart address word r w = go (is_code (loaded_marks w) address && not (r.cnf && in_program_b0 address))
    where
      go : (b : Bool)
          → (if b then Err CodeWrite else to r (with_program r.cnf (world_behind o w) address word))
          ≡ outcome_behind o (if b then Err CodeWrite else to r (with_program r.cnf w address word))
      go true = refl
      go false = ap (to r) (programmed_apart r.cnf w address word)

  -- ---- instructions, by families

  mem_apart : (name : MemName) (m address k : ℕ) (r : Registers) (w : World) → mem_effect name m address k r (world_behind o w) ≡ outcome_behind o (mem_effect name m address k r w)
  mem_apart mem.Ltd m address k r w = store_apart _ _ _ w
  mem_apart mem.Dmov m address k r w = store_apart _ _ _ w
  mem_apart mem.Tblr m address k r w =
      ap (λ word. store address word r (world_behind o w)) (program_apart r.cnf w _) ∙ store_apart address _ r w
  mem_apart mem.Tblw m address k r w = store_program_apart _ m r w
  mem_apart mem.Sst m address k r w = store_apart _ _ _ w
  mem_apart mem.Sst1 m address k r w = store_apart _ _ _ w
  mem_apart mem.Popd m address k r w = store_apart _ _ _ w
  mem_apart mem.Spl m address k r w = store_apart _ _ _ w
  mem_apart mem.Sph m address k r w = store_apart _ _ _ w
  mem_apart name m address k r w = refl

  shifted_apart : (name : ShiftedName) (m address s : ℕ) (r : Registers) (w : World) → shifted_effect name m address s r (world_behind o w) ≡ outcome_behind o (shifted_effect name m address s r w)
  shifted_apart shifted.Sacl m address s r w = store_apart _ _ _ w
  shifted_apart shifted.Sach m address s r w = store_apart _ _ _ w
  shifted_apart name m address s r w = refl

  ar_mem_apart : (name : ArMemName) (register : ℕ) (a : Addr) (m address : ℕ) (r : Registers) (w : World) → ar_mem_effect name register a m address r (world_behind o w) ≡ outcome_behind o (ar_mem_effect name register a m address r w)
  ar_mem_apart ar_mem.Lar register a m address r w = refl
  ar_mem_apart ar_mem.Sar register a m address r w = store_apart _ _ _ w

  input_apart : (sample : Option ℕ) (address number : ℕ) (r : Registers) (w : World) → input sample address number r (world_behind o w) ≡ outcome_behind o (input sample address number r w)
  input_apart None address number r w = refl
  input_apart (Some word) address number r w = store_apart address word r _

  port_apart : (name : PortName) (m address number : ℕ) (r : Registers) (w : World) → port_effect name m address number r (world_behind o w) ≡ outcome_behind o (port_effect name m address number r w)
  port_apart port.In m address number r w = input_apart (slice_get (w.samples number) 0) address number r w
  port_apart port.Out m address number r w =
      ap (λ (all : List (ℕ × ℕ)). to r (record w { outputs = all })) (append_assoc o w.outputs ((number, m) ∷ []))

  multiplied_apart : (m at : ℕ) (r : Registers) (w : World) → multiplied m at r (world_behind o w) ≡ multiplied m at r w
  unfolding program_at
  multiplied_apart m at r w = refl

  long_mem_apart : (name : LongMemName) (at m address : ℕ) (r : Registers) (w : World) → long_mem_effect name at m address r (world_behind o w) ≡ outcome_behind o (long_mem_effect name at m address r w)
  long_mem_apart long_mem.Macd at m address r w =
      ap (λ rs. store ((address + 1) % 2 ^ 16) m rs (world_behind o w)) (multiplied_apart m at r w) ∙ store_apart ((address + 1) % 2 ^ 16) m (multiplied m at r w) w
  long_mem_apart long_mem.Mac at m address r w = ap (λ rs. to rs (world_behind o w)) (multiplied_apart m at r w)
  long_mem_apart long_mem.Blkp at m address r w = ap (λ word. store address word r (world_behind o w)) (program_apart r.cnf w at) ∙ store_apart address _ r w
  long_mem_apart long_mem.Blkd at m address r w = ap (λ word. store address word r (world_behind o w)) (data_apart r.cnf w at) ∙ store_apart address _ r w

  -- ---- any instruction

  settle_apart : (a : Addr) (arp : ℕ) (outcome : StepResult) → settle a arp (outcome_behind o outcome) ≡ outcome_behind o (settle a arp outcome)
  settle_apart a arp (Ok s) = refl
  settle_apart a arp (Err stop) = refl

  operand_apart : (a : Addr) (r : Registers) (w : World) → operand_word a r (world_behind o w) ≡ operand_word a r w
  operand_apart a r w = data_apart r.cnf w (address_of a r)

  effect_apart : (i : Insn) (k : ℕ) (bio : Bool) (r : Registers) (w : World) → effect i k bio r (world_behind o w) ≡ outcome_behind o (effect i k bio r w)
  unfolding effect
  effect_apart (insn.Mem name a) k bio r w =
      let b = mem_operand name a in
      let at = mem_address name a r in
      ap (λ m. settle b r.arp (mem_effect name m at k r (world_behind o w))) (data_apart r.cnf w at)
      ∙ ap (settle b r.arp) (mem_apart name (data_at r.cnf w at) at k r w) ∙ settle_apart b r.arp _
  effect_apart (insn.Shifted name a s) k bio r w =
      ap (λ m. settle a r.arp (shifted_effect name m (address_of a r) s r (world_behind o w))) (operand_apart a r w)
      ∙ ap (settle a r.arp) (shifted_apart name (operand_word a r w) (address_of a r) s r w) ∙ settle_apart a r.arp _
  effect_apart (insn.ArMem name register a) k bio r w =
      ap (λ m. ar_mem_effect name register a m (address_of a r) r (world_behind o w)) (operand_apart a r w)
      ∙ ar_mem_apart name register a (operand_word a r w) (address_of a r) r w
  effect_apart (insn.Port name a number) k bio r w =
      ap (λ m. settle a r.arp (port_effect name m (address_of a r) number r (world_behind o w))) (operand_apart a r w)
      ∙ ap (settle a r.arp) (port_apart name (operand_word a r w) (address_of a r) number r w) ∙ settle_apart a r.arp _
  effect_apart (insn.Bit name a code) k bio r w =
      ap (λ m. to (after_operand a r.arp (bit_effect m code r)) (world_behind o w)) (operand_apart a r w)
  effect_apart (insn.LongMem name word a) k bio r w =
      let at = (word + k) % 2 ^ 16 in
      ap (λ m. settle a r.arp (long_mem_effect name at m (address_of a r) r (world_behind o w))) (operand_apart a r w)
      ∙ ap (settle a r.arp) (long_mem_apart name at (operand_word a r w) (address_of a r) r w) ∙ settle_apart a r.arp _
  effect_apart i k bio r w = refl

  executed_apart : (bio : Bool) (i : Option Insn) (r : Registers) (w : World) → executed bio i r (world_behind o w) ≡ outcome_behind o (executed bio i r w)
  executed_apart bio None r w = refl
  executed_apart bio (Some i) r w = go (r.repeating && is_unrepeatable i)
    where
      go : (b : Bool)
          → (if b then Err BadRepeat else effect i r.repeated bio (advanced (size_of i) r) (world_behind o w))
          ≡ outcome_behind o (if b then Err BadRepeat else effect i r.repeated bio (advanced (size_of i) r) w)
      go true = refl
      go false = effect_apart i r.repeated bio (advanced (size_of i) r) w

  pub stepped_apart : (bio : Bool) (i : Option Insn) (r : Registers) (w : World) → stepped bio i r (world_behind o w) ≡ outcome_behind o (stepped bio i r w)
  unfolding stepped
  stepped_apart bio i r w = go r.asleep
    where
      go : (b : Bool)
          → (if b then Ok (record { registers = r; world = world_behind o w }) else executed bio i r (world_behind o w))
          ≡ outcome_behind o (if b then Ok (record { registers = r; world = w }) else executed bio i r w)
      go true = refl
      go false = executed_apart bio i r w
