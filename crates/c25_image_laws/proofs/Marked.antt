-- What a step does under other marks: the same, unless one of both would write a word of an instruction.
use Rattle.std.proofs.Common.{◌≡◌, ◌⊎◌, ℕ, ◌+◌, ◌%◌, ◌^◌, Bool, true, false, not, ◌&&◌, if◌then◌else◌, List, Option, None, Some, Ok, Err, refl, ap, ◌∙◌, inl, inr}
use Rattle.std.specs.Prelude.{slice_get}
use Rattle.c25_meaning_image.specs.declared.mark.Mark.{Mark}
use Rattle.c25_meaning_image.specs.declared.mark.RunMark.{RunMark}
use Rattle.c25_meaning_image.specs.Marks.{is_code}
use Rattle.c25_meaning_instructions.specs.declared.insn.Addr.{Addr}
use Rattle.c25_meaning_instructions.specs.declared.insn.Insn.{Insn}
use Rattle.c25_meaning_instructions.specs.declared.insn.Insn.TheVariants as insn
use Rattle.c25_meaning_instructions.specs.declared.mnemonic.ArMemName.{ArMemName}
use Rattle.c25_meaning_instructions.specs.declared.mnemonic.ArMemName.TheVariants as ar_mem
use Rattle.c25_meaning_instructions.specs.declared.mnemonic.LongMemName.{LongMemName}
use Rattle.c25_meaning_instructions.specs.declared.mnemonic.LongMemName.TheVariants as long_mem
use Rattle.c25_meaning_instructions.specs.declared.mnemonic.MemName.{MemName}
use Rattle.c25_meaning_instructions.specs.declared.mnemonic.MemName.TheVariants as mem
use Rattle.c25_meaning_instructions.specs.declared.mnemonic.PortName.{PortName}
use Rattle.c25_meaning_instructions.specs.declared.mnemonic.PortName.TheVariants as port
use Rattle.c25_meaning_instructions.specs.declared.mnemonic.ShiftedName.{ShiftedName}
use Rattle.c25_meaning_instructions.specs.declared.mnemonic.ShiftedName.TheVariants as shifted
use Rattle.c25_meaning_instructions.specs.Table.{size_of}
use Rattle.c25_meaning_processor.specs.declared.registers.Registers.{Registers}
use Rattle.c25_meaning_processor.specs.declared.stop.Stop.TheVariants.{BadRepeat, CodeWrite}
use Rattle.c25_meaning_processor.specs.Effect.{ar_mem_effect, bit_effect, effect, input, long_mem_effect, mem_address, mem_effect, mem_operand, multiplied, operand_word, port_effect, settle, shifted_effect, store, store_program, to}
use Rattle.c25_meaning_processor.specs.Memory.{put}
use Rattle.c25_meaning_processor.specs.Operand.{address_of, after_operand}
use Rattle.c25_meaning_processor.specs.State.{State, World, StepResult, b0_word, data_at, in_b0, in_program_b0, loaded_marks, program_at, with_data, with_program}
use Rattle.c25_meaning_processor.specs.Step.{advanced, executed, is_unrepeatable, stepped}

module _ (ms : List Mark) (rs : List RunMark) where
  -- a world, a state and the result of a step with these marks
  abbrev pub world_marked : World → World
  world_marked w = record w { marks = ms; run_marks = rs }

  abbrev pub marked : State → State
  marked s = record s { world = world_marked s.world }

  abbrev pub outcome_marked : StepResult → StepResult
  outcome_marked (Ok s) = Ok (marked s)
  outcome_marked (Err stop) = Err stop

  -- the same result under both marks, or one stops where it would write a word of an instruction
  abbrev pub Alike : StepResult → StepResult → Type 0
  Alike o p = (p ≡ outcome_marked o) ⊎ ((o ≡ Err CodeWrite) ⊎ (p ≡ Err CodeWrite))

  -- ---- memories

  data_marked : (cnf : Bool) (w : World) (address : ℕ) → data_at cnf (world_marked w) address ≡ data_at cnf w address
  unfolding data_at
  data_marked cnf w address = refl

  pub program_marked : (cnf : Bool) (w : World) (address : ℕ) → program_at cnf (world_marked w) address ≡ program_at cnf w address
  unfolding program_at
  program_marked cnf w address = refl

  stored_marked : (cnf : Bool) (w : World) (address word : ℕ) → with_data cnf (world_marked w) address word ≡ world_marked (with_data cnf w address word)
  unfolding with_data
  stored_marked cnf w address word = go (cnf && in_b0 address)
    where
      go : (b : Bool) → (if b then world_marked w else record (world_marked w) { words = put w.words address word }) ≡ world_marked (if b then w else record w { words = put w.words address word })
      go true = refl
      go false = refl

  programmed_marked : (cnf : Bool) (w : World) (address word : ℕ) → with_program cnf (world_marked w) address word ≡ world_marked (with_program cnf w address word)
  unfolding with_program
  programmed_marked cnf w address word = go (cnf && in_program_b0 address)
    where
      go : (b : Bool)
          → (if b then record (world_marked w) { words = put w.words (b0_word address) word } else record (world_marked w) { program = put w.program address word })
          ≡ world_marked (if b then record w { words = put w.words (b0_word address) word } else record w { program = put w.program address word })
      go true = refl
      go false = refl

  store_marked : (address word : ℕ) (r : Registers) (w : World) → store address word r (world_marked w) ≡ outcome_marked (store address word r w)
  store_marked address word r w = ap (to r) (stored_marked r.cnf w address word)

  store_program_alike : (address word : ℕ) (r : Registers) (w : World) → Alike (store_program address word r w) (store_program address word r (world_marked w))
  store_program_alike address word r w = go (is_code (loaded_marks w) address && not (r.cnf && in_program_b0 address)) (is_code (loaded_marks (world_marked w)) address && not (r.cnf && in_program_b0 address))
    where
      go : (b c : Bool) → Alike (if b then Err CodeWrite else to r (with_program r.cnf w address word)) (if c then Err CodeWrite else to r (with_program r.cnf (world_marked w) address word))
      go true c = inr (inl refl)
      go false true = inr (inr refl)
      go false false = inl (ap (to r) (programmed_marked r.cnf w address word))

  -- ---- instructions, by families

  mem_alike : (name : MemName) (m address k : ℕ) (r : Registers) (w : World) → Alike (mem_effect name m address k r w) (mem_effect name m address k r (world_marked w))
  mem_alike mem.Ltd m address k r w = inl (store_marked _ _ _ w)
  mem_alike mem.Dmov m address k r w = inl (store_marked _ _ _ w)
  mem_alike mem.Tblr m address k r w =
      inl (ap (λ word. store address word r (world_marked w)) (program_marked r.cnf w _) ∙ store_marked address _ r w)
  mem_alike mem.Tblw m address k r w = store_program_alike _ m r w
  mem_alike mem.Sst m address k r w = inl (store_marked _ _ _ w)
  mem_alike mem.Sst1 m address k r w = inl (store_marked _ _ _ w)
  mem_alike mem.Popd m address k r w = inl (store_marked _ _ _ w)
  mem_alike mem.Spl m address k r w = inl (store_marked _ _ _ w)
  mem_alike mem.Sph m address k r w = inl (store_marked _ _ _ w)
  mem_alike name m address k r w = inl refl

  shifted_marked : (name : ShiftedName) (m address s : ℕ) (r : Registers) (w : World) → shifted_effect name m address s r (world_marked w) ≡ outcome_marked (shifted_effect name m address s r w)
  shifted_marked shifted.Sacl m address s r w = store_marked _ _ _ w
  shifted_marked shifted.Sach m address s r w = store_marked _ _ _ w
  shifted_marked name m address s r w = refl

  ar_mem_marked : (name : ArMemName) (register : ℕ) (a : Addr) (m address : ℕ) (r : Registers) (w : World) → ar_mem_effect name register a m address r (world_marked w) ≡ outcome_marked (ar_mem_effect name register a m address r w)
  ar_mem_marked ar_mem.Lar register a m address r w = refl
  ar_mem_marked ar_mem.Sar register a m address r w = store_marked _ _ _ w

  input_marked : (sample : Option ℕ) (address number : ℕ) (r : Registers) (w : World) → input sample address number r (world_marked w) ≡ outcome_marked (input sample address number r w)
  input_marked None address number r w = refl
  input_marked (Some word) address number r w = store_marked address word r _

  port_marked : (name : PortName) (m address number : ℕ) (r : Registers) (w : World) → port_effect name m address number r (world_marked w) ≡ outcome_marked (port_effect name m address number r w)
  port_marked port.In m address number r w = input_marked (slice_get (w.samples number) 0) address number r w
  port_marked port.Out m address number r w = refl

  multiplied_marked : (m at : ℕ) (r : Registers) (w : World) → multiplied m at r (world_marked w) ≡ multiplied m at r w
  unfolding program_at
  multiplied_marked m at r w = refl

  long_mem_marked : (name : LongMemName) (at m address : ℕ) (r : Registers) (w : World) → long_mem_effect name at m address r (world_marked w) ≡ outcome_marked (long_mem_effect name at m address r w)
  long_mem_marked long_mem.Macd at m address r w =
      ap (λ rs. store ((address + 1) % 2 ^ 16) m rs (world_marked w)) (multiplied_marked m at r w) ∙ store_marked ((address + 1) % 2 ^ 16) m (multiplied m at r w) w
  long_mem_marked long_mem.Mac at m address r w = ap (λ rs. to rs (world_marked w)) (multiplied_marked m at r w)
  long_mem_marked long_mem.Blkp at m address r w = ap (λ word. store address word r (world_marked w)) (program_marked r.cnf w at) ∙ store_marked address _ r w
  long_mem_marked long_mem.Blkd at m address r w = ap (λ word. store address word r (world_marked w)) (data_marked r.cnf w at) ∙ store_marked address _ r w

  -- ---- any instruction

  settle_marked : (a : Addr) (arp : ℕ) (outcome : StepResult) → settle a arp (outcome_marked outcome) ≡ outcome_marked (settle a arp outcome)
  settle_marked a arp (Ok s) = refl
  settle_marked a arp (Err stop) = refl

  settle_alike : (a : Addr) (arp : ℕ) (o p : StepResult) → Alike o p → Alike (settle a arp o) (settle a arp p)
  settle_alike a arp o p (inl same) = inl (ap (settle a arp) same ∙ settle_marked a arp o)
  settle_alike a arp o p (inr (inl stops)) = inr (inl (ap (settle a arp) stops))
  settle_alike a arp o p (inr (inr stops)) = inr (inr (ap (settle a arp) stops))

  operand_marked : (a : Addr) (r : Registers) (w : World) → operand_word a r (world_marked w) ≡ operand_word a r w
  operand_marked a r w = data_marked r.cnf w (address_of a r)

  mem_insn_alike : (name : MemName) (a : Addr) (k : ℕ) (r : Registers) (w : World) (m n : ℕ) → n ≡ m
      → Alike (settle (mem_operand name a) r.arp (mem_effect name m (mem_address name a r) k r w)) (settle (mem_operand name a) r.arp (mem_effect name n (mem_address name a r) k r (world_marked w)))
  mem_insn_alike name a k r w m n same = rw same (settle_alike (mem_operand name a) r.arp _ _ (mem_alike name m (mem_address name a r) k r w))

  effect_alike : (i : Insn) (k : ℕ) (bio : Bool) (r : Registers) (w : World) → Alike (effect i k bio r w) (effect i k bio r (world_marked w))
  unfolding effect
  effect_alike (insn.Mem name a) k bio r w = mem_insn_alike name a k r w _ _ (data_marked r.cnf w (mem_address name a r))
  effect_alike (insn.Shifted name a s) k bio r w =
      inl
      (ap (λ m. settle a r.arp (shifted_effect name m (address_of a r) s r (world_marked w))) (operand_marked a r w)
      ∙ ap (settle a r.arp) (shifted_marked name (operand_word a r w) (address_of a r) s r w) ∙ settle_marked a r.arp _)
  effect_alike (insn.ArMem name register a) k bio r w =
      inl
      (ap (λ m. ar_mem_effect name register a m (address_of a r) r (world_marked w)) (operand_marked a r w)
      ∙ ar_mem_marked name register a (operand_word a r w) (address_of a r) r w)
  effect_alike (insn.Port name a number) k bio r w =
      inl
      (ap (λ m. settle a r.arp (port_effect name m (address_of a r) number r (world_marked w))) (operand_marked a r w)
      ∙ ap (settle a r.arp) (port_marked name (operand_word a r w) (address_of a r) number r w) ∙ settle_marked a r.arp _)
  effect_alike (insn.Bit name a code) k bio r w =
      inl (ap (λ m. to (after_operand a r.arp (bit_effect m code r)) (world_marked w)) (operand_marked a r w))
  effect_alike (insn.LongMem name word a) k bio r w =
      let at = (word + k) % 2 ^ 16 in
      inl
      (ap (λ m. settle a r.arp (long_mem_effect name at m (address_of a r) r (world_marked w))) (operand_marked a r w)
      ∙ ap (settle a r.arp) (long_mem_marked name at (operand_word a r w) (address_of a r) r w) ∙ settle_marked a r.arp _)
  effect_alike i k bio r w = inl refl

  executed_alike : (bio : Bool) (i : Option Insn) (r : Registers) (w : World) → Alike (executed bio i r w) (executed bio i r (world_marked w))
  executed_alike bio None r w = inl refl
  executed_alike bio (Some i) r w = go (r.repeating && is_unrepeatable i)
    where
      go : (b : Bool)
          → Alike (if b then Err BadRepeat else effect i r.repeated bio (advanced (size_of i) r) w) (if b then Err BadRepeat else effect i r.repeated bio (advanced (size_of i) r) (world_marked w))
      go true = inl refl
      go false = effect_alike i r.repeated bio (advanced (size_of i) r) w

  pub stepped_alike : (bio : Bool) (i : Option Insn) (r : Registers) (w : World) → Alike (stepped bio i r w) (stepped bio i r (world_marked w))
  unfolding stepped
  stepped_alike bio i r w = go r.asleep
    where
      go : (b : Bool)
          → Alike (if b then Ok (record { registers = r; world = w }) else executed bio i r w) (if b then Ok (record { registers = r; world = world_marked w }) else executed bio i r (world_marked w))
      go true = inl refl
      go false = executed_alike bio i r w
