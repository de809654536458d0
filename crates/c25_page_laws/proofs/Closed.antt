-- A run as supposed stops only at a write to code or at an IN without a sample.
use Rattle.std.proofs.Common.{◌≡◌, ℕ, ◌+◌, ◌≤◌, ◌⊎◌, Bool, true, false, not, ◌&&◌, if◌then◌else◌, Option, None, Some, Ok, Err, refl, sym, ap, subst, arith, inl, inr}
use Rattle.std.specs.Prelude.{slice_get}
use Rattle.std.specs.Option.{option_and_then}
use Rattle.c25_meaning_instructions.specs.declared.insn.Addr.{Addr}
use Rattle.c25_meaning_instructions.specs.declared.insn.Insn.{Insn}
use Rattle.c25_meaning_instructions.specs.declared.insn.Insn.TheVariants as insn
use Rattle.c25_meaning_instructions.specs.declared.mnemonic.ShiftedName.{ShiftedName}
use Rattle.c25_meaning_instructions.specs.declared.mnemonic.ShiftedName.TheVariants as shifted
use Rattle.c25_meaning_instructions.specs.declared.mnemonic.ArMemName.{ArMemName}
use Rattle.c25_meaning_instructions.specs.declared.mnemonic.ArMemName.TheVariants as ar_mem
use Rattle.c25_meaning_instructions.specs.declared.mnemonic.PortName.{PortName}
use Rattle.c25_meaning_instructions.specs.declared.mnemonic.PortName.TheVariants as port
use Rattle.c25_meaning_instructions.specs.declared.mnemonic.MemName.{MemName}
use Rattle.c25_meaning_instructions.specs.declared.mnemonic.MemName.TheVariants as mem
use Rattle.c25_meaning_instructions.specs.declared.mnemonic.LongMemName.{LongMemName}
use Rattle.c25_meaning_instructions.specs.declared.mnemonic.LongMemName.TheVariants as long_mem
use Rattle.c25_meaning_instructions.specs.Table.{size_of}
use Rattle.c25_meaning_image.specs.Marks.{is_code}
use Rattle.c25_meaning_processor.specs.declared.registers.Registers.{Registers}
use Rattle.c25_meaning_processor.specs.declared.lines.Lines.{Lines}
use Rattle.c25_meaning_processor.specs.declared.stop.Stop.TheVariants.{CodeWrite, BadRepeat}
use Rattle.c25_meaning_processor.specs.State.{World, State, StepResult, data_at, with_program, in_program_b0, loaded_marks, under}
use Rattle.c25_meaning_processor.specs.Operand.{address_of}
use Rattle.c25_meaning_processor.specs.Effect.{to, store_program, input, mem_effect, mem_address, mem_operand, shifted_effect, ar_mem_effect, port_effect, long_mem_effect, settle, operand_word, effect}
use Rattle.c25_meaning_processor.specs.Step.{advanced, begun, clear_of_b0, executed, is_unrepeatable, stepped}
use Rattle.c25_meaning_processor.specs.Statements.{Statements, Copied, copied_at, outside_b0, standing, standing_by, statement_at, statement_step}
use Rattle.c25_meaning_processor.specs.Reset.{reset}
use Rattle.c25_meaning_processor.specs.Run.{Signals, Reaches}
use Rattle.c25_meaning_processor.specs.declared.stop.Stop.{Stop}
use Rattle.c25_meaning_processor.specs.declared.stop.Stop.TheVariants.{PortDry}
use Rattle.c25_page_laws.proofs.Left.{and_true, awake}
use Rattle.c25_page_laws.proofs.Stack.{Fits}
use Rattle.c25_page_laws.proofs.Interrupted.{begun_fits}
use Rattle.c25_page_laws.proofs.Sure.{run_from_reset}
use Rattle.std.proofs.lemmas.Bool.Decides.{nat_tests}
use Rattle.c25_meaning_pages.specs.Inductive.{IsInductive, IsClosed}
use Rattle.c25_meaning_pages.specs.Known.{Knowledge}
use Rattle.c25_meaning_pages.specs.Supposed.{LetsNoOther, StepAsSupposed}

-- a stop is a write to code or an IN without a sample
abbrev Other : Stop → Type 0
Other stop = (stop ≡ CodeWrite) ⊎ (stop ≡ PortDry)

abbrev StopsSo : StepResult → Type 0
StopsSo (Ok s) = Unit {0}
StopsSo (Err stop) = Other stop

store_program_stops : (address word : ℕ) (r : Registers) (w : World) → StopsSo (store_program address word r w)
store_program_stops address word r w = go (is_code (loaded_marks w) address && not (r.cnf && in_program_b0 address))
  where
    go : (b : Bool) → StopsSo (if b then Err CodeWrite else to r (with_program r.cnf w address word))
    go true = inl refl
    go false = tt

mem_stops : (name : MemName) (m address n : ℕ) (r : Registers) (w : World) → StopsSo (mem_effect name m address n r w)
mem_stops mem.Tblw m address n r w = store_program_stops _ _ r w
mem_stops name m address n r w = tt

shifted_stops : (name : ShiftedName) (m address s : ℕ) (r : Registers) (w : World) → StopsSo (shifted_effect name m address s r w)
shifted_stops shifted.Add m address s r w = tt
shifted_stops name m address s r w = tt

ar_mem_stops : (name : ArMemName) (register : ℕ) (a : Addr) (m address : ℕ) (r : Registers) (w : World) → StopsSo (ar_mem_effect name register a m address r w)
ar_mem_stops ar_mem.Lar register a m address r w = tt
ar_mem_stops ar_mem.Sar register a m address r w = tt

input_stops : (sample : Option ℕ) (address number : ℕ) (r : Registers) (w : World) → StopsSo (input sample address number r w)
input_stops None address number r w = inr refl
input_stops (Some word) address number r w = tt

port_stops : (name : PortName) (m address number : ℕ) (r : Registers) (w : World) → StopsSo (port_effect name m address number r w)
port_stops port.In m address number r w = input_stops (slice_get (w.samples number) 0) address number r w
port_stops port.Out m address number r w = tt

long_mem_stops : (name : LongMemName) (at m address : ℕ) (r : Registers) (w : World) → StopsSo (long_mem_effect name at m address r w)
long_mem_stops long_mem.Mac at m address r w = tt
long_mem_stops name at m address r w = tt

settle_stops : (a : Addr) (arp : ℕ) (o : StepResult) → StopsSo o → StopsSo (settle a arp o)
settle_stops a arp (Ok s) h = h
settle_stops a arp (Err stop) h = h

effect_stops : (i : Insn) (k : ℕ) (bio : Bool) (r : Registers) (w : World) → StopsSo (effect i k bio r w)
unfolding effect
effect_stops (insn.Mem name a) k bio r w =
    settle_stops (mem_operand name a) r.arp _ (mem_stops name (data_at r.cnf w (mem_address name a r)) (mem_address name a r) k r w)
effect_stops (insn.Shifted name a s) k bio r w = settle_stops a r.arp _ (shifted_stops name (operand_word a r w) (address_of a r) s r w)
effect_stops (insn.ArMem name register a) k bio r w = ar_mem_stops name register a (operand_word a r w) (address_of a r) r w
effect_stops (insn.Port name a number) k bio r w = settle_stops a r.arp _ (port_stops name (operand_word a r w) (address_of a r) number r w)
effect_stops (insn.LongMem name word a) k bio r w =
    settle_stops a r.arp _ (long_mem_stops name _ (operand_word a r w) (address_of a r) r w)
effect_stops i k bio r w = tt

module _ (ss : Statements) (a : Knowledge) (inductive : IsInductive ss a) (closed : IsClosed ss a) where
  -- outside block B0 no instruction of this size lies in it
  clear : (cnf : Bool) (address size : ℕ) → address + size ≤ 0xFF00 → clear_of_b0 cnf address size ≡ true
  clear true address size h = grind (arith, nat_tests)
  clear false address size h = refl

  standing_there : (cnf : Bool) (w : World) (pc : ℕ) (i : Insn) → statement_at ss.plain pc ≡ Some i → copied_at ss.copied pc ≡ None → pc + size_of i ≤ 0xFF00 → standing ss cnf w pc ≡ Some i
  standing_there cnf w pc i at none room =
      subst (λ (o : Option Copied). standing_by ss cnf w pc (option_and_then (under cnf) o) ≡ Some i) (sym none)
      (subst (λ (o : Option Insn). option_and_then (outside_b0 cnf pc) o ≡ Some i) (sym at)
      (ap (λ (b : Bool). if b then Some i else None) (clear cnf pc (size_of i) room)))

  executed_stops : (bio : Bool) (i : Insn) (r : Registers) (w : World) → (is_unrepeatable i ≡ true → r.repeating ≡ false) → StopsSo (executed bio (Some i) r w)
  executed_stops bio i r w once = go (r.repeating && is_unrepeatable i) refl
    where
      go : (b : Bool) → (r.repeating && is_unrepeatable i) ≡ b → StopsSo (if b then Err BadRepeat else effect i r.repeated bio (advanced (size_of i) r) w)
      go true e =
          let p = and_true r.repeating (is_unrepeatable i) e in
          absurd (let f : r.repeating ≡ false = once p.1 in let t : r.repeating ≡ true = p.0 in cc)
      go false e = effect_stops i r.repeated bio (advanced (size_of i) r) w

  stepped_stops : (bio : Bool) (i : Insn) (r : Registers) (w : World) → (is_unrepeatable i ≡ true → r.repeating ≡ false) → StopsSo (stepped bio (Some i) r w)
  unfolding stepped
  stepped_stops bio i r w once = go r.asleep
    where
      go : (b : Bool) → StopsSo (if b then Ok (record { registers = r; world = w }) else executed bio (Some i) r w)
      go true = tt
      go false = executed_stops bio i r w once

  asleep_stops : (bio : Bool) (i : Option Insn) (r : Registers) (w : World) → r.asleep ≡ true → StopsSo (stepped bio i r w)
  unfolding stepped
  asleep_stops bio i r w is = subst (λ (b : Bool). StopsSo (if b then Ok (record { registers = r; world = w }) else executed bio i r w)) (sym is) tt

  step_stops : (lines : Lines) (bio : Bool) (t : State) → Fits a (begun lines t) t.world → StopsSo (statement_step ss lines bio t)
  step_stops lines bio t f = go (begun lines t).asleep refl
    where
      go : (b : Bool) → (begun lines t).asleep ≡ b → StopsSo (statement_step ss lines bio t)
      go true is = asleep_stops bio (standing ss (begun lines t).cnf t.world (begun lines t).pc) (begun lines t) t.world is
      go false is =
          let r = begun lines t in
          let up = awake f.known r f.holds is in
          let there = closed.stands f.context r.pc f.known f.here up in
          subst (λ (o : Option Insn). StopsSo (stepped bio o r t.world)) (sym (standing_there r.cnf t.world r.pc there.0 there.1 there.2 there.3))
          (stepped_stops bio there.0 r t.world (λ u. f.holds.once (closed.once f.context r.pc f.known there.0 f.here up there.1 u)))

pub never_left : (ss : Statements) (a : Knowledge) → IsInductive ss a → IsClosed ss a → (signals : Signals) (k n : ℕ) (s t : State) (lines : Lines) (bio : Bool) (stop : Stop) → s.registers ≡ reset → Reaches (StepAsSupposed ss a) signals k n s t → LetsNoOther a (t.world.words 4) → statement_step ss lines bio t ≡ Err stop → Other stop
never_left ss a inductive closed signals k n s t lines bio stop from reached lets is =
    subst StopsSo is (step_stops ss a inductive closed lines bio t (begun_fits ss a inductive lines t lets (run_from_reset ss a inductive signals k n s t from reached)))
