-- Where an instruction leads: on, to a routine that it calls, or back from one; and the routines that interrupts begin (SPRU014,
-- "Program Counter and Stack", "Interrupts", "Repeat Counter").
use Rattle.std.specs.Prelude.{◌≡◌, ℕ, zero, suc, ◌+◌, ◌%◌, ◌^◌, ◌≤◌, Bool, true, false, Option, None, Some}
use Rattle.c25_meaning_instructions.specs.declared.insn.Insn.{Insn}
use Rattle.c25_meaning_instructions.specs.declared.insn.Insn.TheVariants as insn
use Rattle.c25_meaning_instructions.specs.declared.mnemonic.MemName.TheVariants as mem
use Rattle.c25_meaning_instructions.specs.declared.mnemonic.JumpName.TheVariants as jump
use Rattle.c25_meaning_instructions.specs.declared.mnemonic.PlainName.TheVariants as plain
use Rattle.c25_meaning_instructions.specs.Table.{size_of}
use Rattle.c25_meaning_processor.specs.Step.{has}
use Rattle.c25_meaning_pages.specs.declared.known.Dropped.{Dropped}
use Rattle.c25_meaning_pages.specs.declared.known.Known.{Known}
use Rattle.c25_meaning_pages.specs.declared.known.Saved.{Saved}
use Rattle.c25_meaning_pages.specs.Known.{Knowledge, Implies, LeadsTo}
use Rattle.c25_meaning_pages.specs.KnownAfter.{IsSavedAfter, known_after}

-- ---- calls and returns

-- a return leads back to an address in the caller's context, with what is known where the routine returns and with as many words
-- pushed as the caller had; nothing is asked of a routine that never returns
abbrev pub ReturnsTo : Knowledge → Option Known → (pushed context address : ℕ) → Type 0
ReturnsTo knowledge None pushed context address = Unit {0}
ReturnsTo knowledge (Some known) pushed context address = LeadsTo knowledge (record known { pushed = pushed }) context address

-- where a routine takes its own return from the stack it goes on in the caller's context, with what is known there and with as many
-- words pushed as the caller had; nothing is asked of a routine that never does
abbrev pub DropsTo : Knowledge → Option Dropped → (pushed context : ℕ) → Type 0
DropsTo knowledge None pushed context = Unit {0}
DropsTo knowledge (Some dropped) pushed context = LeadsTo knowledge (record dropped.known { pushed = pushed }) context dropped.next

-- a routine begins at an address, in a context of its own (`suc inner`, so that it is not context 0), with no word pushed. Its stack
-- may hold one word more than that of the context here with the words pushed here, and eight at most, so that none is lost; and its
-- return leads back to an address here
pub record Begins (knowledge : Knowledge) (known : Known) (target context back : ℕ) : Type 0 where
  pub inner : ℕ
  pub leads : LeadsTo knowledge (record known { pushed = 0 }) (suc inner) target
  pub deeper : suc (knowledge.depth context + known.pushed) ≤ knowledge.depth (suc inner)
  pub room : knowledge.depth (suc inner) ≤ 8
  pub returns : ReturnsTo knowledge (knowledge.known_on_return (suc inner)) known.pushed context back
  pub drops : DropsTo knowledge (knowledge.known_on_drop (suc inner)) known.pushed context

-- a routine may return where no word that it pushed is left on the stack, and at least that is known which its context says of its
-- return; the program itself may not
abbrev pub MayReturn : Knowledge → Known → (context : ℕ) → Type 0
MayReturn knowledge known zero = ⊥
MayReturn knowledge known (suc inner) =
    (end : Known) × (knowledge.known_on_return (suc inner) ≡ Some end) × Implies known end × (known.pushed ≡ 0)

-- ---- words on the stack

-- whether an instruction pushes a word onto the stack or takes one from it
abbrev pub moves_word : Insn → Bool
moves_word (insn.Plain plain.Push o) = true
moves_word (insn.Plain plain.Pop o) = true
moves_word (insn.Mem mem.Pshd o) = true
moves_word (insn.Mem mem.Popd o) = true
moves_word i = false

-- a word is pushed, for which the stack of eight has room, and the next instruction is led to
abbrev pub Pushes : Knowledge → Known → (context next : ℕ) → Type 0
Pushes knowledge known context next =
    (suc (knowledge.depth context + known.pushed) ≤ 8) × LeadsTo knowledge (record known { pushed = suc known.pushed }) context next

-- a routine that has no word pushed may take its own return from the stack, where its context says that it does and at least that is
-- known which its context says of it; the program itself may not
abbrev pub MayDrop : Knowledge → Known → (context next : ℕ) → Type 0
MayDrop knowledge known zero next = ⊥
MayDrop knowledge known (suc inner) next =
    (end : Dropped) × (knowledge.known_on_drop (suc inner) ≡ Some end) × (end.next ≡ next) × Implies known end.known

-- a word is taken from the stack: the last one that was pushed, if one is left, or else the routine's own return
abbrev pub Takes : Knowledge → Known → (pushed context next : ℕ) → Type 0
Takes knowledge known zero context next = MayDrop knowledge known context next
Takes knowledge known (suc left) context next = LeadsTo knowledge (record known { pushed = left }) context next

-- ---- instructions

-- where the instruction at an address leads once it has acted, with what is known after it and the address of
-- the instruction after it. A conditional branch leads to its target and on. BACC and CALA lead where they
-- are supposed to go. A RET does not go by a word that was pushed
abbrev pub LeadsOn : Knowledge → Insn → Known → (context address next : ℕ) → Type 0
LeadsOn knowledge (insn.Jump jump.B target change ar) known context address next = LeadsTo knowledge known context target
LeadsOn knowledge (insn.Jump jump.Call target change ar) known context address next = Begins knowledge known target context next
LeadsOn knowledge (insn.Jump name target change ar) known context address next =
    LeadsTo knowledge known context target × LeadsTo knowledge known context next
LeadsOn knowledge (insn.Plain plain.Trap o) known context address next = Begins knowledge known 0x1E context next
LeadsOn knowledge (insn.Plain plain.Ret o) known context address next = MayReturn knowledge known context
LeadsOn knowledge (insn.Plain plain.Cala o) known context address next =
    (target : ℕ) → knowledge.may_go address target ≡ true → Begins knowledge known target context next
LeadsOn knowledge (insn.Plain plain.Bacc o) known context address next =
    (target : ℕ) → knowledge.may_go address target ≡ true → LeadsTo knowledge known context target
LeadsOn knowledge (insn.Plain plain.Push o) known context address next = Pushes knowledge known context next
LeadsOn knowledge (insn.Plain plain.Pop o) known context address next = Takes knowledge known known.pushed context next
LeadsOn knowledge (insn.Mem mem.Pshd o) known context address next = Pushes knowledge known context next
LeadsOn knowledge (insn.Mem mem.Popd o) known context address next = Takes knowledge known known.pushed context next
LeadsOn knowledge i known context address next = LeadsTo knowledge known context next

-- the instruction at an address acts once and leads on; what is known after it includes an ST0 that is then saved, if one is known
abbrev pub Acts : Knowledge → Insn → Known → (context address : ℕ) → Type 0
Acts knowledge i known context address =
    (saved : Option Saved) × IsSavedAfter knowledge address i known saved
    × LeadsOn knowledge i (record (known_after i known) { saved = saved }) context address ((address + size_of i) % 2 ^ 16)

-- where a repeat may be running, what is known before an instruction is known again before its next repetition, and no word is pushed
-- or taken
abbrev pub Repeats : Knowledge → Insn → Known → (address : ℕ) → Type 0
Repeats knowledge i known address =
    known.once ≡ false
    → (saved : Option Saved) × IsSavedAfter knowledge address i known saved
    × Implies (record (known_after i known) { saved = saved; once = false }) known
    × (moves_word i ≡ false)

-- ---- interrupts

-- what is known where the routine of an interrupt begins: INTM is 1 and no repeat is running; not, that EINT was the last
-- instruction, nor that the processor is asleep; all else as it was known before
abbrev pub known_on_entry : Known → Known
known_on_entry known = record known { masked = true; shadowed = false; once = true; asleep = false }

-- an interrupt line, where IMR lets it through, begins a routine at its vector, whose return leads back to the address where the
-- interrupt is taken
abbrev pub Interrupts : Knowledge → Known → (line vector context address : ℕ) → Type 0
Interrupts knowledge known line vector context address =
    has knowledge.lines line ≡ true → Begins knowledge (known_on_entry known) vector context address
