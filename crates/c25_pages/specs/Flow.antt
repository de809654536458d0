-- Where an instruction leads, by its family and its name.
use Rattle.std.specs.Prelude.{◌≡◌, ℕ, true}
use Rattle.c25_meaning_instructions.specs.declared.insn.Insn.{Insn}
use Rattle.c25_meaning_instructions.specs.declared.insn.Insn.TheVariants as insn
use Rattle.c25_meaning_instructions.specs.declared.mnemonic.MemName.TheVariants as mem
use Rattle.c25_meaning_instructions.specs.declared.mnemonic.JumpName.TheVariants as jump
use Rattle.c25_meaning_instructions.specs.declared.mnemonic.PlainName.TheVariants as plain
use Rattle.c25_meaning_pages.specs.declared.known.Known.{Known}
use Rattle.c25_meaning_pages.specs.Known.{Knowledge, LeadsTo}
use Rattle.c25_meaning_pages.specs.Routines.{Begins, MayReturn}
use Rattle.c25_meaning_pages.specs.Routines as routines
use Rattle.c25_pages.specs.declared.flow.Flow.{Flow}
use Rattle.c25_pages.specs.declared.flow.Flow.TheVariants.{On, Goes, Branches, Calls, Returns, GoesByAccumulator, CallsByAccumulator, Pushes, Takes}

-- where an instruction leads
abbrev pub flow_of : Insn → Flow
flow_of (insn.Jump jump.B target change ar) = Goes target
flow_of (insn.Jump jump.Call target change ar) = Calls target
flow_of (insn.Jump name target change ar) = Branches target
flow_of (insn.Plain plain.Trap o) = Calls 0x1E
flow_of (insn.Plain plain.Ret o) = Returns
flow_of (insn.Plain plain.Cala o) = CallsByAccumulator
flow_of (insn.Plain plain.Bacc o) = GoesByAccumulator
flow_of (insn.Plain plain.Push o) = Pushes
flow_of (insn.Plain plain.Pop o) = Takes
flow_of (insn.Mem mem.Pshd o) = Pushes
flow_of (insn.Mem mem.Popd o) = Takes
flow_of i = On

-- what must hold where an instruction leads, as `LeadsOn` says it of the instruction
abbrev pub FlowsOn : Knowledge → Flow → Known → (context address next : ℕ) → Type 0
FlowsOn knowledge On known context address next = LeadsTo knowledge known context next
FlowsOn knowledge (Goes target) known context address next = LeadsTo knowledge known context target
FlowsOn knowledge (Branches target) known context address next = LeadsTo knowledge known context target × LeadsTo knowledge known context next
FlowsOn knowledge (Calls target) known context address next = Begins knowledge known target context next
FlowsOn knowledge Returns known context address next = MayReturn knowledge known context
FlowsOn knowledge GoesByAccumulator known context address next =
    (target : ℕ) → knowledge.may_go address target ≡ true → LeadsTo knowledge known context target
FlowsOn knowledge CallsByAccumulator known context address next =
    (target : ℕ) → knowledge.may_go address target ≡ true → Begins knowledge known target context next
FlowsOn knowledge Pushes known context address next = routines.Pushes knowledge known context next
FlowsOn knowledge Takes known context address next = routines.Takes knowledge known known.pushed context next
