-- What a flow asks is what its instruction asks.
use Rattle.std.proofs.Common.{◌≡◌, ℕ, zero, suc, ◌+◌, ◌%◌, ◌^◌, ◌≤◌, ◌<◌, Option, Some, refl, sym, subst, arith}
use Rattle.c25_meaning_instructions.specs.declared.insn.Insn.{Insn}
use Rattle.c25_meaning_instructions.specs.declared.insn.Insn.TheVariants as insn
use Rattle.c25_meaning_instructions.specs.declared.mnemonic.MemName.TheVariants as mem
use Rattle.c25_meaning_instructions.specs.declared.mnemonic.JumpName.TheVariants as jump
use Rattle.c25_meaning_instructions.specs.declared.mnemonic.PlainName.TheVariants as plain
use Rattle.c25_meaning_instructions.specs.Table.{size_of}
use Rattle.c25_meaning_pages.specs.declared.known.Dropped.{Dropped}
use Rattle.c25_meaning_pages.specs.declared.known.Known.{Known}
use Rattle.c25_meaning_pages.specs.declared.known.Saved.{Saved}
use Rattle.c25_meaning_pages.specs.KnownAfter.{known_after}
use Rattle.c25_meaning_pages.specs.Known.{Knowledge, Implies, LeadsTo}
use Rattle.c25_meaning_pages.specs.Routines.{Begins, LeadsOn, MayDrop, MayReturn, Takes}
use Rattle.c25_pages.specs.Clauses.{BeginsIn}
use Rattle.c25_pages.specs.Flow.{FlowsOn, flow_of}
use Rattle.c25_pages.specs.declared.flow.Flow.{Flow}
use Rattle.c25_pages.specs.declared.leads.Call.{Call}

pub leads_on_as : (knowledge : Knowledge) (i : Insn) (known : Known) (context address next : ℕ) → FlowsOn knowledge (flow_of i) known context address next → LeadsOn knowledge i known context address next
leads_on_as knowledge (insn.Jump jump.B target change ar) known context address next h = h
leads_on_as knowledge (insn.Jump jump.Call target change ar) known context address next h = h
leads_on_as knowledge (insn.Jump name target change ar) known context address next h = h
leads_on_as knowledge (insn.Plain plain.Trap o) known context address next h = h
leads_on_as knowledge (insn.Plain name o) known context address next h = h
leads_on_as knowledge (insn.Mem mem.Pshd o) known context address next h = h
leads_on_as knowledge (insn.Mem name o) known context address next h = h
leads_on_as knowledge i known context address next h = h

-- a routine that begins in one context begins in some context
pub begins_there : (knowledge : Knowledge) (known : Known) (call : Call) (callee inner : ℕ) → callee ≡ suc inner → BeginsIn knowledge known call callee → Begins knowledge known call.target call.context call.back
begins_there knowledge known call callee inner is b =
    let c : BeginsIn knowledge known call (suc inner) = subst (λ n. BeginsIn knowledge known call n) is b in
    record { inner = inner; leads = c.leads; deeper = c.deeper; room = c.room; returns = c.returns; drops = c.drops }

pub begins_above : (knowledge : Knowledge) (known : Known) (call : Call) (callee : ℕ) → 1 ≤ callee → BeginsIn knowledge known call callee → Begins knowledge known call.target call.context call.back
begins_above knowledge known call zero le b = absurd (omega arith)
begins_above knowledge known call (suc inner) le b = begins_there knowledge known call (suc inner) inner refl b

pub may_return_from : (knowledge : Knowledge) (known end : Known) (context : ℕ) → 0 < context → knowledge.known_on_return context ≡ Some end → Implies known end → known.pushed ≡ 0 → MayReturn knowledge known context
may_return_from knowledge known end zero lt is implied none = absurd (omega arith)
may_return_from knowledge known end (suc inner) lt is implied none = (end, is, implied, none)

pub may_drop_from : (knowledge : Knowledge) (known : Known) (end : Dropped) (context next : ℕ) → 0 < context → knowledge.known_on_drop context ≡ Some end → end.next ≡ next → Implies known end.known → MayDrop knowledge known context next
may_drop_from knowledge known end zero next lt is at implied = absurd (omega arith)
may_drop_from knowledge known end (suc inner) next lt is at implied = (end, is, at, implied)

-- a word that was pushed is taken, or the routine's own return
pub takes_own : (knowledge : Knowledge) (known : Known) (pushed context next : ℕ) → pushed ≡ 0 → MayDrop knowledge known context next → Takes knowledge known pushed context next
takes_own knowledge known pushed context next is drops = subst (λ (n : ℕ). Takes knowledge known n context next) (sym is) drops

pub takes_pushed : (knowledge : Knowledge) (known : Known) (pushed left context next : ℕ) → suc left ≡ pushed → LeadsTo knowledge (record known { pushed = left }) context next → Takes knowledge known pushed context next
takes_pushed knowledge known pushed left context next is leads = subst (λ (n : ℕ). Takes knowledge known n context next) is leads

-- where an instruction leads with an ST0 that is then saved
pub leads_with : (knowledge : Knowledge) (i : Insn) (f : Flow) (known after : Known) (saved : Option Saved) (context address next : ℕ) → f ≡ flow_of i → after ≡ known_after i known → next ≡ (address + size_of i) % 2 ^ 16
    → FlowsOn knowledge f (record after { saved = saved }) context address next → LeadsOn knowledge i (record (known_after i known) { saved = saved }) context address ((address + size_of i) % 2 ^ 16)
leads_with knowledge i f known after saved context address next by later on flows =
    let at : FlowsOn knowledge (flow_of i) (record after { saved = saved }) context address next = subst (λ (g : Flow). FlowsOn knowledge g (record after { saved = saved }) context address next) by flows in
    let there : FlowsOn knowledge (flow_of i) (record after { saved = saved }) context address ((address + size_of i) % 2 ^ 16) =
    subst (λ (n : ℕ). FlowsOn knowledge (flow_of i) (record after { saved = saved }) context address n) on at in
    leads_on_as knowledge i (record (known_after i known) { saved = saved }) context address ((address + size_of i) % 2 ^ 16)
    (subst (λ (k : Known). FlowsOn knowledge (flow_of i) (record k { saved = saved }) context address ((address + size_of i) % 2 ^ 16)) later there)
