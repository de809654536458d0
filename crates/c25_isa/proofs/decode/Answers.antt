-- Each family finds its own instruction of two words, and no words are two instructions.
use Rattle.std.proofs.Common.{◌≡◌, ℕ, Option, Some, None, ap, refl}
use Rattle.std.specs.Prelude.{IfSome}
use Rattle.c25_meaning_instructions.specs.Table.{Reads}
use Rattle.c25_meaning_instructions.specs.declared.insn.Insn.{Insn}
use Rattle.c25_meaning_instructions.specs.declared.insn.Insn.TheVariants as insn
use Rattle.c25_meaning_instructions.proofs.Readings.{one_reading}
use Rattle.c25_isa.proofs.Options.{none_left}
use Rattle.c25_isa.proofs.decode.Goals as goal

-- two words are no other instruction than the one they are read as
only : (first second : ℕ) (x : Insn) → Reads first second x → (i : Insn) → Reads first second i → Some x ≡ Some i
only first second x found i reads = ap Some (one_reading first second x i found reads)

-- an answer that is not `None` is the instruction of the words
settled : (first second : ℕ) (r : Option Insn) (i : Insn) → IfSome r (Reads first second) → Reads first second i → (r ≡ None → ⊥) → r ≡ Some i
settled first second None i found reads some = absurd (some refl)
settled first second (Some x) i found reads some = only first second x found i reads

pub returns-in-Some-clause-found : goal.returns-in-Some-clause-found
returns-in-Some-clause-found c = c.in-Some.ensures.found c.args.second

pub returns-in-Some-clause-all : goal.returns-in-Some-clause-all
returns-in-Some-clause-all c = only c.args.first c.args.second _ (c.in-Some.ensures.found c.args.second)

pub returns-in-Some-decode-clause-found : goal.returns-in-Some-decode-clause-found
returns-in-Some-decode-clause-found c = c.in-Some-decode.ensures.found c.args.second

pub returns-in-Some-decode-clause-all : goal.returns-in-Some-decode-clause-all
returns-in-Some-decode-clause-all c = only c.args.first c.args.second _ (c.in-Some-decode.ensures.found c.args.second)

pub returns-in-Some-decode-2-clause-found : goal.returns-in-Some-decode-2-clause-found
returns-in-Some-decode-2-clause-found c = c.in-Some-decode-2.ensures.found c.args.second

pub returns-in-Some-decode-2-clause-all : goal.returns-in-Some-decode-2-clause-all
returns-in-Some-decode-2-clause-all c = only c.args.first c.args.second _ (c.in-Some-decode-2.ensures.found c.args.second)

pub returns-in-Some-decode-3-clause-found : goal.returns-in-Some-decode-3-clause-found
returns-in-Some-decode-3-clause-found c = c.in-Some-decode-3.ensures.found c.args.second

pub returns-in-Some-decode-3-clause-all : goal.returns-in-Some-decode-3-clause-all
returns-in-Some-decode-3-clause-all c = only c.args.first c.args.second _ (c.in-Some-decode-3.ensures.found c.args.second)

pub returns-in-Some-decode-4-clause-found : goal.returns-in-Some-decode-4-clause-found
returns-in-Some-decode-4-clause-found c = c.in-Some-decode-4.ensures.found c.args.second

pub returns-in-Some-decode-4-clause-all : goal.returns-in-Some-decode-4-clause-all
returns-in-Some-decode-4-clause-all c = only c.args.first c.args.second _ (c.in-Some-decode-4.ensures.found c.args.second)

pub returns-in-Some-decode-5-clause-found : goal.returns-in-Some-decode-5-clause-found
returns-in-Some-decode-5-clause-found c = c.in-Some-decode-5.ensures.found c.args.second

pub returns-in-Some-decode-5-clause-all : goal.returns-in-Some-decode-5-clause-all
returns-in-Some-decode-5-clause-all c = only c.args.first c.args.second _ (c.in-Some-decode-5.ensures.found c.args.second)

pub returns-in-Some-decode-6-clause-all : goal.returns-in-Some-decode-6-clause-all
returns-in-Some-decode-6-clause-all c = only c.args.first c.args.second _ c.in-Some-decode-6.ensures.found

pub returns-in-Some-decode-7-clause-all : goal.returns-in-Some-decode-7-clause-all
returns-in-Some-decode-7-clause-all c = only c.args.first c.args.second _ c.in-Some-decode-7.ensures.found

pub returns-in-Some-decode-8-clause-all : goal.returns-in-Some-decode-8-clause-all
returns-in-Some-decode-8-clause-all c = only c.args.first c.args.second _ c.in-Some-decode-8.ensures.found

-- where a family answers `None`, none of its instructions has the words
pub returns-clause-all : goal.returns-clause-all
returns-clause-all c = λ i. elim i as (λ i. Reads c.args.first c.args.second i → c.decode-10.result ≡ Some i) [
  | insn.Mem name addr ↦ λ reads. absurd (none_left _ _ c.decode.ensures.none c.in_default.not-Some c.args.second name addr reads)
  | insn.Shifted name addr shift ↦ λ reads. absurd (none_left _ _ c.decode-2.ensures.none c.in_default-decode.not-Some c.args.second name addr shift reads)
  | insn.ArMem name register addr ↦ λ reads. absurd (none_left _ _ c.decode-3.ensures.none c.in_default-decode-2.not-Some c.args.second name register addr reads)
  | insn.Port name addr port ↦ λ reads. absurd (none_left _ _ c.decode-4.ensures.none c.in_default-decode-3.not-Some c.args.second name addr port reads)
  | insn.Bit name addr code ↦ λ reads. absurd (none_left _ _ c.decode-5.ensures.none c.in_default-decode-4.not-Some c.args.second name addr code reads)
  | insn.Short name register number ↦ λ reads. absurd (none_left _ _ c.decode-6.ensures.none c.in_default-decode-5.not-Some c.args.second name register number reads)
  | insn.Long name number high ↦ λ reads. absurd (none_left _ _ c.decode-7.ensures.none c.in_default-decode-6.not-Some name number high reads)
  | insn.LongMem name word addr ↦ λ reads. absurd (none_left _ _ c.decode-8.ensures.none c.in_default-decode-7.not-Some name word addr reads)
  | insn.Jump name word change next ↦ λ reads. absurd (none_left _ _ c.decode-9.ensures.none c.in_default-decode-8.not-Some name word change next reads)
  | insn.Plain name operand ↦ λ reads. settled c.args.first c.args.second c.decode-10.result (insn.Plain name operand) (c.decode-10.ensures.found c.args.second) reads (λ nothing. (rw nothing at c.decode-10.ensures.none) c.args.second name operand reads)
]
