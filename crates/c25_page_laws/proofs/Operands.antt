-- Direct operands are on the page of DP.
use Rattle.std.proofs.Common.{◌≡◌, ℕ, ◌+◌, ◌*◌, ◌/◌, ◌%◌, ◌^◌, ◌-◌, ◌&&◌, Bool, true, false, if◌then◌else◌, Some, refl, ap, ◌∙◌, arith, pos}
use Rattle.std.specs.Prelude.{nat_lt}
use Rattle.c25_meaning_common.specs.Fields.{field_number}
use Rattle.c25_meaning_common.specs.declared.relocation.RelocationKind.TheVariants.{Low7}
use Rattle.c25_meaning_instructions.specs.declared.insn.Addr.TheVariants.{Direct, Indirect}
use Rattle.c25_meaning_instructions.specs.declared.insn.Insn.{Insn}
use Rattle.c25_meaning_instructions.specs.declared.insn.Insn.TheVariants as insn
use Rattle.c25_meaning_instructions.specs.declared.mnemonic.MemName.TheVariants as mem
use Rattle.c25_meaning_instructions.specs.Table.{size_of}
use Rattle.c25_meaning_processor.specs.declared.registers.Registers.{Registers}
use Rattle.c25_meaning_processor.specs.declared.lines.Lines.{Lines}
use Rattle.c25_meaning_processor.specs.State.{State}
use Rattle.c25_meaning_processor.specs.Operand.{address_of}
use Rattle.c25_meaning_processor.specs.Step.{advanced, begun}
use Rattle.c25_meaning_processor.specs.Reset.{reset}
use Rattle.c25_meaning_processor.specs.Run.{Signals, Reaches}
use Rattle.c25_meaning_processor.specs.Statements.{Statements, IsImageOf}
use Rattle.c25_meaning_processor.specs.WordStep.{WordStep}
use Rattle.c25_meaning_pages.specs.Inductive.{IsInductive, IsSurelyOn}
use Rattle.c25_meaning_pages.specs.Known.{Knowledge}
use Rattle.c25_meaning_pages.specs.Operands.{direct_of, operand_address}
use Rattle.c25_meaning_pages.specs.Supposed.{AreSupposed, LetsNoOther, StepAsSupposed}
use Rattle.c25_page_laws.proofs.Sure.{sure}
use Rattle.c25_page_laws.proofs.Runs.{words_are_sure}

-- a direct operand of these seven bits is at this address of the page of DP
on_its_page : (low number : ℕ) (r : Registers) → Some low ≡ Some number → Some (address_of (Direct low) r) ≡ Some (r.dp * 128 + number % 128)
on_its_page low number r e = let same : low ≡ number = cc in rw same refl

direct_address : (i : Insn) (number : ℕ) (r : Registers) → direct_of i ≡ Some number → operand_address i r ≡ Some (r.dp * 128 + number % 128)
direct_address (insn.Mem mem.Sst a) number r e = absurd (cc)
direct_address (insn.Mem mem.Sst1 a) number r e = absurd (cc)
direct_address (insn.Mem name (Direct low)) number r e = on_its_page low number r e
direct_address (insn.Mem name (Indirect change next)) number r e = absurd (cc)
direct_address (insn.Shifted name (Direct low) s) number r e = on_its_page low number r e
direct_address (insn.Shifted name (Indirect change next) s) number r e = absurd (cc)
direct_address (insn.ArMem name register (Direct low)) number r e = on_its_page low number r e
direct_address (insn.ArMem name register (Indirect change next)) number r e = absurd (cc)
direct_address (insn.Port name (Direct low) port) number r e = on_its_page low number r e
direct_address (insn.Port name (Indirect change next) port) number r e = absurd (cc)
direct_address (insn.Bit name (Direct low) code) number r e = on_its_page low number r e
direct_address (insn.Bit name (Indirect change next) code) number r e = absurd (cc)
direct_address (insn.LongMem name word (Direct low)) number r e = on_its_page low number r e
direct_address (insn.LongMem name word (Indirect change next)) number r e = absurd (cc)
direct_address i number r e = absurd (cc)

-- an instruction leaves DP until it acts
same_page : (size : ℕ) (r : Registers) → (advanced size r).dp ≡ r.dp
same_page size r = go (r.repeating && nat_lt 0 r.rptc)
  where
    go : (b : Bool) → (if b then record r { rptc = r.rptc - 1; repeated = (r.repeated + 1) % 2 ^ 16; shadowed = false } else record r { pc = (r.pc + size) % 2 ^ 16; repeating = false; repeated = 0; shadowed = false }).dp ≡ r.dp
    go true = refl
    go false = refl

meant : (i : Insn) (word : ℕ) (r : Registers) → r.dp ≡ word / 128 → direct_of i ≡ Some (field_number Low7 (pos word)) → operand_address i (advanced (size_of i) r) ≡ Some word
meant i word r page e =
    let dp : (advanced (size_of i) r).dp ≡ word / 128 = same_page (size_of i) r ∙ page in
    let is : (advanced (size_of i) r).dp * 128 + word % 2 ^ 7 % 128 ≡ word = omega (arith, dp) in
    direct_address i (word % 2 ^ 7) (advanced (size_of i) r) e ∙ ap Some is

pub statements_reach : (ss : Statements) (a : Knowledge) (address word : ℕ) (i : Insn) → IsInductive ss a → IsSurelyOn a address (word / 128) → direct_of i ≡ Some (field_number Low7 (pos word)) → (signals : Signals) (k n : ℕ) (s t : State) (lines : Lines) → s.registers ≡ reset → Reaches (StepAsSupposed ss a) signals k n s t → LetsNoOther a (t.world.words 4) → (begun lines t).pc ≡ address → operand_address i (advanced (size_of i) (begun lines t)) ≡ Some word
statements_reach ss a address word i inductive surely e signals k n s t lines from reached lets at =
    meant i word (begun lines t) (sure ss a inductive address (word / 128) surely signals k n s t lines from reached lets at) e

pub words_reach : (ss : Statements) (a : Knowledge) (signals : Signals) (k : ℕ) (s : State) (address word : ℕ) (i : Insn) → IsInductive ss a → IsSurelyOn a address (word / 128) → direct_of i ≡ Some (field_number Low7 (pos word)) → (n : ℕ) (t : State) (lines : Lines) → s.registers ≡ reset → IsImageOf ss s.world → Reaches WordStep signals k n s t → AreSupposed ss a signals k n s → LetsNoOther a (t.world.words 4) → (begun lines t).pc ≡ address → operand_address i (advanced (size_of i) (begun lines t)) ≡ Some word
words_reach ss a signals k s address word i inductive surely e n t lines from image reached supposed lets at =
    meant i word (begun lines t) (words_are_sure ss a signals k s address (word / 128) inductive surely n t lines from image reached supposed lets at) e
