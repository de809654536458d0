-- Words that are spared, and a saved ST0 that is known after an instruction.
use Rattle.std.proofs.Common.{◌≡◌, ℕ, ◌+◌, ◌*◌, ◌%◌, ◌^◌, ◌<◌, ◌==◌, Bool, true, false, Option, Some, None, ap, sym, ◌∙◌, inl, inr, arith, subst}
use Rattle.std.proofs.lemmas.Bool.{eq-eqb}
use Rattle.c25_meaning_instructions.specs.declared.insn.Insn.{Insn}
use Rattle.c25_meaning_processor.specs.declared.registers.Registers.{Registers}
use Rattle.c25_meaning_pages.specs.declared.known.Known.{Known}
use Rattle.c25_meaning_pages.specs.declared.known.Saved.{Saved}
use Rattle.c25_meaning_pages.specs.Known.{Knowledge}
use Rattle.c25_meaning_pages.specs.KnownAfter.{IsSavedAfter, Saves, Spares}
use Rattle.c25_pages.specs.Written.{place_written, writes}
use Rattle.c25_pages.specs.declared.written.Written.{Written}
use Rattle.c25_pages.proofs.Words.{written_as}

-- an instruction that may not write a word spares it
pub unwritten : (k : Knowledge) (address : ℕ) (i : Insn) (known : Known) (word : ℕ) (w : Written) (b : Bool) → w ≡ writes i
    → ((r : Registers) → ((p : ℕ) → known.page ≡ Some p → r.dp ≡ p) → place_written w r ≡ Some word → b ≡ true) → b ≡ false → Spares k address i known word
unwritten k address i known word w b is says never = λ r on e.
    let there : place_written w r ≡ Some word = ap (λ (v : Written). place_written v r) is ∙ sym (written_as i r) ∙ e in
    let yes : b ≡ true = says r on there in
    absurd (cc)

pub supposed : (k : Knowledge) (address : ℕ) (i : Insn) (known : Known) (word : ℕ) → k.spared address ≡ Some word → Spares k address i known word
supposed k address i known word is = λ r on e. is

-- an ST0 that was saved before is saved still, if its word is spared
pub saved_still : (k : Knowledge) (address : ℕ) (i : Insn) (known : Known) (saved : Saved) → known.saved ≡ Some saved → Spares k address i known saved.address → IsSavedAfter k address i known (Some saved)
saved_still k address i known saved is spared = λ v e.
    let same : saved ≡ v = cc in
    inr (is ∙ e, subst (λ (s : Saved). Spares k address i known s.address) same spared)

pub none_saved : (k : Knowledge) (address : ℕ) (i : Insn) (known : Known) → IsSavedAfter k address i known None
none_saved k address i known = λ v e. absurd (cc)

pub saved_newly : (k : Knowledge) (address : ℕ) (i : Insn) (known : Known) (saved : Option Saved) → ((v : Saved) → saved ≡ Some v → Saves i known v) → IsSavedAfter k address i known saved
saved_newly k address i known saved saves = λ v e. inl (saves v e)

-- ---- addresses of direct operands

-- the low seven bits of an address, whatever DP is
pub low_test : (dp low after word : ℕ) → (dp * 128 + low % 128 + after) % 2 ^ 16 ≡ word → ((low % 128 + after) % 128 == word % 128) ≡ true
low_test dp low after word e =
    let same : (low % 128 + after) % 128 ≡ word % 128 = omega arith in
    eq-eqb ((low % 128 + after) % 128) (word % 128) same

pub page_test : (page dp low after word : ℕ) → dp ≡ page → (dp * 128 + low % 128 + after) % 2 ^ 16 ≡ word → ((page * 128 + (low % 128 + after)) % 65536 == word) ≡ true
page_test page dp low after word on e =
    let same : (page * 128 + (low % 128 + after)) % 65536 ≡ word = omega arith in
    eq-eqb ((page * 128 + (low % 128 + after)) % 65536) word same

pub whole_address : (a word : ℕ) → word < 2 ^ 16 → a ≡ word → (a + 0) % 2 ^ 16 ≡ word
whole_address a word small e = omega arith
