-- What is known of the processor before a statement acts, when it is true, and what is known of a whole program (SPRU014,
-- "Memory Addressing Modes", "Status Registers", "Interrupts", "Program Counter and Stack").
use Rattle.std.specs.Prelude.{◌≡◌, ℕ, ◌%◌, ◌<◌, Bool, true, false, Option, None, Some}
use Rattle.c25_meaning_processor.specs.declared.registers.Registers.{Registers}
use Rattle.c25_meaning_processor.specs.Memory.{Memory}
use Rattle.c25_meaning_pages.specs.declared.known.Dropped.{Dropped}
use Rattle.c25_meaning_pages.specs.declared.known.Known.{Known}
use Rattle.c25_meaning_pages.specs.declared.known.Saved.{Saved}

-- what is known of the registers is true of them
pub record IsTrueOf (known : Known) (r : Registers) : Type 0 where
  pub page : (p : ℕ) → known.page ≡ Some p → r.dp ≡ p
  pub masked : known.masked ≡ true → r.intm ≡ true
  pub shadowed : known.shadowed ≡ true → r.shadowed ≡ true
  pub once : known.once ≡ true → r.repeating ≡ false
  pub asleep : known.asleep ≡ true → r.asleep ≡ true

-- what is known of a saved ST0 is true: its word is on data page 0, and the low nine bits of that word are
-- the DP
abbrev pub IsSaved : Known → Memory → Type 0
IsSaved known words = (v : Saved) → known.saved ≡ Some v → (v.address < 128) × (words v.address % 512 ≡ v.page)

-- all that the second knows, the first knows too, and both have pushed as many words
pub record Implies (known weaker : Known) : Type 0 where
  pub page : (p : ℕ) → weaker.page ≡ Some p → known.page ≡ Some p
  pub saved : (v : Saved) → weaker.saved ≡ Some v → known.saved ≡ Some v
  pub masked : weaker.masked ≡ true → known.masked ≡ true
  pub shadowed : weaker.shadowed ≡ true → known.shadowed ≡ true
  pub once : weaker.once ≡ true → known.once ≡ true
  pub asleep : weaker.asleep ≡ true → known.asleep ≡ true
  pub pushed : known.pushed ≡ weaker.pushed

-- what is known after a reset: DP is 0, INTM is 1, no repeat is running, and no word was pushed; no saved ST0 is known, nor that
-- EINT was the last instruction, nor that the processor is asleep
abbrev pub known_on_reset : Known
known_on_reset = record { page = Some 0; saved = None; masked = true; shadowed = false; once = true; asleep = false; pushed = 0 }

-- what is known and supposed of a whole program, by contexts: context 0 is the program itself, each other context is one routine,
-- called or begun by an interrupt while one and the same is known. `known_at` says what is known in a context before the statement
-- at an address acts, `known_on_return` what is known where the routine of a context returns, `known_on_drop` where it takes its
-- return from the stack instead, and `depth` how many words are at most on the stack where a context begins: returns of calls and
-- interrupts, and words that were pushed before. The rest is supposed: `spared` is the data word that the statement at an address
-- does not write, `may_go` says to which addresses BACC or CALA at an address goes, and `lines` has the bits of the interrupt lines
-- that IMR lets through
pub record Knowledge : Type 0 where
  pub known_at : (context address : ℕ) → Option Known
  pub known_on_return : (context : ℕ) → Option Known
  pub known_on_drop : (context : ℕ) → Option Dropped
  pub depth : (context : ℕ) → ℕ
  pub spared : (address : ℕ) → Option ℕ
  pub may_go : (address target : ℕ) → Bool
  pub lines : ℕ

-- an address is reached, in a context, with at least what is known there
abbrev pub LeadsTo : Knowledge → Known → (context address : ℕ) → Type 0
LeadsTo knowledge known context address =
    (there : Known) × (knowledge.known_at context address ≡ Some there) × Implies known there
