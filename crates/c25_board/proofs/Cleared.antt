-- After a breakpoint is cleared the bits are those of the breakpoints left.
use Rattle.std.proofs.Common.{◌≡◌, ◌≢◌, ℕ, inl, inr, ◌∙◌, ap, sym, false, true, not, eqb, List, ne_eqb, eqb-true}
use Rattle.std.proofs.lemmas.Bool.{cases_eq}
use Rattle.std.proofs.lemmas.Map.Views.{any-filter_same}
use Rattle.c25_meaning_processor.specs.Goes.{is_breakpoint}
use Rattle.c25_meaning_processor.specs.Set.{without_breakpoint}
use Rattle.c25_board.specs.Bits.{bit_of, KnowsAll}

-- the address itself is no breakpoint then
none_there : (breaks : List ℕ) (address : ℕ) → is_breakpoint (without_breakpoint breaks address) address ≡ false
none_there breaks address =
    any-filter_same (λ b. eqb b address) (λ b. not (eqb b address)) false (λ b is. ap not is) breaks

-- another address is one as before
others_there : (breaks : List ℕ) (address other : ℕ) → other ≢ address → is_breakpoint (without_breakpoint breaks address) other ≡ is_breakpoint breaks other
others_there breaks address other apart =
    any-filter_same (λ b. eqb b other) (λ b. not (eqb b address)) true
    (λ b is. ap not (ne_eqb b address (λ same. apart (sym (eqb-true b other is) ∙ same)))) breaks

pub knows_cleared : (breaks words new : List ℕ) (address : ℕ) → KnowsAll breaks words → bit_of new address ≡ false → ((other : ℕ) → other ≢ address → bit_of new other ≡ bit_of words other) → KnowsAll (without_breakpoint breaks address) new
knows_cleared breaks words new address knows same others other =
    elim (cases_eq other address) [
      | inl here ↦ ap (bit_of new) here ∙ same ∙ sym (none_there breaks address) ∙ ap (is_breakpoint (without_breakpoint breaks address)) (sym here)
      | inr apart ↦ others other apart ∙ knows other ∙ sym (others_there breaks address other apart)
    ]
