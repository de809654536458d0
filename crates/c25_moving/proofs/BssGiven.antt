-- The address that a command file gives `.bss`.
use Rattle.std.proofs.Common.{◌≡◌, ◌==◌, ◌&&◌, ◌∙◌, ℕ, Bool, true, List, Option, Some, None, Ok, ap, eqb, refl, subst, sym}
use Rattle.std.proofs.lemmas.Bool.{and_parts, eqb-true}
use Rattle.std.specs.Prelude.{IfSome}
use Rattle.c25_meaning_linking.specs.Command.{CommandData}
use Rattle.c25_meaning_linking.specs.CommandText.{command_of}
use Rattle.c25_meaning_linking.specs.GoodMap.{placings_for}
use Rattle.c25_moving.specs.BssPlace.{Gives, given_in}
use Rattle.c25_moving.specs.declared.bss_given.Given.{Given}

-- what the command of a text gives, the text gives
pub gives_by : (text : List ℕ) (command : CommandData) (found : Option Given) → command_of text ≡ Ok command → found ≡ given_in (placings_for command) → IfSome found (Gives text)
gives_by text command None reads is = tt
gives_by text command (Some given) reads is = (command, reads, sym is)

abbrev made : (address page : ℕ) → Given
made address page = record { address = address; page = page }

-- two addresses that the tests do not tell apart are one
same_given : (one other : Given) → one.address ≡ other.address → one.page ≡ other.page → one ≡ other
same_given one other address page =
    ap (λ (n : ℕ). made n one.page) address ∙ ap (λ (n : ℕ). made other.address n) page

-- the address that was found is the one that is asked for
pub given_same : (one other : Given) (same : Bool) → same ≡ (one.address == other.address && one.page == other.page) → same ≡ true → one ≡ other
given_same one other same is so =
    let both = and_parts (one.address == other.address) (one.page == other.page) (sym is ∙ so) in
    same_given one other (eqb-true one.address other.address both.0) (eqb-true one.page other.page both.1)

pub gives_same : (text : List ℕ) (one other : Given) (same : Bool) → Gives text one → (same ≡ true → one ≡ other) → same ≡ true → Gives text other
gives_same text one other same gives equal so = subst (Gives text) (equal so) gives
