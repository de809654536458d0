-- A program whose knowledge is inductive and closed: LDPK 4 at address 0, and B 1 at address 1.
use Rattle.std.proofs.Common.{◌≡◌, ℕ, zero, suc, ◌+◌, ◌≤◌, true, None, Some, refl, subst, arith, inl, inr}
use Rattle.c25_meaning_instructions.specs.declared.insn.Insn.{Insn}
use Rattle.c25_meaning_instructions.specs.Table.{size_of}
use Rattle.c25_meaning_processor.specs.Statements.{statement_at, copied_at}
use Rattle.c25_meaning_pages.specs.Inductive.{MayStand, IsInductive, IsClosed, IsSurelyOn}
use Rattle.c25_meaning_pages.specs.declared.known.Known.{Known}
use Rattle.c25_meaning_pages.specs.Known.{Implies}
use Rattle.c25_meaning_pages.specs.KnownAfter.{IsSavedAfter}
use Rattle.c25_meaning_pages.specs.Routines.{Acts}
use Rattle.c25_page_laws.specs.Example.{load_page, stay, example_program, on_page, example_table, example_knowledge}

itself : (k : Known) → Implies k k
itself k = record { page = λ p e. e; saved = λ v e. e; masked = λ e. e; shadowed = λ e. e; once = λ e. e; asleep = λ e. e; pushed = refl }

nothing_saved : (address : ℕ) (i : Insn) (k : Known) → IsSavedAfter example_knowledge address i k None
nothing_saved address i k v e = absurd (cc)

-- what stands at the two addresses
first_stands : (statement_at example_program.plain 0 ≡ Some load_page) × (copied_at example_program.copied 0 ≡ None)
unfolding statement_at copied_at
first_stands = (refl, refl)

second_stands : (statement_at example_program.plain 1 ≡ Some stay) × (copied_at example_program.copied 1 ≡ None)
unfolding statement_at copied_at
second_stands = (refl, refl)

first_is : (i : Insn) → MayStand example_program 0 i → load_page ≡ i
unfolding statement_at copied_at
first_is i (inl e) = cc
first_is i (inr (c, e, f)) = absurd (cc)

second_is : (i : Insn) → MayStand example_program 1 i → stay ≡ i
unfolding statement_at copied_at
second_is i (inl e) = cc
second_is i (inr (c, e, f)) = absurd (cc)

acts : (c n : ℕ) (k : Known) (i : Insn) → example_table c n ≡ Some k → MayStand example_program n i → Acts example_knowledge i k c n
acts zero zero k i at stand =
    let same : on_page 0 ≡ k = cc in
    subst (λ (j : Insn). Acts example_knowledge j k 0 0) (first_is i stand)
    (subst (λ (l : Known). Acts example_knowledge load_page l 0 0) same (None, nothing_saved 0 load_page (on_page 0), (on_page 4, refl, itself (on_page 4))))
acts zero (suc zero) k i at stand =
    let same : on_page 4 ≡ k = cc in
    subst (λ (j : Insn). Acts example_knowledge j k 0 1) (second_is i stand)
    (subst (λ (l : Known). Acts example_knowledge stay l 0 1) same (None, nothing_saved 1 stay (on_page 4), (on_page 4, refl, itself (on_page 4))))
acts zero (suc (suc n)) k i at stand = absurd (cc)
acts (suc c) n k i at stand = absurd (cc)

masked : (c n : ℕ) (k : Known) → example_table c n ≡ Some k → (k.masked ≡ true) × (k.once ≡ true)
masked zero zero k at = let same : on_page 0 ≡ k = cc in subst (λ (l : Known). (l.masked ≡ true) × (l.once ≡ true)) same (refl, refl)
masked zero (suc zero) k at = let same : on_page 4 ≡ k = cc in subst (λ (l : Known). (l.masked ≡ true) × (l.once ≡ true)) same (refl, refl)
masked zero (suc (suc n)) k at = absurd (cc)
masked (suc c) n k at = absurd (cc)

pub inductive : IsInductive example_program example_knowledge
inductive =
    record {
      first = (on_page 0, refl, itself (on_page 0));
      acts = λ c n k i at up stand. acts c n k i at stand;
      repeats = λ c n k i at up stand again. absurd (let t : k.once ≡ true = (masked c n k at).1 in cc);
      interrupts = λ c n k at free still. absurd (let t : k.masked ≡ true = (masked c n k at).0 in cc);
    }

abbrev Stands : ℕ → Type 0
Stands n = (i : Insn) × (statement_at example_program.plain n ≡ Some i) × (copied_at example_program.copied n ≡ None) × (n + size_of i ≤ 0xFF00)

stands : (c n : ℕ) (k : Known) → example_table c n ≡ Some k → Stands n
stands zero zero k at =
    let room : 1 ≤ 0xFF00 = omega arith in
    (load_page, first_stands.0, first_stands.1, room)
stands zero (suc zero) k at =
    let room : 3 ≤ 0xFF00 = omega arith in
    (stay, second_stands.0, second_stands.1, room)
stands zero (suc (suc n)) k at = absurd (cc)
stands (suc c) n k at = absurd (cc)

pub closed : IsClosed example_program example_knowledge
closed = record { stands = λ c n k at up. stands c n k at; once = λ c n k i at up stand once. (masked c n k at).1 }

pub surely : IsSurelyOn example_knowledge 1 4
surely zero k at = let same : on_page 4 ≡ k = cc in subst (λ (l : Known). l.page ≡ Some 4) same refl
surely (suc c) k at = absurd (cc)
