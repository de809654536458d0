-- The stack holds the returns of the routines that are active; what is true in each state of a run.
use Rattle.std.proofs.Common.{◌≡◌, ℕ, zero, suc, ◌+◌, ◌≤◌, Option, Some, Ok, Err, List, [], ◌∷◌, ◌++◌, sym, ap, ◌∙◌, subst, arith}
use Rattle.std.specs.Prelude.{take, drop, slice_index}
use Rattle.c25_meaning_processor.specs.declared.registers.Registers.{Registers}
use Rattle.c25_meaning_processor.specs.State.{World, StepResult}
use Rattle.c25_page_laws.proofs.Left.{shows, weaker, with_pushed}
use Rattle.c25_meaning_pages.specs.declared.known.Dropped.{Dropped}
use Rattle.c25_meaning_pages.specs.declared.known.Known.{Known}
use Rattle.c25_meaning_pages.specs.Known.{IsSaved, IsTrueOf, Knowledge, LeadsTo}
use Rattle.c25_meaning_pages.specs.Routines.{Begins, DropsTo, MayDrop, MayReturn, Pushes, ReturnsTo, Takes}

-- ---- the stack

-- how many words are on the stack below those that the innermost routine pushed. The callers are those of the routines that are
-- active, the innermost first: of each its context, and how many words it has pushed
abbrev pub height : List (ℕ × ℕ) → ℕ
height [] = 0
height (d ∷ ds) = suc (d.1 + height ds)

-- each word that calls and interrupts have pushed leads on in its caller's context; above it are the words that its routine pushed
abbrev pub Stacked : Knowledge → (pushed context : ℕ) → List (ℕ × ℕ) → List ℕ → Type 0
Stacked a (suc n) c callers [] = ⊥
Stacked a (suc n) c callers (word ∷ rest) = Stacked a n c callers rest
Stacked a zero zero [] stack = Unit {0}
Stacked a zero zero (d ∷ ds) stack = ⊥
Stacked a zero (suc c) [] stack = ⊥
Stacked a zero (suc c) (d ∷ ds) [] = ⊥
Stacked a zero (suc c) (d ∷ ds) (word ∷ rest) =
    ReturnsTo a (a.known_on_return (suc c)) d.1 d.0 word × DropsTo a (a.known_on_drop (suc c)) d.1 d.0 × (height ds ≤ a.depth d.0) × Stacked a d.1 d.0 ds rest

stacked_take : (a : Knowledge) (n c : ℕ) (callers : List (ℕ × ℕ)) (stack : List ℕ) (m : ℕ) → n + height callers ≤ m → Stacked a n c callers stack → Stacked a n c callers (take m stack)
stacked_take a (suc n) c callers [] m le h = absurd h
stacked_take a (suc n) c callers (word ∷ rest) zero le h = absurd (omega (arith, le))
stacked_take a (suc n) c callers (word ∷ rest) (suc m) le h = stacked_take a n c callers rest m (omega (arith, le)) h
stacked_take a zero zero [] stack m le h = tt
stacked_take a zero zero (d ∷ ds) stack m le h = absurd h
stacked_take a zero (suc c) [] stack m le h = absurd h
stacked_take a zero (suc c) (d ∷ ds) [] m le h = absurd h
stacked_take a zero (suc c) (d ∷ ds) (word ∷ rest) zero le h = absurd (omega (arith, le))
stacked_take a zero (suc c) (d ∷ ds) (word ∷ rest) (suc m) le h = (h.0, h.1, h.2, stacked_take a d.1 d.0 ds rest m (omega (arith, le)) h.3)

stacked_more : (a : Knowledge) (n c : ℕ) (callers : List (ℕ × ℕ)) (stack more : List ℕ) → Stacked a n c callers stack → Stacked a n c callers (stack ++ more)
stacked_more a (suc n) c callers [] more h = absurd h
stacked_more a (suc n) c callers (word ∷ rest) more h = stacked_more a n c callers rest more h
stacked_more a zero zero [] stack more h = tt
stacked_more a zero zero (d ∷ ds) stack more h = absurd h
stacked_more a zero (suc c) [] stack more h = absurd h
stacked_more a zero (suc c) (d ∷ ds) [] more h = absurd h
stacked_more a zero (suc c) (d ∷ ds) (word ∷ rest) more h = (h.0, h.1, h.2, stacked_more a d.1 d.0 ds rest more h.3)

-- ---- what is true in each state

pub record Fits (a : Knowledge) (r : Registers) (w : World) : Type 0 where
  pub context : ℕ
  pub callers : List (ℕ × ℕ)
  pub known : Known
  pub here : a.known_at context r.pc ≡ Some known
  pub holds : IsTrueOf known r
  pub memory : IsSaved known w.words
  pub stacked : Stacked a known.pushed context callers r.stack
  pub deep : height callers ≤ a.depth context

abbrev pub FitsAfter : Knowledge → StepResult → Type 0
FitsAfter a (Ok s) = Fits a s.registers s.world
FitsAfter a (Err stop) = Unit {0}

-- the state after an instruction that leaves the stack as it was
pub on : (a : Knowledge) (k : Known) (context address : ℕ) (callers : List (ℕ × ℕ)) (r : Registers) (w : World) → IsSaved k w.words → LeadsTo a k context address → IsTrueOf k r → r.pc ≡ address → Stacked a k.pushed context callers r.stack → height callers ≤ a.depth context → Fits a r w
on a k context address callers r w memory l h at stacked deep =
    record {
      context = context;
      callers = callers;
      known = l.0;
      here = ap (a.known_at context) at ∙ l.1;
      holds = weaker k l.0 r h (shows k l.0 l.2);
      memory = λ v e. memory v (l.2.saved v e);
      stacked = subst (λ (n : ℕ). Stacked a n context callers r.stack) l.2.pushed stacked;
      deep = deep;
    }

-- the state in which a routine begins: the stack has one word more
pub into : (a : Knowledge) (k : Known) (context target back : ℕ) (callers : List (ℕ × ℕ)) (stack : List ℕ) (r : Registers) (w : World) → IsSaved k w.words → Begins a k target context back → IsTrueOf k r → r.pc ≡ target → r.stack ≡ back ∷ take 7 stack → Stacked a k.pushed context callers stack → height callers ≤ a.depth context → Fits a r w
into a k context target back callers stack r w memory b h at is stacked deep =
    on a (record k { pushed = 0 }) (suc b.inner) target ((context, k.pushed) ∷ callers) r w memory b.leads (with_pushed k 0 r h) at
    (subst (λ (x : List ℕ). Stacked a 0 (suc b.inner) ((context, k.pushed) ∷ callers) x) (sym is) (b.returns, b.drops, deep, stacked_take a k.pushed context callers stack 7 (omega (arith, deep, b.deeper, b.room)) stacked))
    (omega (arith, deep, b.deeper))

-- the state after a word is pushed
pub one_more : (a : Knowledge) (k : Known) (context next word : ℕ) (callers : List (ℕ × ℕ)) (stack : List ℕ) (r : Registers) (w : World) → IsSaved k w.words → Pushes a k context next → IsTrueOf k r → r.pc ≡ next → r.stack ≡ word ∷ take 7 stack → Stacked a k.pushed context callers stack → height callers ≤ a.depth context → Fits a r w
one_more a k context next word callers stack r w memory p h at is stacked deep =
    on a (record k { pushed = suc k.pushed }) context next callers r w memory p.1 (with_pushed k (suc k.pushed) r h) at
    (subst (λ (x : List ℕ). Stacked a (suc k.pushed) context callers x) (sym is) (stacked_take a k.pushed context callers stack 7 (omega (arith, deep, p.0)) stacked))
    deep

-- the state after a routine returns, with no word pushed
returned : (a : Knowledge) (k : Known) (c : ℕ) (callers : List (ℕ × ℕ)) (stack more : List ℕ) (r : Registers) (w : World) → IsSaved k w.words → MayReturn a k (suc c) → IsTrueOf k r → r.pc ≡ slice_index stack 0 → r.stack ≡ drop 1 stack ++ more → Stacked a 0 (suc c) callers stack → Fits a r w
returned a k c [] stack more r w memory m h at is stacked = absurd stacked
returned a k c (d ∷ ds) [] more r w memory m h at is stacked = absurd stacked
returned a k c (d ∷ ds) (word ∷ rest) more r w memory m h at is stacked =
    let leads : LeadsTo a (record m.0 { pushed = d.1 }) d.0 word = subst (λ (x : Option Known). ReturnsTo a x d.1 d.0 word) m.1 stacked.0 in
    on a (record m.0 { pushed = d.1 }) d.0 word ds r w (λ v e. memory v (m.2.saved v e)) leads (with_pushed m.0 d.1 r (weaker k m.0 r h (shows k m.0 m.2))) at (subst (λ (x : List ℕ). Stacked a d.1 d.0 ds x) (sym is) (stacked_more a d.1 d.0 ds rest more stacked.3)) stacked.2

-- the state after a routine returns
pub back_to : (a : Knowledge) (k : Known) (context : ℕ) (callers : List (ℕ × ℕ)) (stack more : List ℕ) (r : Registers) (w : World) → IsSaved k w.words → MayReturn a k context → IsTrueOf k r → r.pc ≡ slice_index stack 0 → r.stack ≡ drop 1 stack ++ more → Stacked a k.pushed context callers stack → Fits a r w
back_to a k zero callers stack more r w memory m h at is stacked = absurd m
back_to a k (suc c) callers stack more r w memory m h at is stacked =
    returned a k c callers stack more r w memory m h at is (subst (λ (n : ℕ). Stacked a n (suc c) callers stack) m.3 stacked)

-- the state after a routine takes its own return from the stack
dropped : (a : Knowledge) (k : Known) (context next : ℕ) (callers : List (ℕ × ℕ)) (stack more : List ℕ) (r : Registers) (w : World) → IsSaved k w.words → MayDrop a k context next → IsTrueOf k r → r.pc ≡ next → r.stack ≡ drop 1 stack ++ more → Stacked a 0 context callers stack → Fits a r w
dropped a k zero next callers stack more r w memory m h at is stacked = absurd m
dropped a k (suc c) next [] stack more r w memory m h at is stacked = absurd stacked
dropped a k (suc c) next (d ∷ ds) [] more r w memory m h at is stacked = absurd stacked
dropped a k (suc c) next (d ∷ ds) (word ∷ rest) more r w memory m h at is stacked =
    let leads : LeadsTo a (record m.0.known { pushed = d.1 }) d.0 m.0.next = subst (λ (x : Option Dropped). DropsTo a x d.1 d.0) m.1 stacked.1 in
    on a (record m.0.known { pushed = d.1 }) d.0 m.0.next ds r w (λ v e. memory v (m.3.saved v e)) leads (with_pushed m.0.known d.1 r (weaker k m.0.known r h (shows k m.0.known m.3))) (at ∙ sym m.2) (subst (λ (x : List ℕ). Stacked a d.1 d.0 ds x) (sym is) (stacked_more a d.1 d.0 ds rest more stacked.3)) stacked.2

-- the state after a word that was pushed is taken
one_less : (a : Knowledge) (k : Known) (left context next : ℕ) (callers : List (ℕ × ℕ)) (stack more : List ℕ) (r : Registers) (w : World) → IsSaved k w.words → LeadsTo a (record k { pushed = left }) context next → IsTrueOf k r → r.pc ≡ next → r.stack ≡ drop 1 stack ++ more → Stacked a (suc left) context callers stack → height callers ≤ a.depth context → Fits a r w
one_less a k left context next callers [] more r w memory l h at is stacked deep = absurd stacked
one_less a k left context next callers (word ∷ rest) more r w memory l h at is stacked deep =
    on a (record k { pushed = left }) context next callers r w memory l (with_pushed k left r h) at
    (subst (λ (x : List ℕ). Stacked a left context callers x) (sym is) (stacked_more a left context callers rest more stacked)) deep

-- the state after a word is taken from the stack
pub taken : (a : Knowledge) (k : Known) (pushed context next : ℕ) (callers : List (ℕ × ℕ)) (stack more : List ℕ) (r : Registers) (w : World) → IsSaved k w.words → Takes a k pushed context next → IsTrueOf k r → r.pc ≡ next → r.stack ≡ drop 1 stack ++ more → Stacked a pushed context callers stack → height callers ≤ a.depth context → Fits a r w
taken a k zero context next callers stack more r w memory m h at is stacked deep = dropped a k context next callers stack more r w memory m h at is stacked
taken a k (suc left) context next callers stack more r w memory l h at is stacked deep = one_less a k left context next callers stack more r w memory l h at is stacked deep
