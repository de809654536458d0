-- The names of `.mmregs`: all are new, or none is defined.
use Rattle.std.proofs.Common.{◌≡◌, ℕ, Bool, true, false, cond, ◌||◌, List, [], ◌∷◌, ◌++◌, map, Result, Ok, Err, refl, sym, ap, ◌∙◌, subst}
use Rattle.std.specs.List.{list_any}
use Rattle.std.specs.Str.{bytes_eq}
use Rattle.c25_meaning_assembly.specs.Sections.{Definitions, Progress, define_pair, is_in, register_names, registers, stands}
use Rattle.c25_meaning_assembly.proofs.Distinct.{neither, turned}
use Rattle.c25_meaning_common.specs.Results.{◌>>=◌, fold_ok}
use Rattle.c25_meaning_common.specs.declared.failure.Failure.{Failure}
use Rattle.c25_meaning_common.specs.declared.failure.Failure.TheVariants.{NoMemory, Fault}
use Rattle.c25_meaning_language.specs.declared.statement.FaultKind.{FaultKind}
use Rattle.c25_meaning_language.specs.declared.statement.FaultKind.TheVariants as fault
use Rattle.c25_meaning_language.specs.declared.value.Value.{Value}
use Rattle.c25_phases.proofs.Declared.{stands_still, stands_with}
use Rattle.c25_phases.proofs.LeftOut.{defined_anew, not_again}
use Rattle.c25_phases.specs.Refused.{IsFull, IsUndone}

-- whether one of these names stands for something
abbrev pub some_stand : Definitions → Definitions → Bool
some_stand names pairs = list_any (λ (pair : List ℕ × Value). stands names pair.0) pairs

or_true : (a b : Bool) → b ≡ true → (a || b) ≡ true
or_true true b h = refl
or_true false b h = h

still : (names more pairs : Definitions) → some_stand names pairs ≡ true → some_stand (names ++ more) pairs ≡ true
still names more [] h = absurd (cc)
still names more (x ∷ xs) h = on (stands names x.0) refl (still names more xs) h
  where
    on : (b : Bool) → stands names x.0 ≡ b → (some_stand names xs ≡ true → some_stand (names ++ more) xs ≡ true) → (b || some_stand names xs) ≡ true
        → (stands (names ++ more) x.0 || some_stand (names ++ more) xs) ≡ true
    on true is rest h = ap (λ b. b || some_stand (names ++ more) xs) (stands_still names more x.0 is)
    on false is rest h = or_true (stands (names ++ more) x.0) (some_stand (names ++ more) xs) (rest h)

-- names of which one stands for something are not all defined
pub refused : (pairs : Definitions) (p : Progress) → some_stand p.names pairs ≡ true → fold_ok define_pair p pairs ≡ Err fault.Defined
refused [] p h = absurd (cc)
refused (x ∷ xs) p h = on (stands p.names x.0) refl (refused xs (record p { names = p.names ++ x ∷ [] })) h
  where
    on : (b : Bool) → stands p.names x.0 ≡ b
        → (some_stand (p.names ++ x ∷ []) xs ≡ true → fold_ok define_pair (record p { names = p.names ++ x ∷ [] }) xs ≡ Err fault.Defined)
        → (b || some_stand p.names xs) ≡ true → (define_pair p x >>= λ q. fold_ok define_pair q xs) ≡ Err fault.Defined
    on true is rest h = ap (λ r. r >>= λ q. fold_ok define_pair q xs) (not_again x.0 x.1 p is)
    on false is rest h = ap (λ r. r >>= λ q. fold_ok define_pair q xs) (defined_anew x.0 x.1 p is) ∙ rest (still p.names (x ∷ []) xs h)

-- names that stand for nothing still do once another one is defined
pub one_less : (names after : Definitions) (x : List ℕ × Value) (rest : Definitions) → some_stand names (x ∷ rest) ≡ false → is_in (map (λ (pair : List ℕ × Value). pair.0) rest) x.0 ≡ false
    → after ≡ names ++ x ∷ [] → some_stand after rest ≡ false
one_less names after x rest none apart is = subst (λ (n : Definitions). some_stand n rest ≡ false) (sym is) (each rest (neither (stands names x.0) (some_stand names rest) none).1 apart)
  where
    each : (ys : Definitions) → some_stand names ys ≡ false → is_in (map (λ (pair : List ℕ × Value). pair.0) ys) x.0 ≡ false → some_stand (names ++ x ∷ []) ys ≡ false
    each [] h e = refl
    each (y ∷ ys) h e =
        let p = neither (stands names y.0) (some_stand names ys) h in
        let q = neither (bytes_eq x.0 y.0) (is_in (map (λ (pair : List ℕ × Value). pair.0) ys) x.0) e in
        let away : stands (names ++ x ∷ []) y.0 ≡ false = stands_with names x.0 y.0 x.1 p.0 ∙ turned y.0 x.0 ∙ q.0 in
        ap (λ b. b || some_stand (names ++ x ∷ []) ys) away ∙ each ys p.1 q.1

-- the first of names that stand for nothing
pub first_new : (names : Definitions) (x : List ℕ × Value) (rest : Definitions) → some_stand names (x ∷ rest) ≡ false → stands names x.0 ≡ false
first_new names x rest none = (neither (stands names x.0) (some_stand names rest) none).0

-- `.mmregs` is refused where one of its names stands for something
pub registers_refused : (p : Progress) → p.registers ≡ false → some_stand p.names register_names ≡ true → registers p ≡ Err fault.Defined
unfolding registers
registers_refused p new some =
    ap (λ b. cond b (Ok p) (fold_ok define_pair (record p { registers = true }) register_names)) new ∙ refused register_names (record p { registers = true }) some

-- a call that is refused for want of room alone may have changed anything
pub full_undone : (old new : Progress) (r : Result (Unit {0}) (Failure FaultKind)) → IsFull r → IsUndone old r new
full_undone old new (Ok x) full = tt
full_undone old new (Err (NoMemory n)) full = tt
full_undone old new (Err (Fault kind)) full = λ more. absurd (cc)
