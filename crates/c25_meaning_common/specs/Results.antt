-- Results of definitions, and when the answer of a call that may run out of memory agrees with one.
use Rattle.std.specs.Prelude.{◌≡◌, List, [], ◌∷◌, Result, Ok, Err}
use Rattle.c25_meaning_common.specs.declared.failure.Failure.{Failure}
use Rattle.c25_meaning_common.specs.declared.failure.Failure.TheVariants.{NoMemory, Fault}

-- the next step on the value of a result; a fault stays as it is
infixl 10 ◌>>=◌
abbrev pub ◌>>=◌ : {A B E : Type 0} → Result A E → (A → Result B E) → Result B E
(Ok x) >>= f = f x
(Err e) >>= f = Err e

-- a fold whose steps may fail: it stops at the first fault
abbrev pub fold_ok : {A B E : Type 0} → (A → B → Result A E) → A → List B → Result A E
fold_ok step a [] = Ok a
fold_ok step a (b ∷ bs) = step a b >>= λ next. fold_ok step next bs

-- a result with its fault changed to that of another kind
abbrev pub told : {A E F : Type 0} → (E → F) → Result A E → Result A F
told as_other (Ok x) = Ok x
told as_other (Err e) = Err (as_other e)

-- a failure is out of memory, not a fault
abbrev pub IsNoMemory : {F : Type 0} → Failure F → Type 0
IsNoMemory (NoMemory n) = Unit {0}
IsNoMemory (Fault f) = ⊥

-- a call that fails does so with the fault that is defined, unless memory ran out; `fault` is what the
-- failure's own fault stands for
abbrev pub FailsBy : {A E F : Type 0} → (F → E) → Result A E → Failure F → Type 0
FailsBy fault meant (NoMemory n) = Unit {0}
FailsBy fault meant (Fault f) = meant ≡ Err (fault f)

-- a call answers what is defined, unless memory ran out; `view` is what its value stands for, `fault` what
-- its fault stands for
abbrev pub MeetsBy : {A T E F : Type 0} → (F → E) → (T → A) → Result A E → Result T (Failure F) → Type 0
MeetsBy fault view meant (Ok x) = meant ≡ Ok (view x)
MeetsBy fault view meant (Err e) = FailsBy fault meant e

-- `FailsBy`, where a failure's fault is the defined fault itself
abbrev pub Fails : {A F : Type 0} → Result A F → Failure F → Type 0
Fails meant e = FailsBy (λ f. f) meant e

-- `MeetsBy`, where an answer's fault is the defined fault itself
abbrev pub Meets : {A T F : Type 0} → (T → A) → Result A F → Result T (Failure F) → Type 0
Meets view meant result = MeetsBy (λ f. f) view meant result
