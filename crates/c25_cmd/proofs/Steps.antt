-- What holds of what a reading gives, by its steps.
use Rattle.std.proofs.Common.{Bool, true, false, Result, Ok, Err, if◌then◌else◌}
use Rattle.std.specs.Prelude.{IfOk}
use Rattle.c25_meaning_common.specs.Results.{◌>>=◌}

-- a step of which something is known, and what follows it
pub bound : {A B E : Type 0} (P : A → Type 0) (Q : B → Type 0) (r : Result A E) (f : A → Result B E) → IfOk r P → ((x : A) → P x → IfOk (f x) Q) → IfOk (r >>= f) Q
bound P Q (Ok x) f h more = more x h
bound P Q (Err e) f h more = tt

-- a step of which nothing is known
pub after : {A B E : Type 0} (Q : B → Type 0) (r : Result A E) (f : A → Result B E) → ((x : A) → IfOk (f x) Q) → IfOk (r >>= f) Q
after Q (Ok x) f more = more x
after Q (Err e) f more = tt

-- one of two readings
pub chosen : {A E : Type 0} (P : A → Type 0) (b : Bool) (r s : Result A E) → IfOk r P → IfOk s P → IfOk (if b then r else s) P
chosen P true r s h k = h
chosen P false r s h k = k

-- what is known of what a reading gives may be weakened
pub wider : {A E : Type 0} (P Q : A → Type 0) (r : Result A E) → ((x : A) → P x → Q x) → IfOk r P → IfOk r Q
wider P Q (Ok x) more h = more x h
wider P Q (Err e) more h = tt
