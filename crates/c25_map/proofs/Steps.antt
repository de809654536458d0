-- What a reading did that answered.
use Rattle.std.proofs.Common.{◌≡◌, Bool, true, false, Option, Some, None, Result, Ok, Err, if◌then◌else◌, refl}
use Rattle.std.specs.Option.{ok_or}
use Rattle.c25_meaning_common.specs.Results.{◌>>=◌}

-- the test of a reading that answered held
pub tested : {A E : Type 0} (b : Bool) (r : Result A E) (e : E) (v : A) → (if b then r else Err e) ≡ Ok v → (b ≡ true) × (r ≡ Ok v)
tested true r e v h = (refl, h)
tested false r e v h = absurd cc

-- the test of a reading that answered did not hold
pub untested : {A E : Type 0} (b : Bool) (r : Result A E) (e : E) (v : A) → (if b then Err e else r) ≡ Ok v → (b ≡ false) × (r ≡ Ok v)
untested true r e v h = absurd cc
untested false r e v h = (refl, h)

-- the first step of a reading that answered has answered
pub stepped : {A B E : Type 0} (r : Result A E) (f : A → Result B E) (v : B) → (r >>= f) ≡ Ok v → (x : A) × (r ≡ Ok x) × (f x ≡ Ok v)
stepped (Ok x) f v h = (x, refl, h)
stepped (Err e) f v h = absurd cc

-- there was a value
pub given : {A E : Type 0} (o : Option A) (e : E) (v : A) → ok_or o e ≡ Ok v → o ≡ Some v
given (Some x) e v h = cc
given None e v h = absurd cc

-- the value was there by a test
pub some_tested : {A : Type 0} (b : Bool) (x v : A) → (if b then Some x else None) ≡ Some v → (b ≡ true) × (x ≡ v)
some_tested true x v h = (refl, cc)
some_tested false x v h = absurd cc

-- the value was there since a test failed
pub none_tested : {A : Type 0} (b : Bool) (x v : A) → (if b then None else Some x) ≡ Some v → (b ≡ false) × (x ≡ v)
none_tested true x v h = absurd cc
none_tested false x v h = (refl, cc)
