-- What a result without a fault comes from.
use Rattle.std.proofs.Common.{◌≡◌, Bool, true, false, cond, Result, Ok, Err, refl}
use Rattle.c25_meaning_common.specs.Results.{◌>>=◌}

-- what comes after a result comes after one without a fault
pub bound : {A B E : Type 0} (r : Result A E) (f : A → Result B E) (y : B) → (r >>= f) ≡ Ok y → (x : A) × (r ≡ Ok x) × (f x ≡ Ok y)
bound (Ok x) f y e = (x, refl, e)
bound (Err d) f y e = absurd (cc)

-- a test that has to hold held
pub permitted : {A E : Type 0} (b : Bool) (x : A) (d : E) (y : A) → cond b (Ok x) (Err d) ≡ Ok y → (b ≡ true) × (x ≡ y)
permitted true x d y e = (refl, cc)
permitted false x d y e = absurd (cc)

-- a test that may not hold did not
pub refused : {A E : Type 0} (b : Bool) (d : E) (x y : A) → cond b (Err d) (Ok x) ≡ Ok y → (b ≡ false) × (x ≡ y)
refused true d x y e = absurd (cc)
refused false d x y e = (refl, cc)

-- a test before another result that may not hold did not
pub unless : {A E : Type 0} (b : Bool) (d : E) (r : Result A E) (y : A) → cond b (Err d) r ≡ Ok y → r ≡ Ok y
unless true d r y e = absurd (cc)
unless false d r y e = e
