-- A fact about `None` holds of an option that is no `Some`.
use Rattle.std.proofs.Common.{◌≡◌, Option, Some, None, refl}
use Rattle.std.specs.Prelude.{IfNone}

pub none_left : {A : Type 0} (r : Option A) (P : Type 0) → IfNone r P → ((x : A) → r ≡ Some x → ⊥) → P
none_left None P given others = given
none_left (Some x) P given others = absurd (others x refl)
