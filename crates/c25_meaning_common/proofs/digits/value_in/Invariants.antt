-- the value of the digits so far, as far as it counts
use Rattle.std.proofs.Common.{◌≡◌, ◌*◌, ◌+◌, ◌^◌, min, take, fold}
use Rattle.c25_meaning_common.specs.Digits.{digit}
use Rattle.c25_meaning_common.proofs.digits.value_in.Given as goal

abbrev pub invariant-loop-b : goal.invariant-loop-b
invariant-loop-b l = l.value ≡ min (fold (λ v b. v * l.base + digit b) 0 (take l.b-index l.digits)) (2 ^ 32)
