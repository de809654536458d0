-- the words of the parts so far
use Rattle.std.proofs.Common.{◌≡◌, ◌+◌, ◌-◌, ◌^◌, fold, min, take}
use Rattle.c25_moving.proofs.bss_place.words_in.Given as goal

abbrev pub invariant-loop-part : goal.invariant-loop-part
invariant-loop-part l = l.words ≡ fold (λ n p. min (n + p.words) (2 ^ 32 - 1)) 0 (take l.part-index l.parts)
