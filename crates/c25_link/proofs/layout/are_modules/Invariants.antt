-- those so far are modules
use Rattle.std.proofs.Common.{◌≡◌, ◌<◌, ℕ, Some}
use Rattle.std.specs.List.{slice_get}
use Rattle.c25_meaning_objects.specs.Module.{Contents, IsModule}
use Rattle.c25_link.proofs.layout.are_modules.Given as goal

abbrev pub invariant-loop-module : goal.invariant-loop-module
invariant-loop-module l = (number : ℕ) (m : Contents) → number < l.module-index → slice_get l.modules number ≡ Some m → IsModule m
