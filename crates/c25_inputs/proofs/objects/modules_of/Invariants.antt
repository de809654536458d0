use Rattle.std.proofs.Common.{◌≡◌, drop}
use Rattle.c25_meaning_common.specs.Results.{fold_ok}
use Rattle.c25_inputs.specs.Objects.{modules_in, objects_of, with_object}
use Rattle.c25_inputs.proofs.objects.modules_of.Given as goal

abbrev pub invariant-loop-object : goal.invariant-loop-object
invariant-loop-object l = fold_ok with_object l.modules.items (objects_of (drop l.object-index l.objects)) ≡ modules_in (objects_of l.objects)
