use Rattle.std.proofs.Common.{map, take}
use Rattle.c25_inputs.specs.Objects.{AreFiles, objects_of}
use Rattle.c25_inputs.proofs.objects.read_objects.Given as goal

abbrev pub invariant-loop-name : goal.invariant-loop-name
invariant-loop-name g l = AreFiles (g.D.Disk.bytes_of l.disk) (map (λ name. name.now) (take l.name-index l.names)) (objects_of l.objects.items)
