use Rattle.std.proofs.Common.{◌≡◌, drop, map, Some}
use Rattle.std.specs.Prelude.{IfSome}
use Rattle.c25_fronts.specs.Folders.{found_in, places}
use Rattle.c25_fronts.proofs.folders.open_in.Given as goal

abbrev pub invariant-loop-folder : goal.invariant-loop-folder
invariant-loop-folder g l =
    IfSome (found_in (g.D.Disk.bytes_of l.disk) (g.D.Disk.opens l.disk) (places l.name (map (λ folder. folder.now) l.folders)))
    (λ bytes. found_in (g.D.Disk.bytes_of l.disk) (g.D.Disk.opens l.disk) (places l.name (map (λ folder. folder.now) (drop l.folder-index l.folders))) ≡ Some bytes)
