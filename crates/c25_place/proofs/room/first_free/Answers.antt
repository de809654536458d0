use Rattle.std.proofs.Common.{◌+◌, ◌-◌, sym, subst, refl, arith}
use Rattle.c25_place.specs.Room.{IsRunBefore}
use Rattle.c25_place.proofs.Fits.{run_taken, run_short, run_unpaged}
use Rattle.c25_place.proofs.room.first_free.Goals.{then-taken-k, else-taken-k+then-free-size+else-fits-base, else-taken-k+else-free-size}
use Rattle.c25_place.proofs.room.first_free.Goals as goal

pub loop-k-preserved : goal.loop-k-preserved
loop-k-preserved c =
    let taken = c.args.taken.now in
    let fits = c.args.fits.now in
    let start = c.args.start in
    let size = c.args.size in
    let k = c.loop-k.k in
    let run = c.loop-k.free in
    elim c.if-taken-k.branch [
      | then-taken-k w ↦ subst (IsRunBefore taken fits start size (k + 1)) (sym w.free-is) (run_taken taken fits start size k run c.requires.some c.loop-k.auto.k w.if-taken-k.true c.loop-k.invariant)
      | else-taken-k+then-free-size+else-fits-base w ↦ subst (IsRunBefore taken fits start size (k + 1)) (sym w.free-is) (run_unpaged taken fits start size k run (k + 1 - size) c.requires.some w.if-taken-k.false refl w.if-fits-base.false c.loop-k.invariant)
      | else-taken-k+else-free-size w ↦ subst (IsRunBefore taken fits start size (k + 1)) (sym w.free-is) (run_short taken fits start size k run c.requires.some w.if-taken-k.false (omega (arith, w.if-free-size.false)) c.loop-k.invariant)
    ]
