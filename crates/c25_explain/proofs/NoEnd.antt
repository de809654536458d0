-- A name that no end of a run has.
use Rattle.std.proofs.Common.{◌≡◌, ℕ, List}
use Rattle.std.specs.Prelude.{None}
use Rattle.c25_explain.specs.Explanation.{IsAlike}
use Rattle.c25_explain.specs.RunEnds.{IsStopNamed}
use Rattle.c25_meaning_processor.specs.RunText.{stop_name}
use Rattle.c25_meaning_processor.specs.declared.stop.Stop.{Stop}
use Rattle.c25_meaning_processor.specs.declared.stop.Stop.TheVariants as stop

pub no_stop : (name : List ℕ) → (IsAlike (stop_name stop.OutOfCode) name → ⊥) → (IsAlike (stop_name stop.CodeWrite) name → ⊥) → (IsAlike (stop_name stop.BadRepeat) name → ⊥) → (IsAlike (stop_name stop.PortDry) name → ⊥) → IsStopNamed name None
no_stop name out write repeat dry stop.OutOfCode = out
no_stop name out write repeat dry stop.CodeWrite = write
no_stop name out write repeat dry stop.BadRepeat = repeat
no_stop name out write repeat dry stop.PortDry = dry
