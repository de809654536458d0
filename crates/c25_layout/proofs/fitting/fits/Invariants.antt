-- the hints so far go together with it
use Rattle.std.proofs.Common.{◌≡◌, drop, map}
use Rattle.c25_layout.specs.Hints.{fits, hint_data}
use Rattle.c25_layout.proofs.fitting.fits.Given as goal

abbrev pub invariant-loop-before : goal.invariant-loop-before
invariant-loop-before l = fits (map hint_data (drop l.before-index l.hints)) (hint_data l.hint) ≡ fits (map hint_data l.hints) (hint_data l.hint)
