-- the rest has the plain name of the whole
use denote.Text.{Utf8}
use denote.Shadow.{shadow}
use Rattle.std.proofs.Common.{◌≡◌, length}
use Rattle.c25_move_files.specs.Names.{plain}
use Rattle.c25_move_files.proofs.names.plain.Given as goal

abbrev pub invariant-loop-inner : goal.invariant-loop-inner
invariant-loop-inner l = shadow (Utf8 l.rest) × (plain l.rest ≡ plain l.name)

abbrev pub decreases-loop-inner : goal.decreases-loop-inner
decreases-loop-inner l = length l.rest
