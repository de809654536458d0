-- the places so far are kept where they fit, and all later ones
use Rattle.std.proofs.Common.{◌≡◌, ◌+◌, ◌%◌, ◌&&◌, ◌||◌, ℕ, false, leb, get_or, length}
use Rattle.c25_place.proofs.blocks.keep_paged.Given as goal

abbrev pub invariant-loop-place : goal.invariant-loop-place
invariant-loop-place l = ((j : ℕ) → get_or l.fits j false ≡ (get_or l.fn.fits j false && (leb l.place j || leb ((j + l.offset) % 128 + l.size) 128))) × (length l.fits ≡ length l.fn.fits)
