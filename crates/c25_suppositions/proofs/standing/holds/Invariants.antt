-- the words from here on are held as all are
use Rattle.std.proofs.Common.{◌≡◌, drop}
use Rattle.c25_board.specs.Board.{state}
use Rattle.c25_meaning_processor.specs.State.{holds}
use Rattle.c25_suppositions.proofs.standing.holds.Given as goal

abbrev pub invariant-loop-word : goal.invariant-loop-word
invariant-loop-word l = holds (state l.board).world l.at (drop l.word-index l.words) ≡ holds (state l.board).world l.address l.words
