use Rattle.c25_place.proofs.Fits.{taken_none}
use Rattle.c25_place.proofs.room.Room.new.Goals as goal

pub returns : goal.returns
returns c = record {
  program = taken_none c.in_ok-free_words.field-0.items 0 c.in_ok-free_words.ensures;
  store = taken_none c.in_ok-free_words-2.field-0.items 1 c.in_ok-free_words-2.ensures;
}
