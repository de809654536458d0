-- Which words of a page sections have, as the code has it.
use Rattle.std.specs.Prelude.{List}
use Rattle.c25_meaning_linking.specs.Place.{Place}
use Rattle.c25_place.specs.Room.{KnowsTaken}
use Rattle.c25_rooms.specs.declared.marks.Marks.{Marks}

-- the words that are marked are those that sections at these places have
abbrev pub KnowsMarks : Marks → List Place → Type 0
KnowsMarks m places = KnowsTaken m.taken.items m.page places
