use Rattle.c25_meaning_instructions.specs.Spellings.{spelling_of}
use Rattle.c25_places.proofs.TokenFacts.{runs}
use Rattle.c25_places.proofs.refused.instruction_in.Goals as goal

pub returns-in-Ok : goal.returns-in-Ok
returns-in-Ok c = rw c.in-Some.is (runs (spelling_of c.in-Some.word.text.now) c.in-Ok.spelling c.in-Ok.ensures)
