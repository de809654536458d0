use Rattle.c25_page_laws.proofs.Sure.{sure}
use Rattle.c25_page_laws.proofs.laws.pages_are_sure.Goals as goal

pub returns : goal.returns
returns c = λ ss a address page inductive surely. sure ss a inductive address page surely
