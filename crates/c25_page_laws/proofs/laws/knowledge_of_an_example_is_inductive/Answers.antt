use Rattle.std.proofs.Common.{refl}
use Rattle.c25_page_laws.proofs.Example.{closed, inductive, surely}
use Rattle.c25_page_laws.proofs.laws.knowledge_of_an_example_is_inductive.Goals as goal

pub returns-clause-inductive : goal.returns-clause-inductive
returns-clause-inductive c = inductive

pub returns-clause-closed : goal.returns-clause-closed
returns-clause-closed c = closed

pub returns-clause-known : goal.returns-clause-known
returns-clause-known c = refl

pub returns-clause-sure : goal.returns-clause-sure
returns-clause-sure c = surely
