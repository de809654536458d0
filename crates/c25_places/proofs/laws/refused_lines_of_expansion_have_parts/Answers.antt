use Rattle.c25_places.proofs.Orders.{call_has_part, order_has_part}
use Rattle.c25_places.proofs.laws.refused_lines_of_expansion_have_parts.Goals as goal

pub returns-clause-ordered : goal.returns-clause-ordered
returns-clause-ordered c = order_has_part

pub returns-clause-called : goal.returns-clause-called
returns-clause-called c = call_has_part
