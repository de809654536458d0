use Rattle.c25_page_laws.proofs.Closed.{never_left}
use Rattle.c25_page_laws.proofs.laws.code_is_left_by_writes_and_ports_alone.Goals as goal

pub returns : goal.returns
returns c = never_left
