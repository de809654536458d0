use Rattle.c25_place.proofs.Listed.{name_is_new, names_inserted}
use Rattle.c25_place.proofs.names.SeenNames.insert.Goals as goal

pub returns-clause-new : goal.returns-clause-new
returns-clause-new c = name_is_new c.args.name c.self.inside.seen.keys c.args.self.now c.in_ok-insert.field-0 c.in_ok-insert.ensures.added c.self.view_is

pub returns-clause-names : goal.returns-clause-names
returns-clause-names c = names_inserted c.args.name c.self.inside.seen.keys c.insert.new.self.keys c.args.self.now c.in_ok-insert.ensures.keys c.self.view_is
