use Rattle.std.proofs.Common.{ap, ◌∙◌}
use Rattle.c25_meaning_assembly.specs.Sections.{is_in}
use Rattle.c25_phases.proofs.Keys.{any_bytes}
use Rattle.c25_phases.proofs.names.DistinctNames.has.Goals as goal

pub returns-clause-value : goal.returns-clause-value
returns-clause-value c = c.contains.ensures ∙ any_bytes c.self.inside.names.keys c.args.name.now ∙ ap (λ names. is_in names c.args.name.now) c.self.view_is
