use Rattle.c25_layout_laws.proofs.PartsLinked.{Laws, layout_program}
use Rattle.c25_layout_laws.proofs.assembling.layouts_have_a_program.Goals as goal

laws : (c : goal.After-placed_modules_have_a_program) → Laws
laws c = record { each_module = c.sources_make_modules.ensures; commands = c.spelled_commands_keep_the_rules.ensures; programs = c.placed_modules_have_a_program.ensures }

pub returns : goal.returns
returns c = layout_program (laws c)
