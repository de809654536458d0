use Rattle.c25_answer_laws.proofs.ImagesBuilt.{Laws, never_unbuilt}
use Rattle.c25_answer_laws.proofs.image_words.sources_of_layouts_are_built.Goals as goal

laws : (c : goal.After-layouts_are_linked) → Laws
laws c = record { read = c.command_files_are_read.ensures; assembles = c.layouts_are_assembled.ensures; links = c.layouts_are_linked.ensures }

pub returns : goal.returns
returns c = never_unbuilt (laws c)
