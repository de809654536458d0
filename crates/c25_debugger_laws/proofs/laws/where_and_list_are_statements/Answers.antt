use Rattle.c25_meaning_expansion.specs.Files.{Files}
use Rattle.c25_meaning_linking.specs.Command.{CommandData}
use Rattle.c25_meaning_linking.specs.Linking.{ImageData, IsProgram}
use Rattle.c25_meaning_objects.specs.Module.{Contents}
use Rattle.std.proofs.Common.{ℕ, List, []}
use Rattle.c25_laws.specs.ProgramStatements.{AreModulesOf, all_statements}
use Rattle.c25_statement_laws.specs.StatementLines.{traced_statements}
use Rattle.c25_debugger_laws.proofs.StatementsShown.{IsShown, list_is, where_is}
use Rattle.c25_debugger_laws.proofs.laws.where_and_list_are_statements.Goals as goal

is_shown : (c : goal.After-linked_images_run_as_statements) (files : Files) (names : List (List ℕ)) (modules : List Contents) (command : CommandData) (image : ImageData) → AreModulesOf files names modules → (p : IsProgram modules command image)
    → IsShown (traced_statements files names modules p.places) (all_statements files names modules p.places) image
is_shown c files names modules command image of p = record {
  same = c.lines_are_statements.ensures.statements files names modules p.places;
  lines = c.lines_are_statements.ensures.found files names modules command image of p;
  marks = c.program_marks_are_statements.ensures.marks files names modules command image of p;
  reads = c.program_words_read_as_statements.ensures.program files names modules command image of p;
  starts = (c.linked_images_run_as_statements.ensures.image files names modules command image (λ port. []) of p).starts;
}

pub returns-clause-places : goal.returns-clause-places
returns-clause-places c files names modules command image of p = where_is (traced_statements files names modules p.places) (all_statements files names modules p.places) image (is_shown c files names modules command image of p)

pub returns-clause-lists : goal.returns-clause-lists
returns-clause-lists c files names modules command image of p = list_is (traced_statements files names modules p.places) (all_statements files names modules p.places) image (is_shown c files names modules command image of p)
