use Rattle.std.proofs.Common.{List, ℕ}
use Rattle.c25_run_laws.proofs.Image.{runs_alike, statements_stay}
use Rattle.c25_meaning_linking.specs.Command.{CommandData}
use Rattle.c25_meaning_expansion.specs.Files.{Files}
use Rattle.c25_meaning_processor.specs.FirstState.{first_of_pages}
use Rattle.c25_meaning_linking.specs.Linking.{ImageData, IsProgram}
use Rattle.c25_meaning_objects.specs.Module.{Contents}
use Rattle.c25_meaning_processor.specs.Statements.{IsImageOf}
use Rattle.c25_laws.proofs.ProgramMarks.{marks_are}
use Rattle.c25_laws.proofs.ProgramRuns.{is_image}
use Rattle.c25_laws.proofs.ProgramWords.{words_are}
use Rattle.c25_laws.specs.ProgramStatements.{AreModulesOf, program_statements}
use Rattle.c25_laws.proofs.program_laws.linked_images_run_as_statements.Goals as goal

image_of : (files : Files) (names : List (List ℕ)) (modules : List Contents) (command : CommandData) (image : ImageData) (samples : ℕ → List ℕ) → AreModulesOf files names modules → (p : IsProgram modules command image)
    → IsImageOf (program_statements files names modules p.places) (first_of_pages image.program image.store image.marks image.run_marks samples).world
image_of files names modules command image samples of p =
    is_image (program_statements files names modules p.places) image.program image.store image.marks image.run_marks samples (marks_are files names modules command image of p) (words_are files names modules command image of p)

pub returns-clause-image : goal.returns-clause-image
returns-clause-image c = image_of

pub returns-clause-runs : goal.returns-clause-runs
returns-clause-runs c files names modules command image samples of p =
    runs_alike (program_statements files names modules p.places) (first_of_pages image.program image.store image.marks image.run_marks samples) (image_of files names modules command image samples of p)

pub returns-clause-words : goal.returns-clause-words
returns-clause-words c files names modules command image samples of p =
    statements_stay (program_statements files names modules p.places) (first_of_pages image.program image.store image.marks image.run_marks samples) (image_of files names modules command image samples of p)
