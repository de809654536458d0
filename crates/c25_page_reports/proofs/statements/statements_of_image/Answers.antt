use Rattle.std.proofs.Common.{◌≡◌, ℕ, List, subst}
use Rattle.std.specs.FinMap.{FinMap}
use Rattle.std.specs.Ordering.{nat_cmp}
use Rattle.c25_meaning_image.specs.declared.mark.Mark.{Mark}
use Rattle.c25_meaning_image.specs.declared.mark.RunMark.{RunMark}
use Rattle.c25_meaning_processor.specs.FirstState.{memory_of_map}
use Rattle.c25_page_reports.specs.Statements.{AreCopied, ArePlain}
use Rattle.c25_page_reports.proofs.Read.{statements_are}
use Rattle.c25_page_reports.proofs.statements.statements_of_image.Goals as goal

pub returns-in-Ok-Some : goal.returns-in-Ok-Some
returns-in-Ok-Some c =
    let image = c.args.image.now in
    let read = c.words-words.result.now in
    let words : read ≡ image.program = c.words-words.ensures in
    let plain : ArePlain (memory_of_map read) c.marks.result.now c.in-Some.plain.items = rw c.in-Some.is at c.in_ok-plain.ensures in
    let copied : AreCopied (memory_of_map read) c.run_marks.result.now c.in-Ok-Some.copied.items = rw c.in-Ok-Some.field-0-is at c.in-Ok-Some.ensures in
    statements_are image (record { plain = c.in-Some.plain; copied = c.in-Ok-Some.copied })
    (subst (λ (ms : List Mark). ArePlain (memory_of_map image.program) ms c.in-Some.plain.items) c.marks.ensures (subst (λ (ws : FinMap nat_cmp ℕ). ArePlain (memory_of_map ws) c.marks.result.now c.in-Some.plain.items) words plain))
    (subst (λ (ms : List RunMark). AreCopied (memory_of_map image.program) ms c.in-Ok-Some.copied.items) c.run_marks.ensures (subst (λ (ws : FinMap nat_cmp ℕ). AreCopied (memory_of_map ws) c.run_marks.result.now c.in-Ok-Some.copied.items) words copied))
