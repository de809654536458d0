use Rattle.std.proofs.Common.{◌∙◌, ◌||◌, Bool, sym, ap}
use Rattle.c25_meaning_image.specs.Marks.{is_code}
use Rattle.c25_meaning_image.proofs.RunMarks.{loaded_code}
use Rattle.c25_meaning_image.proofs.marks.is_loaded_code.Goals as goal

pub returns-then-is_load : goal.returns-then-is_load
returns-then-is_load c =
    c.if-is_load.true ∙
    sym (loaded_code c.args.run_marks.now c.args.marks.now c.args.address ∙ ap (λ (b : Bool). b || is_code c.args.marks.now c.args.address) (sym c.is_load.ensures ∙ c.if-is_load.true))

pub returns-else-is_load : goal.returns-else-is_load
returns-else-is_load c =
    c.is_code.ensures ∙ sym (loaded_code c.args.run_marks.now c.args.marks.now c.args.address ∙ ap (λ (b : Bool). b || is_code c.args.marks.now c.args.address) (sym c.is_load.ensures ∙ c.if-is_load.false))
