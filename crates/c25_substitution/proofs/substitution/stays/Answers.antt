use Rattle.std.proofs.Common.{drop, refl, subst}
use Rattle.std.specs.List.{take_while}
use Rattle.c25_meaning_common.specs.Bytes.{goes_on_name}
use Rattle.c25_substitution.specs.PlainTexts.{HasNoMark}
use Rattle.c25_substitution.proofs.PlainTexts.{line_kept}
use Rattle.c25_substitution.specs.View.{names_of}
use Rattle.c25_substitution.proofs.substitution.stays.Goals as goal

-- that no name stands for anything holds of those in the line too
pub returns-then-are_none : goal.returns-then-are_none
returns-then-are_none c = λ yes number.
    let line = c.args.line.now in
    line_kept (names_of c.args.names.now) number line (λ i. c.if-are_none.ensures refl (take_while goes_on_name (drop i line)))
    (subst HasNoMark c.as_bytes.ensures.value (c.has_no_mark.ensures yes))
