use Rattle.std.proofs.Common.{Some, None, ap, sym, ◌∙◌, ◌∷◌, arith}
use Rattle.std.specs.Str.Lines.{lines, strip_carriage_return}
use Rattle.std.proofs.lemmas.Str.Pattern.{split_once_first}
use Rattle.c25_files.proofs.Lines.{lines_ended, lines_last}
use Rattle.c25_files.proofs.first.first_line.Goals as goal

pub returns-in-Some-clause-lines : goal.returns-in-Some-clause-lines
returns-in-Some-clause-lines c =
    let at = split_once_first 10 c.args.text.now (Some (c.in-Some.line, c.in-Some.rest)) c.in-Some.ensures.cases (omega arith) in
    let front = ap strip_carriage_return (sym at.1) ∙ sym c.without_carriage_return.ensures in
    let behind = sym at.2 in
    lines_ended c.args.text.now at.0 ∙ (λ i. front i ∷ lines (behind i))

pub returns-in-None-clause-lines : goal.returns-in-None-clause-lines
returns-in-None-clause-lines c =
    lines_last c.args.text.now c.requires (split_once_first 10 c.args.text.now None c.in-None.ensures.cases (omega arith))
