use Rattle.std.proofs.Common.{Some, None, string_bytes, sym, ◌∙◌, arith}
use Rattle.std.proofs.lemmas.Str.Pattern.{split_once_first}
use Rattle.c25_tasks.proofs.Warned.{lines_reported, no_others, whole_line}
use Rattle.c25_tasks.proofs.checking.report_lines.Goals as goal

pub returns-in-Some : goal.returns-in-Some
returns-in-Some c =
    let at = split_once_first 10 c.args.lines.now (Some (c.in-Some.first, c.in-Some.others)) c.in-Some.ensures.cases (omega arith) in
    let told = c.report_with.result in
    lines_reported c.args.lines.now c.in-Some.first.now c.in-Some.others.now told.ending (string_bytes told.note) (sym c.is_empty.ensures ∙ c.if-is_empty.false) at.1 at.2 c.report_with.ensures

pub returns-in-None : goal.returns-in-None
returns-in-None c =
    let none = split_once_first 10 c.args.lines.now None c.in-None.ensures.cases (omega arith) in
    let told = c.report_with-in-None.result in
    lines_reported c.args.lines.now c.args.lines.now _ told.ending (string_bytes told.note) (sym c.is_empty.ensures ∙ c.if-is_empty.false) (whole_line c.args.lines.now none) (no_others c.args.lines.now none) c.report_with-in-None.ensures
