use Rattle.std.proofs.Common.{ℕ, List, string_bytes, subst}
use Rattle.c25_tasks.specs.Disassembly.{PrintsWords}
use Rattle.c25_tasks.specs.Tells.{Printed}
use Rattle.c25_tasks.proofs.Disassembled.{words_printed}
use Rattle.c25_tasks.proofs.disassembly.print_words.Goals as goal

pub returns : goal.returns
returns g c =
    let held = g.D.Disk.bytes_of c.args.disk.now in
    let file : List ℕ × List ℕ = (c.args.file.now.name.now, c.args.file.now.bytes.items) in
    let out : Printed = (g.O.Write.contents c.args.out.now, g.O.Write.contents c.report_answers-report.new.out) in
    let note = string_bytes c.with_remark.result.note in
    subst (λ (start : ℕ). PrintsWords held c.args.asked.notes start file c.with_remark.result.ending note out) c.unwrap_or.ensures
    (words_printed held c.args.asked.notes c.unwrap_or.result file c.hex_text-told.result c.report_answers-report.result.ending c.with_remark.result.ending (string_bytes c.report_answers-report.result.note) note out
    c.hex_text-told.ensures c.report_answers-report.ensures c.with_remark.ensures.ending c.with_remark.ensures.note)
