use Rattle.std.proofs.Common.{◌∙◌, ◌++◌, Some, sym, ap, string_bytes}
use Rattle.c25_board.specs.Board.{state}
use Rattle.c25_meaning_debugger.specs.Debugger.{source_line_at}
use Rattle.c25_meaning_debugger.specs.Texts.{SourceLine, insn_line}
use Rattle.c25_debug.proofs.Fetched.{only_line, nothing_fetched, where_by}
use Rattle.c25_debug.proofs.shown.show_place.Goals as goal

pub returns-in_ok-push_line-in-Some-copied-clause-text : goal.returns-in_ok-push_line-in-Some-copied-clause-text
returns-in_ok-push_line-in-Some-copied-clause-text g c =
    let image = c.args.image.now in
    let s = state c.args.board.now in
    let insn = c.in-Some-copied.insn in
    let mark = c.in-Some.mark in
    let line = ap (λ (source : SourceLine). string_bytes c.new-text.result ++ insn_line c.pc-address.result (Some insn) source) c.line_of-source.ensures in
    where_by image s _ mark _ (sym c.in-Some.ensures) (
      Some insn,
      c.in-Some-copied.ensures s.registers.cnf s.registers.pc,
      only_line (λ a. insn_line a (Some insn) (source_line_at image mark.load)) _ _ _ _ c.pc-address.ensures c.new-text.ensures.bytes (c.shown.ensures.text ∙ c.in_ok-push_line-in-Some-copied.ensures ∙ line),
    )

pub returns-in-None-copied-clause-text : goal.returns-in-None-copied-clause-text
returns-in-None-copied-clause-text g c =
    let s = state c.args.board.now in
    nothing_fetched c.args.image.now s _ c.in-Some.mark _ c.show_mark.result (sym c.in-Some.ensures)
    (c.in-None-copied.ensures s.registers.cnf s.registers.pc) c.pc-address.ensures c.show_mark.ensures.text
