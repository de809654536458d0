use Rattle.std.proofs.Common.{◌++◌, codes, string_bytes}
use Rattle.c25_meaning_common.specs.Digits.{four_digits, two_digits}
use Rattle.c25_meaning_debugger.specs.Texts.{regs_text, spaced}
use Rattle.c25_meaning_linking.specs.MapText.{eight_digits}
use Rattle.c25_debug.proofs.Joined.{three_parts}
use Rattle.c25_debug.proofs.answers.registers.push_registers.Goals as goal

pub returns : goal.returns
unfolding regs_text
returns c =
    let r = c.args.registers.now in
    three_parts (string_bytes c.args.text.now)
    (codes "PC " ++ four_digits r.pc ++ codes " ACC " ++ eight_digits r.acc ++ codes " P " ++ eight_digits r.p ++ codes " T " ++ four_digits r.t)
    (codes " ST0 ") (four_digits r.st0) (codes " ST1 ") (four_digits r.st1) (codes " RPTC ") (two_digits r.rptc) (codes "\nAR") (spaced r.ar) (codes "\n")
    (string_bytes c.push_factors.new.text) (string_bytes c.push_status.new.text) (string_bytes c.push_row.new.text)
    c.in_ok-push_factors.ensures c.in_ok-push_status.ensures c.in_ok-push_row.ensures
