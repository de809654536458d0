use Rattle.std.proofs.Common.{string_bytes}
use Rattle.std.specs.Prelude.{codes}
use Rattle.c25_meaning_common.specs.Digits.{four_digits}
use Rattle.c25_meaning_instructions.specs.Show.{long_text}
use Rattle.c25_layout.specs.SourceText.{load_text}
use Rattle.c25_layout.proofs.Joined.{five_joined}
use Rattle.c25_layout.proofs.texts.push_load.Goals as goal

pub returns : goal.returns
unfolding load_text
returns c =
    let address = c.args.address in
    five_joined c.push_text-3.result (string_bytes c.args.text.now) (string_bytes c.push_text.new.text) (string_bytes c.push_four.new.text) (string_bytes c.push_text-2.new.text)
    (string_bytes c.push_constant.new.text) (string_bytes c.push_text-3.new.text) (codes "  p") (four_digits address) (codes " : load = ") (long_text address) (codes " PAGE 0")
    c.in_ok-push_text.ensures c.in_ok-push_four.ensures c.in_ok-push_text-2.ensures c.in_ok-push_constant.ensures c.push_text-3.ensures
