use Rattle.std.proofs.Common.{string_bytes}
use Rattle.std.specs.Prelude.{codes}
use Rattle.c25_meaning_common.specs.Digits.{four_digits}
use Rattle.c25_layout.specs.SourceText.{section_text}
use Rattle.c25_layout.proofs.Joined.{three_joined}
use Rattle.c25_layout.proofs.texts.push_section.Goals as goal

pub returns : goal.returns
unfolding section_text
returns c =
    three_joined c.push_text-2.result (string_bytes c.args.text.now) (string_bytes c.push_text.new.text) (string_bytes c.push_four.new.text) (string_bytes c.push_text-2.new.text)
    (codes "\t.sect \"p") (four_digits c.args.address) (codes "\"\n") c.in_ok-push_text.ensures c.in_ok-push_four.ensures c.push_text-2.ensures
