use Rattle.std.proofs.Common.{◌∙◌, string_bytes}
use Rattle.c25_meaning_common.specs.Digits.{four_digits}
use Rattle.c25_move_files.specs.Notes.{at_page_text}
use Rattle.c25_move_files.proofs.AddressText.{two_pieces}
use Rattle.c25_move_files.proofs.rows.push_at_page.Goals as goal

pub returns : goal.returns
returns c =
    two_pieces (string_bytes c.args.text.now) (string_bytes c.push_two.new.text) c.at_page_text.result.now c.as_str.result.now at_page_text (four_digits c.args.address) c.push_two.result
    c.push_two.ensures c.at_page_text.ensures (c.as_str.ensures.value ∙ c.four.ensures)
