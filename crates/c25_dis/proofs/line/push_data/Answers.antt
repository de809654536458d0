use Rattle.std.proofs.Common.{codes, string_bytes}
use Rattle.c25_meaning_instructions.specs.Show.{long_text}
use Rattle.c25_dis.specs.Lines.{further_text}
use Rattle.c25_dis.proofs.Passed.{three_behind}
use Rattle.c25_dis.proofs.line.push_data.Goals as goal

pub returns : goal.returns
returns c =
    three_behind (string_bytes c.args.text.now) (codes ".word ") (long_text c.args.first) (further_text c.args.second) (string_bytes c.push_text.new.text) (string_bytes c.push_constant.new.text)
    (string_bytes c.push_further.new.text) c.in_ok-push_text.ensures c.in_ok-push_constant.ensures c.in_ok-push_further.ensures
