use Rattle.std.proofs.Common.{string_bytes}
use Rattle.std.specs.Prelude.{codes}
use Rattle.c25_meaning_instructions.specs.Show.{long_text}
use Rattle.c25_layout.specs.SourceText.{run_at_text}
use Rattle.c25_layout.proofs.Joined.{two_joined}
use Rattle.c25_layout.proofs.texts.push_run_at.Goals as goal

pub returns : goal.returns
unfolding run_at_text
returns c =
    two_joined c.push_constant.result (string_bytes c.args.text.now) (string_bytes c.push_text.new.text) (string_bytes c.push_constant.new.text)
    (codes ", run = ") (long_text c.args.run) c.in_ok-push_text.ensures c.push_constant.ensures
