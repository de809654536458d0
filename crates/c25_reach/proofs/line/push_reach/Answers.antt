use Rattle.std.proofs.Common.{codes, string_bytes}
use Rattle.c25_layout.proofs.Joined.{three_joined}
use Rattle.c25_reach.specs.ReachLine.{counted, reach_text}
use Rattle.c25_reach.proofs.line.push_reach.Goals as goal

pub returns : goal.returns
unfolding reach_text
returns c =
    let reach = c.args.reach.now in
    three_joined c.push_counted-3.result (string_bytes c.args.text.now) (string_bytes c.push_counted.new.text) (string_bytes c.push_counted-2.new.text) (string_bytes c.push_counted-3.new.text)
    (counted reach.instructions (codes " instructions (")) (counted reach.instruction_words (codes " words), ")) (counted reach.data_words (codes " data, "))
    c.in_ok-push_counted.ensures c.in_ok-push_counted-2.ensures c.push_counted-3.ensures
