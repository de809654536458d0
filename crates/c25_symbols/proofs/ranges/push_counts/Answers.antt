use Rattle.std.proofs.Common.{string_bytes}
use Rattle.c25_symbols.specs.Text.{word_counts}
use Rattle.c25_symbols.proofs.Joined.{counts_told}
use Rattle.c25_symbols.proofs.ranges.push_counts.Goals as goal

pub returns : goal.returns
unfolding word_counts
returns c =
    counts_told c.push_count-2.result (string_bytes c.args.out.now) (string_bytes c.push_five.new.text) (string_bytes c.push_count.new.text) (string_bytes c.push_count-2.new.text) _ _ _
    c.in_ok-push_five.ensures c.in_ok-push_count.ensures c.push_count-2.ensures
