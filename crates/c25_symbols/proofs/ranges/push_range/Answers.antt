use Rattle.std.proofs.Common.{◌++◌, List, ℕ, ap, ◌∙◌, string_bytes}
use Rattle.std.specs.Fmt.{decimal}
use Rattle.std.specs.Prelude.{codes}
use Rattle.c25_meaning_common.specs.Digits.{four_digits}
use Rattle.c25_symbols.specs.Text.{range_line, word_counts}
use Rattle.c25_symbols.specs.Used.{used_in}
use Rattle.c25_symbols.specs.View.{range_view}
use Rattle.c25_symbols.proofs.Joined.{line_told}
use Rattle.c25_symbols.proofs.ranges.push_range.Goals as goal

pub returns : goal.returns
unfolding range_line
returns c = λ places knows.
    let range = c.args.range.now in
    line_told c.push_name.result (string_bytes c.args.out.now) (string_bytes c.write.new.self) (string_bytes c.push_four.new.text) (string_bytes c.push_str.new.self) (string_bytes c.push_counts.new.out)
    (string_bytes c.push_name.new.text) (codes "RANGE " ++ decimal range.page ++ codes " ") (four_digits range.origin) (word_counts range.size (used_in places (range_view range))) range.name.now
    c.in_ok-write.ensures.bytes c.in_ok-push_four.ensures c.in_ok-push_str.ensures.bytes
    (c.in_ok-push_counts.ensures ∙ ap (λ (n : ℕ). string_bytes c.push_str.new.self ++ word_counts range.size n) (c.count-count.ensures.count places knows)) c.push_name.ensures
