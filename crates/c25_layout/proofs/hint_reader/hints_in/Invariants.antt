-- what is still read completes what was read
use Rattle.std.proofs.Common.{◌≡◌, ◌+◌, map, drop, []}
use Rattle.c25_layout.specs.Hints.{hint_data, hint_of, without_comment}
use Rattle.c25_meaning_common.specs.Items.{items}
use Rattle.c25_layout.proofs.hint_reader.hints_in.Given as goal

abbrev pub invariant-loop-index : goal.invariant-loop-index
invariant-loop-index l =
    items hint_of (map hint_data l.hints.items) (l.index + 1) (drop l.index (map (λ s. without_comment s.now) l.lines)) ≡ items hint_of [] 1 (map (λ s. without_comment s.now) l.lines)
