-- the first operand among the words that are left is that among all
use Rattle.std.proofs.Common.{◌≡◌, false, drop, map, string_bytes}
use Rattle.c25_options.specs.LinkTips.{operand_in}
use Rattle.c25_options.proofs.link_tips.operand_in.Given as goal

abbrev pub invariant-loop-at : goal.invariant-loop-at
invariant-loop-at l = operand_in l.is_value (map string_bytes (drop l.at l.words)) ≡ operand_in false (map string_bytes l.words)
