-- some row that is left has the word where any has
use Rattle.std.proofs.Common.{◌≡◌, drop}
use Rattle.c25_hints.specs.Tables.{is_without_dot, rows_of}
use Rattle.c25_hints.proofs.tables.any_without_dot.Given as goal

abbrev pub invariant-loop-name : goal.invariant-loop-name
invariant-loop-name l = is_without_dot (rows_of (drop l.name-index l.rows)) l.operands l.word ≡ is_without_dot (rows_of l.rows) l.operands l.word
