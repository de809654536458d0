-- the text that the rows that are left have is that of all
use Rattle.std.proofs.Common.{◌≡◌, drop}
use Rattle.c25_hints.specs.Tables.{rows_of, text_in}
use Rattle.c25_hints.proofs.tables.text_in.Given as goal

abbrev pub invariant-loop-name : goal.invariant-loop-name
invariant-loop-name l = text_in (rows_of (drop l.name-index l.rows)) l.word ≡ text_in (rows_of l.rows) l.word
