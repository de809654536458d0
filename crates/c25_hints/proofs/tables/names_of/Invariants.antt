-- the names so far, with those of the rows that are left, are those of all
use Rattle.std.proofs.Common.{◌≡◌, ◌++◌, drop, map}
use Rattle.c25_hints.specs.Tables.{rows_of}
use Rattle.c25_hints.proofs.tables.names_of.Given as goal

abbrev pub invariant-loop-name : goal.invariant-loop-name
invariant-loop-name l = map (λ n. n.now) l.names.items ++ map (λ r. r.0) (rows_of (drop l.name-index l.rows)) ≡ map (λ r. r.0) (rows_of l.rows)
