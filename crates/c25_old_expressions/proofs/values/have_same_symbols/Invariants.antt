-- the symbols so far are the same
use Rattle.std.proofs.Common.{◌≡◌, map, string_bytes, take, length}
use Rattle.c25_old_expressions.specs.Labels.{renamed_symbol}
use Rattle.c25_old_expressions.specs.Marks.{sym_of}
use Rattle.c25_old_expressions.proofs.values.have_same_symbols.Given as goal

abbrev pub invariant-loop-place : goal.invariant-loop-place
invariant-loop-place l = (map (renamed_symbol (map string_bytes l.labels)) (map sym_of (take l.place l.one)) ≡ map sym_of (take l.place l.other)) × (length l.one ≡ length l.other)
