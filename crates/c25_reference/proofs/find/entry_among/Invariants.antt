-- the name among the entries that are left is the name among all
use Rattle.std.proofs.Common.{◌≡◌, drop, map}
use Rattle.c25_reference.specs.Entries.{name_among}
use Rattle.c25_reference.proofs.find.entry_among.Given as goal

abbrev pub invariant-loop-entry : goal.invariant-loop-entry
invariant-loop-entry l = name_among l.word (map (λ e. e.name.now) (drop l.entry-index l.entries)) ≡ name_among l.word (map (λ e. e.name.now) l.entries)
