use Rattle.std.proofs.Common.{◌∙◌, sym, drop}
use Rattle.c25_file_hints.proofs.Places.{found_here}
use Rattle.c25_file_hints.proofs.command_files.place_of.Goals as goal

pub returns-then-is_place-clause-value : goal.returns-then-is_place-clause-value
returns-then-is_place-clause-value c =
    sym (found_here c.args.wanted_line c.args.wanted_column c.loop-at.at c.loop-at.line c.loop-at.column (drop c.loop-at.at c.args.text.now) (sym c.is_place.ensures ∙ c.if-is_place.true))
    ∙ c.loop-at.invariant.same
