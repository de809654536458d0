-- the operands so far, and those of the lines that are left, are those of all
use Rattle.std.proofs.Common.{◌≡◌, ◌++◌, drop}
use Rattle.std.specs.List.{flat_map}
use Rattle.c25_absolute_operands.specs.Operands.{line_operands}
use Rattle.c25_line_warnings.specs.View.{lines_of}
use Rattle.c25_absolute_operands.proofs.sources.push_lines.Given as goal

abbrev pub invariant-loop-line : goal.invariant-loop-line
invariant-loop-line l =
    (l.symbols.entries ≡ l.fn.symbols.entries)
    × (l.operands.items ++ flat_map (line_operands l.fn.symbols.entries l.number) (lines_of (drop l.line-index l.lines))
    ≡ l.fn.operands.items ++ flat_map (line_operands l.fn.symbols.entries l.number) (lines_of l.lines))
