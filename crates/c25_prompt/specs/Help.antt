-- The text that shows the commands (this project's own).
use Rattle.std.specs.Prelude.{ℕ, List, codes}

-- the commands with their operands, and how operands are written
unfoldable pub help_text : List ℕ
help_text = codes "step N, run N, next [N], over [N], finish, until A [N], back N, rback, restart; break A, tbreak A, clear A, ignore [A N], hits A; watch A, unwatch A; regs, stack, where, list [A] N, symbols, data A N, prog A N, print V, print *V, display [V], display [*V], undisplay [N], line, outputs [N], inputs, trace [N]; help, quit\nA is a number of one to four hexadecimal digits, NAME, SOURCE:NAME or FILE:LINE, the last three also with +WORDS; V is A, or an expression of the assembler, with names, and $ for PC; N is a decimal number.\n"
