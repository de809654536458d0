-- Why a line at the prompt is invalid, in words (this project's own).
use Rattle.std.specs.Prelude.{ℕ, List, ◌++◌, codes}
use Rattle.c25_prompt_lines.specs.declared.command.Wrong.{Wrong}
use Rattle.c25_prompt_lines.specs.declared.command.Wrong.TheVariants as w

-- why a line is invalid, in words
abbrev pub wrong_text : Wrong → List ℕ
wrong_text w.NoCommand = codes "no command has this name: `help` shows those that there are"
wrong_text w.Operands = codes "this command has other operands: `help` shows them"
wrong_text w.Count = codes "a count is a decimal number, at most 4294967295"
wrong_text w.NoName = codes "the program has no symbol of this name"
wrong_text w.SeveralNames = codes "several sources have a symbol of this name: write SOURCE:NAME"
wrong_text w.NoLine = codes "no instruction begins at this line"
wrong_text w.TooFar = codes "an address is at most FFFF"
wrong_text w.Outside = codes "the memory ends before the last of these words"
wrong_text w.NoExpression = codes "this is neither an address nor an expression"
wrong_text w.NoNameInside = codes "a name in this expression has no address, or one in several sources"
wrong_text w.DivideByZero = codes "this expression divides by 0"
wrong_text w.TooLarge = codes "a value has 16 bits, 32 on the way to it, and a shift count is at most 31"
wrong_text w.NoBreakpoint = codes "no breakpoint is set at this address"

-- the line that says why a line is invalid, or its command is refused
abbrev pub wrong_line : Wrong → List ℕ
wrong_line wrong = codes "? " ++ wrong_text wrong ++ codes "\n"
