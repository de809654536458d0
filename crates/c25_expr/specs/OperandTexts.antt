-- What the answer of a function that reads a text from an operand stands for.
use Rattle.std.specs.Prelude.{ℕ, List, Result, Ok, Err}
use denote.Ref.{Bor}
use Rattle.c25_meaning_language.specs.declared.statement.FaultKind.{FaultKind}

-- the text that was read, or what is wrong with the operand
abbrev pub text_of : Result (Bor (List ℕ)) FaultKind → Result (List ℕ) FaultKind
text_of (Ok t) = Ok t.now
text_of (Err f) = Err f
