-- The lines that the assembler's types stand for.
use denote.Ref.{Bor}
use Rattle.std.specs.Prelude.{ℕ, List}
use Rattle.c25_meaning_common.specs.declared.placed.FileLine.{FileLine}

-- a line of a file, as the definitions have it
abbrev pub origin_of : FileLine (Bor (List ℕ)) → FileLine (List ℕ)
origin_of o = record { file = o.file.now; line = o.line }
