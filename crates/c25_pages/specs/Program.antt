-- The statements of a program, as the code has them.
use Rattle.std.specs.Prelude.{◌≡◌, ℕ, ◌+◌, ◌&&◌, nat_le, Bool, true, List, [], ◌∷◌, map}
use Rattle.c25_meaning_processor.specs.Statements.{Statement, Copied, Statements}
use Rattle.c25_pages.specs.declared.program.PlainStatement.{PlainStatement}
use Rattle.c25_pages.specs.declared.program.CopiedStatement.{CopiedStatement}
use Rattle.c25_pages.specs.declared.program.Program.{Program}

-- a statement that runs where it stands
abbrev pub plain_of : PlainStatement → Statement
plain_of s = record { address = s.address; insn = s.insn }

-- a statement that runs in block B0
abbrev pub copied_of : CopiedStatement → Copied
copied_of s = record { load = s.load; run = s.run; insn = s.insn }

-- the statements of a program
abbrev pub statements_of : Program → Statements
statements_of p = record { plain = map plain_of p.plain.items; copied = map copied_of p.copied.items }

-- statements that run where they stand ascend by their addresses, the first of them from an address on
abbrev pub statements_ascend_from : ℕ → List PlainStatement → Bool
statements_ascend_from low [] = true
statements_ascend_from low (s ∷ ss) = nat_le low s.address && statements_ascend_from (s.address + 1) ss

-- the statements of a program that run where they stand ascend, so that each address has one at most
abbrev pub IsAscending : Program → Type 0
IsAscending program = statements_ascend_from 0 program.plain.items ≡ true
