-- Which numbers fit the fields of instructions and data (SPRU014, instruction set).
use Rattle.std.specs.Prelude.{ℕ, ◌^◌, ◌<◌, pos, negsuc, ◌≤ℤ◌}
use Rattle.std.specs.Int.{w16, cast_signed}
use Rattle.c25_meaning_language.specs.declared.statement.Field.{Field}
use Rattle.c25_meaning_language.specs.declared.statement.Field.TheVariants as field

-- a number fits a field; the factor of MPYK is the number taken as 16 signed bits
abbrev pub Holds : Field → ℕ → Type 0
Holds field.Low7 n = n < 2 ^ 7
Holds field.Page9 n = n < 512
Holds field.Word16 n = n < 2 ^ 16
Holds (field.Number limit) n = n < limit
Holds field.Signed13 n = (negsuc 4095 ≤ℤ cast_signed w16 n) × (cast_signed w16 n ≤ℤ pos 4095)
Holds field.Word n = n < 2 ^ 16
Holds field.Byte n = n < 2 ^ 8
