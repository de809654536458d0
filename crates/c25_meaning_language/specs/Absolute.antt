-- Values that must be absolute, as directives that take a plain number ask (SPRU018, expressions).
use Rattle.std.specs.Prelude.{ℤ, Result, Ok, Err}
use Rattle.c25_meaning_language.specs.declared.statement.FaultKind.{FaultKind}
use Rattle.c25_meaning_language.specs.declared.statement.FaultKind.TheVariants.{NotAbsolute}
use Rattle.c25_meaning_language.specs.declared.value.Base.{Base}
use Rattle.c25_meaning_language.specs.declared.value.Base.TheVariants.{Absolute}

-- the number, if its base is absolute; else NotAbsolute
abbrev pub number_by : Base → ℤ → Result ℤ FaultKind
number_by Absolute number = Ok number
number_by _ number = Err NotAbsolute
