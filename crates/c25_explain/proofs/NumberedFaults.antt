-- No two faults have one number, and each number is below 256.
use Rattle.std.proofs.Common.{◌≡◌, ◌==◌, ◌∙◌, ◌<◌, ℕ, ap, ltb-true, nat_lt, refl, sym, true}
use Rattle.std.specs.Prelude.{if◌then◌else◌}
use Rattle.c25_disk.specs.declared.fault.FileFault.{FileFault}
use Rattle.c25_disk.specs.declared.fault.FileFault.TheVariants as file
use Rattle.c25_hex.specs.declared.hex_fault.HexFault.{HexFault}
use Rattle.c25_hex.specs.declared.hex_fault.HexFault.TheVariants as hex
use Rattle.c25_meaning_language.specs.declared.statement.FaultKind.{FaultKind}
use Rattle.c25_meaning_language.specs.declared.statement.FaultKind.TheVariants as kind
use Rattle.c25_meaning_linking.specs.declared.command_fault.CommandFault.{CommandFault}
use Rattle.c25_meaning_linking.specs.declared.command_fault.CommandFault.TheVariants as command
use Rattle.c25_meaning_linking.specs.declared.link_fault.LinkFault.{LinkFault}
use Rattle.c25_meaning_linking.specs.declared.link_fault.LinkFault.TheVariants as link
use Rattle.c25_meaning_objects.specs.declared.object.ObjectFault.{ObjectFault}
use Rattle.c25_meaning_objects.specs.declared.object.ObjectFault.TheVariants as object
use Rattle.c25_explain.specs.Explanation.{number_of}
use Rattle.c25_explain.specs.declared.fault.AnyFault.{AnyFault}
use Rattle.c25_explain.specs.declared.fault.AnyFault.TheVariants.{Memory, Source, Object, Command, Link, Map, Rom, Hex, Schedule, Samples, Script, Hint, OddLength, LengthsDiffer, TooLong, TooManySections, File}

-- the fault of a number, and some fault where none has it
abbrev fault_at : ℕ → AnyFault
fault_at n =
    if n == 7 then File file.CannotWrite else
    if n == 8 then File file.CannotRead else
    if n == 9 then Memory else
    if n == 10 then Source kind.BadLabel else
    if n == 11 then Source kind.BadConstant else
    if n == 12 then Source kind.OpenQuote else
    if n == 13 then Source kind.StrayText else
    if n == 20 then Source kind.BadExpression else
    if n == 21 then Source kind.TooDeep else
    if n == 22 then Source kind.Undefined else
    if n == 23 then Source kind.NotAbsolute else
    if n == 24 then Source kind.DivideByZero else
    if n == 25 then Source kind.ValueRange else
    if n == 26 then Source kind.Defined else
    if n == 30 then Source kind.NoFile else
    if n == 31 then Source kind.OpenBlock else
    if n == 32 then Source kind.StrayEnd else
    if n == 33 then Source kind.Depth else
    if n == 34 then Source kind.Lines else
    if n == 35 then Source kind.TooManyParameters else
    if n == 36 then Source kind.Redefined else
    if n == 37 then File file.FileTwice else
    if n == 38 then Source kind.LongLine else
    if n == 40 then Object object.BadMagic else
    if n == 41 then Object object.BadVersion else
    if n == 42 then Object object.Short else
    if n == 43 then Object object.BadTag else
    if n == 44 then Object object.BadField else
    if n == 45 then Object object.Trailing else
    if n == 50 then Source kind.UnknownMnemonic else
    if n == 51 then Source kind.OperandCount else
    if n == 52 then Source kind.OperandForm else
    if n == 53 then Source kind.FieldRange else
    if n == 54 then Source kind.TooLarge else
    if n == 55 then Source kind.NotRelocatable else
    if n == 56 then Source kind.BadBlock else
    if n == 60 then Command command.Syntax else
    if n == 61 then Command command.RangeOverlap else
    if n == 62 then Command command.RangeSize else
    if n == 63 then Command command.Twice else
    if n == 70 then Link link.Unresolved else
    if n == 71 then Link link.DefinedTwice else
    if n == 72 then Link link.NoRange else
    if n == 73 then Link link.DoesNotFit else
    if n == 74 then Link link.Overlap else
    if n == 75 then Link link.RelocRange else
    if n == 76 then Link link.NoEntry else
    if n == 77 then Map else
    if n == 78 then Link link.BadRun else
    if n == 79 then Rom else
    if n == 80 then Hex hex.BadStart else
    if n == 81 then Hex hex.BadDigit else
    if n == 82 then Hex hex.BadCount else
    if n == 83 then Hex hex.BadSum else
    if n == 84 then Hex hex.BadKind else
    if n == 85 then Hex hex.OddWord else
    if n == 86 then Hex hex.Twice else
    if n == 87 then Hex hex.NoEnd else
    if n == 88 then Hex hex.AfterEnd else
    if n == 89 then Hex hex.AddressRange else
    if n == 90 then Schedule else
    if n == 91 then Samples else
    if n == 92 then Hint else
    if n == 93 then OddLength else
    if n == 94 then LengthsDiffer else
    if n == 95 then Script else
    if n == 96 then TooLong else
    if n == 97 then TooManySections else
    Memory

-- the number gives the fault back, and is small
abbrev IsNumbered : AnyFault → Type 0
IsNumbered f = (fault_at (number_of f) ≡ f) × (nat_lt (number_of f) 256 ≡ true)

of_file : (f : FileFault) → IsNumbered (File f)
of_file file.CannotWrite = (refl, refl)
of_file file.CannotRead = (refl, refl)
of_file file.FileTwice = (refl, refl)

of_source : (f : FaultKind) → IsNumbered (Source f)
of_source kind.BadLabel = (refl, refl)
of_source kind.BadConstant = (refl, refl)
of_source kind.OpenQuote = (refl, refl)
of_source kind.StrayText = (refl, refl)
of_source kind.BadExpression = (refl, refl)
of_source kind.TooDeep = (refl, refl)
of_source kind.Undefined = (refl, refl)
of_source kind.NotAbsolute = (refl, refl)
of_source kind.DivideByZero = (refl, refl)
of_source kind.ValueRange = (refl, refl)
of_source kind.Defined = (refl, refl)
of_source kind.NoFile = (refl, refl)
of_source kind.OpenBlock = (refl, refl)
of_source kind.StrayEnd = (refl, refl)
of_source kind.Depth = (refl, refl)
of_source kind.Lines = (refl, refl)
of_source kind.TooManyParameters = (refl, refl)
of_source kind.Redefined = (refl, refl)
of_source kind.LongLine = (refl, refl)
of_source kind.UnknownMnemonic = (refl, refl)
of_source kind.OperandCount = (refl, refl)
of_source kind.OperandForm = (refl, refl)
of_source kind.FieldRange = (refl, refl)
of_source kind.TooLarge = (refl, refl)
of_source kind.NotRelocatable = (refl, refl)
of_source kind.BadBlock = (refl, refl)

of_object : (f : ObjectFault) → IsNumbered (Object f)
of_object object.BadMagic = (refl, refl)
of_object object.BadVersion = (refl, refl)
of_object object.Short = (refl, refl)
of_object object.BadTag = (refl, refl)
of_object object.BadField = (refl, refl)
of_object object.Trailing = (refl, refl)

of_command : (f : CommandFault) → IsNumbered (Command f)
of_command command.Syntax = (refl, refl)
of_command command.RangeOverlap = (refl, refl)
of_command command.RangeSize = (refl, refl)
of_command command.Twice = (refl, refl)

of_link : (f : LinkFault) → IsNumbered (Link f)
of_link link.Unresolved = (refl, refl)
of_link link.DefinedTwice = (refl, refl)
of_link link.NoRange = (refl, refl)
of_link link.DoesNotFit = (refl, refl)
of_link link.Overlap = (refl, refl)
of_link link.RelocRange = (refl, refl)
of_link link.NoEntry = (refl, refl)
of_link link.BadRun = (refl, refl)

of_hex : (f : HexFault) → IsNumbered (Hex f)
of_hex hex.BadStart = (refl, refl)
of_hex hex.BadDigit = (refl, refl)
of_hex hex.BadCount = (refl, refl)
of_hex hex.BadSum = (refl, refl)
of_hex hex.BadKind = (refl, refl)
of_hex hex.OddWord = (refl, refl)
of_hex hex.Twice = (refl, refl)
of_hex hex.NoEnd = (refl, refl)
of_hex hex.AfterEnd = (refl, refl)
of_hex hex.AddressRange = (refl, refl)

numbered : (f : AnyFault) → IsNumbered f
numbered (File f) = of_file f
numbered Memory = (refl, refl)
numbered (Source f) = of_source f
numbered (Object f) = of_object f
numbered (Command f) = of_command f
numbered (Link f) = of_link f
numbered Map = (refl, refl)
numbered Rom = (refl, refl)
numbered (Hex f) = of_hex f
numbered Schedule = (refl, refl)
numbered Samples = (refl, refl)
numbered Script = (refl, refl)
numbered Hint = (refl, refl)
numbered OddLength = (refl, refl)
numbered LengthsDiffer = (refl, refl)
numbered TooLong = (refl, refl)
numbered TooManySections = (refl, refl)

pub same_fault : (f g : AnyFault) → number_of f ≡ number_of g → f ≡ g
same_fault f g e = sym (numbered f).0 ∙ ap fault_at e ∙ (numbered g).0

pub number_small : (f : AnyFault) → number_of f < 256
number_small f = ltb-true (number_of f) 256 (numbered f).1
