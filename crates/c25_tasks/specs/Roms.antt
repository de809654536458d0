-- The EPROMs that `build --rom` writes: what is asked for, and what is reported where a word has no place in them.
use Rattle.std.specs.Prelude.{◌≡◌, ◌⊎◌, ℕ, Bool, true, false, List, [], ◌++◌, Option, Some, None, Result, Ok, Err, codes}
use Rattle.c25_explain.specs.Note.{IsNoteOf}
use Rattle.c25_explain.specs.declared.fault.AnyFault.TheVariants.{Rom}
use Rattle.c25_explain.specs.declared.note.Shown.TheVariants.{Nothing}
use Rattle.c25_meaning_common.specs.Digits.{hexadecimal_of}
use Rattle.c25_meaning_common.specs.Results.{◌>>=◌}
use Rattle.c25_report.specs.Ending.{IsShort}
use Rattle.c25_report.specs.declared.ending.Ending.{Ending}
use Rattle.c25_rom.specs.Files.{past_line}
use Rattle.c25_rom.specs.Shape.{shape_of}
use Rattle.c25_rom.specs.declared.fault.PastRom.{PastRom}
use Rattle.c25_rom.specs.declared.shape.RomShape.{RomShape}
use Rattle.c25_tasks.specs.Tells.{HasFault, IsMisuse}
use Rattle.c25_tasks.specs.declared.roms.RomAsked.{RomAsked}

-- ---- what is asked for

-- the line for an argument of `--rom` that is no size
abbrev pub no_size_line : List ℕ → List ℕ
no_size_line word = codes "c25: --rom " ++ word ++ codes " is no size, 1 to 10000 in hexadecimal"

-- the line for an argument of `--fill` that is no word
abbrev pub no_fill_line : List ℕ → List ℕ
no_fill_line word = codes "c25: --fill " ++ word ++ codes " is no word, 0 to FFFF in hexadecimal"

-- the line for `--fill` without `--rom`
abbrev pub fill_alone_line : List ℕ → List ℕ
fill_alone_line word = codes "c25: --fill " ++ word ++ codes " stands without --rom SIZE"

-- EPROMs of a shape that are filled with this word, where the argument of `--fill` is one
abbrev pub filled_with : RomShape → (argument : List ℕ) → Option ℕ → Result RomAsked (List ℕ)
filled_with shape argument None = Err (no_fill_line argument)
filled_with shape argument (Some fill) = Ok (record { shape = shape; fill = fill })

-- EPROMs of a shape, with FFFFh where the program has no word, as if erased, unless `--fill` gives another
abbrev pub filled : RomShape → (fill : Option (List ℕ)) → Result RomAsked (List ℕ)
filled shape None = Ok (record { shape = shape; fill = 0xFFFF })
filled shape (Some argument) = filled_with shape argument (hexadecimal_of 1 argument)

-- EPROMs of a shape, where the argument of `--rom` gives one
abbrev pub shaped : (argument : List ℕ) → (fill : Option (List ℕ)) → Option RomShape → Result RomAsked (List ℕ)
shaped argument fill None = Err (no_size_line argument)
shaped argument fill (Some shape) = filled shape fill

-- the EPROMs that the arguments of `--rom` and `--fill` ask for, if they do, or the line for what is wrong with these
abbrev pub rom_asked : (size fill : Option (List ℕ)) → Result (Option RomAsked) (List ℕ)
rom_asked None None = Ok None
rom_asked None (Some argument) = Err (fill_alone_line argument)
rom_asked (Some argument) fill = shaped argument fill (shape_of argument) >>= λ asked. Ok (Some asked)

-- an answer is what is meant, or the ending with the line for what is wrong
abbrev pub IsAsked : {A : Type 0} → Result A (List ℕ) → Result A Ending → Type 0
IsAsked (Ok meant) (Ok answer) = answer ≡ meant
IsAsked (Ok meant) (Err e) = ⊥
IsAsked (Err line) (Ok answer) = ⊥
IsAsked (Err line) (Err e) = IsMisuse line e

-- ---- a word that has no place

-- the note of the fault: its explanation where that is asked for, unless memory runs out
abbrev pub IsRomNote : (explain : Bool) → (note : List ℕ) → Type 0
IsRomNote false note = note ≡ []
IsRomNote true note = IsNoteOf Rom Nothing [] note ⊎ (note ≡ [])

-- the report of the fault (79), unless memory runs out
abbrev pub IsPastReport : (explain : Bool) → PastRom → Ending → (note : List ℕ) → Type 0
IsPastReport explain past e note = (HasFault (past_line past.address) e × IsRomNote explain note) ⊎ (IsShort e × (note ≡ []))
