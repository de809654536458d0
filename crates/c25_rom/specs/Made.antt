-- A ROM that is made of a program: its files, and their lines.
use Rattle.std.specs.Prelude.{ℕ, List, Result, Ok, map}
use Rattle.std.specs.Ordering.{nat_cmp}
use Rattle.std.specs.String.{string_bytes}
use Rattle.std.specs.FinMap as words
use Rattle.c25_meaning_common.specs.Results.{◌>>=◌}
use Rattle.c25_rom.specs.Files.{files_of, lines_of}
use Rattle.c25_rom.specs.Rom.{rom_of}
use Rattle.c25_rom.specs.View.{contents_of}
use Rattle.c25_rom.specs.declared.fault.PastRom.{PastRom}
use Rattle.c25_rom.specs.declared.made.MadeRom.{MadeRom}
use Rattle.c25_rom.specs.declared.shape.RomShape.{RomShape}

-- files with their names, and the lines of these files
pub record Made : Type 0 where
  pub files : List (List ℕ × List ℕ)
  pub lines : List ℕ

-- files with their lines
abbrev pub with_lines : List (List ℕ × List ℕ) → Made
with_lines files = record { files = files; lines = lines_of files }

-- the ROM of a program, or the first word that has no place in it
abbrev pub made_of : (base : List ℕ) → RomShape → words.FinMap nat_cmp ℕ → (fill : ℕ) → Result Made PastRom
made_of base shape program fill = rom_of program shape.size fill >>= λ rom. Ok (with_lines (files_of base shape.devices rom))

-- what a made ROM stands for
abbrev pub made : MadeRom → Made
made rom = record { files = map contents_of rom.files.items; lines = string_bytes rom.lines }
