-- The files of a ROM, and the lines that say of each what a programmer of EPROMs shows (this project's own).
use Rattle.std.specs.Prelude.{ℕ, List, [], ◌∷◌, ◌++◌, codes, length, nat_lt, if◌then◌else◌}
use Rattle.std.specs.Fmt.{decimal}
use Rattle.std.specs.List.{flat_map}
use Rattle.c25_meaning_common.specs.Digits.{four_digits}
use Rattle.c25_meaning_linking.specs.MapText.{five_digits, eight_digits, map_line}
use Rattle.c25_rom.specs.Bytes.{high_bytes, low_bytes, file_bytes}
use Rattle.c25_rom.specs.Checks.{sum_of, crc32}
use Rattle.c25_rom.specs.declared.shape.Devices.{Devices}
use Rattle.c25_rom.specs.declared.shape.Devices.TheVariants.{Pair, File}

-- ---- files

-- the files of the words of a ROM, with their names: of two devices that with the high bytes first
abbrev pub files_of : (base : List ℕ) → Devices → List ℕ → List (List ℕ × List ℕ)
files_of base Pair words = (base ++ codes ".hi.bin", high_bytes words) ∷ (base ++ codes ".lo.bin", low_bytes words) ∷ []
files_of base (File order) words = (base ++ codes ".bin", file_bytes order words) ∷ []

-- ---- lines

-- a number in five decimal digits, or in more where it has more
abbrev pub count_digits : ℕ → List ℕ
count_digits n = if nat_lt n 100000 then five_digits n else decimal n

-- the sum and the CRC-32 of bytes
unfoldable pub checks_text : List ℕ → List ℕ
checks_text bytes = codes " bytes sum " ++ four_digits (sum_of bytes) ++ codes " crc32 " ++ eight_digits (crc32 bytes)

-- the line of a file: its name, how many bytes it has, their sum and their CRC-32
abbrev pub file_line : List ℕ × List ℕ → List ℕ
file_line file = map_line (file.0 ++ codes " " ++ count_digits (length file.1) ++ checks_text file.1)

-- the lines of files
abbrev pub lines_of : List (List ℕ × List ℕ) → List ℕ
lines_of files = flat_map file_line files

-- ---- the fault

-- the line of a word that has no place in the ROM
abbrev pub past_line : ℕ → List ℕ
past_line address = codes "rom:" ++ four_digits address ++ codes ": 79 PastRom"
