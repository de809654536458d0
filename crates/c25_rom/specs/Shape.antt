-- What is asked for where a ROM is to be written: its devices and its words (this project's own).
use Rattle.std.specs.Prelude.{ℕ, ◌&&◌, List, codes, drop, Option, Some, None, option_map, nat_eq, nat_le, if◌then◌else◌}
use Rattle.std.specs.List.{starts_with}
use Rattle.c25_meaning_common.specs.Digits.{are_digits, value_in}
use Rattle.c25_rom.specs.declared.byte_order.ByteOrder.TheVariants.{HighFirst, LowFirst}
use Rattle.c25_rom.specs.declared.shape.Devices.{Devices}
use Rattle.c25_rom.specs.declared.shape.Devices.TheVariants.{Pair, File}
use Rattle.c25_rom.specs.declared.shape.RomShape.{RomShape}

-- how many words hexadecimal digits say: from 1 to 65,536
abbrev pub size_of : List ℕ → Option ℕ
size_of digits = if are_digits 16 digits && nat_le 1 (value_in 16 digits) && nat_le (value_in 16 digits) 65536 then Some (value_in 16 digits) else None

-- a ROM of these devices, of as many words as digits say
abbrev pub shape_with : Devices → List ℕ → Option RomShape
shape_with devices digits = option_map (λ size. record { devices = devices; size = size }) (size_of digits)

-- the ROM that a text asks for: `4000` two devices of 4000h bytes, `16:4000` one file of 4000h words with the high byte of
-- each first, `16low:4000` one with the low byte first
abbrev pub shape_of : List ℕ → Option RomShape
shape_of text =
    if starts_with nat_eq text (codes "16:") then shape_with (File HighFirst) (drop 3 text)
    else (if starts_with nat_eq text (codes "16low:") then shape_with (File LowFirst) (drop 6 text)
    else shape_with Pair text)
