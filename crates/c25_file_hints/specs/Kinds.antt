-- What a file may be that is no object of this assembler, by its bytes (TI's COFF begins with its version, 00C1h
-- or 00C2h, or with the number of the target, 0092h, low byte first).
use Rattle.std.specs.Prelude.{ℕ, Bool, ◌==◌, ◌||◌, ◌&&◌, not, List, codes, length, nat_le, slice_index, if◌then◌else◌}
use Rattle.std.specs.List.{list_all}
use Rattle.c25_meaning_common.specs.Bytes.{is_digit, is_space}
use Rattle.c25_file_hints.specs.declared.kind.FileKind.{FileKind}
use Rattle.c25_file_hints.specs.declared.kind.FileKind.TheVariants as kind

-- whether a file begins as S-records do: `S` and a digit
abbrev pub begins_s_records : List ℕ → Bool
begins_s_records bytes = slice_index bytes 0 == 83 && is_digit (slice_index bytes 1)

-- whether a byte is the low byte of a number with which COFF begins
abbrev pub is_coff_byte : ℕ → Bool
is_coff_byte b = b == 193 || b == 194 || b == 146

-- whether a file begins as COFF does
abbrev pub begins_coff : List ℕ → Bool
begins_coff bytes = is_coff_byte (slice_index bytes 0) && slice_index bytes 1 == 0 && nat_le 2 (length bytes)

-- a byte of a text: no control character but tab, LF, CR, and 1Ah at an old text's end
abbrev pub is_text_byte : ℕ → Bool
is_text_byte b = (nat_le 32 b && not (b == 127)) || is_space b || b == 26

-- what a file may be
abbrev pub kind_of : List ℕ → FileKind
kind_of bytes =
    if length bytes == 0 then kind.Empty
    else (if slice_index bytes 0 == 58 then kind.IntelHex
    else (if begins_s_records bytes then kind.SRecords
    else (if begins_coff bytes then kind.Coff
    else (if list_all is_text_byte bytes then kind.Text
    else kind.Binary))))

-- what it is, and what to do
abbrev pub kind_text : FileKind → List ℕ
kind_text kind.Empty = codes "the file is empty"
kind_text kind.IntelHex = codes "it begins as an Intel hex text, which c25 dis reads"
kind_text kind.SRecords = codes "it begins as Motorola S-records: srec_cat X.s19 -Motorola -o X.hex -Intel makes a hex text for c25 dis"
kind_text kind.Coff = codes "it begins as an object of TI's tools (COFF): assemble its source"
kind_text kind.Text = codes "it is a text: of a source c25 asm makes an object"
kind_text kind.Binary = codes "it is neither an object nor a text: c25 dis --source --binary X.bin --out X makes a source of its words"
