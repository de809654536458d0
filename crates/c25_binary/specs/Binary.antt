-- The words of binary files (this project's own): the word at each address from 0 on has two bytes, in one file or in two.
use Rattle.std.specs.Prelude.{ℕ, ◌+◌, ◌%◌, ◌==◌, not, nat_lt, List, [], ◌∷◌, length, codes, Result, Ok, Err, if◌then◌else◌}
use Rattle.std.specs.FinMap as finite
use Rattle.std.specs.Ordering.{nat_cmp}
use Rattle.c25_binary.specs.declared.binary_fault.BinaryFault.{BinaryFault}
use Rattle.c25_binary.specs.declared.binary_fault.BinaryFault.TheVariants.{LengthsDiffer, OddLength, TooLong}
use Rattle.c25_meaning_image.specs.WordMap.{put_all}
use Rattle.c25_rom.specs.Bytes.{file_words, pair_words}
use Rattle.c25_rom.specs.declared.byte_order.ByteOrder.{ByteOrder}

-- words with their addresses, from one on
abbrev pub entries_from : ℕ → List ℕ → List (ℕ × ℕ)
entries_from address [] = []
entries_from address (word ∷ words) = (address, word) ∷ entries_from (address + 1) words

-- the map of words from address 0 on
abbrev pub at_zero : List ℕ → finite.FinMap nat_cmp ℕ
at_zero words = put_all (entries_from 0 words)

-- the words of a pair of files, or what is wrong with it
abbrev pub words_of_pair : (high low : List ℕ) → Result (finite.FinMap nat_cmp ℕ) BinaryFault
words_of_pair high low =
    if not (length high == length low) then Err LengthsDiffer
    else (if nat_lt 65536 (length high) then Err TooLong
    else Ok (at_zero (pair_words high low)))

-- the words of one file, or what is wrong with it
abbrev pub words_of_file : ByteOrder → List ℕ → Result (finite.FinMap nat_cmp ℕ) BinaryFault
words_of_file order bytes =
    if length bytes % 2 == 1 then Err OddLength
    else (if nat_lt 131072 (length bytes) then Err TooLong
    else Ok (at_zero (file_words order bytes)))

-- the names of the faults
abbrev pub binary_name : BinaryFault → List ℕ
binary_name LengthsDiffer = codes "LengthsDiffer"
binary_name OddLength = codes "OddLength"
binary_name TooLong = codes "TooLong"
