-- The words that EPROMs of a program hold, from address 0 of program memory on (SPRU014, "Memory Organization").
use Rattle.std.specs.Prelude.{ℕ, List, map, find, nat_le, Option, Some, None, unwrap_or, Result, Ok, Err}
use Rattle.std.specs.List.{range_with_len}
use Rattle.std.specs.Ordering.{nat_cmp}
use Rattle.std.specs.FinMap as words
use Rattle.c25_rom.specs.declared.fault.PastRom.{PastRom}

-- the word of a ROM at an address: the program's, or the fill where the program has none
abbrev pub word_at : words.FinMap nat_cmp ℕ → (fill address : ℕ) → ℕ
word_at program fill address = unwrap_or (words.get program address) fill

-- the words of a ROM of so many words, in the order of their addresses
abbrev pub rom_words : words.FinMap nat_cmp ℕ → (size fill : ℕ) → List ℕ
rom_words program size fill = map (word_at program fill) (range_with_len 0 size)

-- the lowest address of a word of the program that a ROM of so many words has no place for
abbrev pub first_past : words.FinMap nat_cmp ℕ → (size : ℕ) → Option ℕ
first_past program size = find (λ address. nat_le size address) (words.keys program)

-- a ROM, unless a word has no place in it
abbrev pub unless_past : Option ℕ → List ℕ → Result (List ℕ) PastRom
unless_past None rom = Ok rom
unless_past (Some address) rom = Err (record { address = address })

-- the words of the ROM of a program, or the first word that has no place in it
abbrev pub rom_of : words.FinMap nat_cmp ℕ → (size fill : ℕ) → Result (List ℕ) PastRom
rom_of program size fill = unless_past (first_past program size) (rom_words program size fill)
