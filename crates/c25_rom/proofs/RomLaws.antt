-- The words and the bytes of ROMs by their addresses.
use Rattle.std.proofs.Common.{◌≡◌, ℕ, ◌<◌, ◌≤◌, List, Option, Some, None, Result, Ok, Err, length, map, get_or, refl, sym, ap, subst, ◌∙◌, arith}
use Rattle.std.specs.Prelude.{unwrap_or, slice_get}
use Rattle.std.specs.List.{range_with_len}
use Rattle.std.specs.Ordering.{nat_cmp}
use Rattle.std.specs.FinMap as words
use Rattle.std.specs.FinMap.Entries as entries
use Rattle.std.proofs.lemmas.List.{get_or-map, length-map}
use Rattle.std.proofs.lemmas.List.FromFn.{get_or-map-range_with_len, length-map-range_with_len}
use Rattle.std.proofs.lemmas.Option.{slice_get-get_or}
use Rattle.c25_rom.specs.Bytes.{high, low, high_bytes, low_bytes, pair_words}
use Rattle.c25_rom.specs.Rom.{word_at, rom_words, first_past, unless_past, rom_of}
use Rattle.c25_rom.specs.declared.fault.PastRom.{PastRom}
use Rattle.c25_rom.proofs.ByteLaws.{pair_back}
use Rattle.c25_rom.proofs.Entries.{found_within, past_found}

pub sized : (program : words.FinMap nat_cmp ℕ) (size fill : ℕ) (half : ℕ → ℕ) → length (map half (rom_words program size fill)) ≡ size
sized program size fill half = length-map (rom_words program size fill) half ∙ length-map-range_with_len (word_at program fill) 0 size

-- the word of a ROM at an address
word_there : (program : words.FinMap nat_cmp ℕ) (size fill address : ℕ) → address < size → get_or (rom_words program size fill) address 0 ≡ word_at program fill address
word_there program size fill address below = get_or-map-range_with_len (word_at program fill) 0 size address address 0 below (omega arith)

inside : (program : words.FinMap nat_cmp ℕ) (size fill address : ℕ) → address < size → address < length (rom_words program size fill)
inside program size fill address below = omega (arith, length-map-range_with_len (word_at program fill) 0 size)

pub half_there : (program : words.FinMap nat_cmp ℕ) (size fill address : ℕ) (half : ℕ → ℕ) → address < size → get_or (map half (rom_words program size fill)) address 0 ≡ half (word_at program fill address)
half_there program size fill address half below =
    get_or-map half (rom_words program size fill) address 0 0 (inside program size fill address below) ∙ ap half (word_there program size fill address below)

-- a ROM has its words, and no word of the program is past it
in_rom : (program : words.FinMap nat_cmp ℕ) (size fill : ℕ) (rom : List ℕ) (past : Option ℕ) → past ≡ first_past program size → unless_past past (rom_words program size fill) ≡ Ok rom → (rom_words program size fill ≡ rom) × (first_past program size ≡ None)
in_rom program size fill rom None is made = (cc made, sym is)
in_rom program size fill rom (Some address) is made = cc made

-- a ROM has this word at an address
at_address : (program : words.FinMap nat_cmp ℕ) (size fill address word : ℕ) (rom : List ℕ) → rom_of program size fill ≡ Ok rom → address < size → word_at program fill address ≡ word → slice_get rom address ≡ Some word
at_address program size fill address word rom made below is =
    let known = in_rom program size fill rom (first_past program size) refl made in
    ap (λ (ws : List ℕ). slice_get ws address) (sym known.0) ∙ slice_get-get_or (rom_words program size fill) address 0 (inside program size fill address below)
    ∙ ap Some (word_there program size fill address below ∙ is)

pub has_word : (program : words.FinMap nat_cmp ℕ) (size fill address word : ℕ) (rom : List ℕ) → rom_of program size fill ≡ Ok rom → words.get program address ≡ Some word → slice_get rom address ≡ Some word
has_word program size fill address word rom made is =
    let known = in_rom program size fill rom (first_past program size) refl made in
    at_address program size fill address word rom made
    (found_within size (words.entries program) address word known.1 (sym (words.get-entries program address) ∙ is))
    (ap (λ (o : Option ℕ). unwrap_or o fill) is)

pub has_fill : (program : words.FinMap nat_cmp ℕ) (size fill address : ℕ) (rom : List ℕ) → rom_of program size fill ≡ Ok rom → address < size → words.get program address ≡ None → slice_get rom address ≡ Some fill
has_fill program size fill address rom made below is = at_address program size fill address fill rom made below (ap (λ (o : Option ℕ). unwrap_or o fill) is)

pub reads_word : (program : words.FinMap nat_cmp ℕ) (size fill address word : ℕ) (rom : List ℕ) → rom_of program size fill ≡ Ok rom → words.get program address ≡ Some word → slice_get (pair_words (high_bytes rom) (low_bytes rom)) address ≡ Some word
reads_word program size fill address word rom made is = ap (λ (ws : List ℕ). slice_get ws address) (pair_back rom) ∙ has_word program size fill address word rom made is

refused : (program : words.FinMap nat_cmp ℕ) (size : ℕ) (rom : List ℕ) (fault : PastRom) (past : Option ℕ) → past ≡ first_past program size → unless_past past rom ≡ Err fault → first_past program size ≡ Some fault.address
refused program size rom fault None is made = cc made
refused program size rom fault (Some address) is made = sym is ∙ ap Some (cc made)

pub is_past : (program : words.FinMap nat_cmp ℕ) (size fill : ℕ) (fault : PastRom) → rom_of program size fill ≡ Err fault → (size ≤ fault.address) × ((word : ℕ) × (words.get program fault.address ≡ Some word))
is_past program size fill fault made =
    let found = past_found size (words.entries program) fault.address (refused program size (rom_words program size fill) fault (first_past program size) refl made) in
    (found.0, (found.1.0, words.get-entries program fault.address ∙ found.1.1))
