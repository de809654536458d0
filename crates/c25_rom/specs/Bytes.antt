-- The bytes of words, as devices of 8 bits and files have them, and the words of bytes.
use Rattle.std.specs.Prelude.{ℕ, ◌+◌, ◌*◌, ◌/◌, ◌%◌, List, [], ◌∷◌, map, zip}
use Rattle.std.specs.List.{flat_map}
use Rattle.c25_rom.specs.declared.byte_order.ByteOrder.{ByteOrder}
use Rattle.c25_rom.specs.declared.byte_order.ByteOrder.TheVariants.{HighFirst, LowFirst}

-- the high byte of a word
abbrev pub high : ℕ → ℕ
high word = word / 256

-- the low byte of a word
abbrev pub low : ℕ → ℕ
low word = word % 256

-- the word of two bytes
abbrev pub word_of : (high low : ℕ) → ℕ
word_of h l = 256 * h + l

-- ---- two devices: the address of a byte is that of its word

-- the device with the high bytes
abbrev pub high_bytes : List ℕ → List ℕ
high_bytes words = map high words

-- the device with the low bytes
abbrev pub low_bytes : List ℕ → List ℕ
low_bytes words = map low words

-- the words of two devices
abbrev pub pair_words : (high low : List ℕ) → List ℕ
pair_words highs lows = map (λ bytes. word_of bytes.0 bytes.1) (zip highs lows)

-- ---- one file: both bytes of a word, one after the other

-- the bytes of a word in an order
abbrev pub bytes_in : ByteOrder → ℕ → List ℕ
bytes_in HighFirst word = high word ∷ low word ∷ []
bytes_in LowFirst word = low word ∷ high word ∷ []

-- the bytes of words in an order
abbrev pub file_bytes : ByteOrder → List ℕ → List ℕ
file_bytes order words = flat_map (bytes_in order) words

-- the word of two bytes in an order
abbrev pub word_in : ByteOrder → (first second : ℕ) → ℕ
word_in HighFirst first second = word_of first second
word_in LowFirst first second = word_of second first

-- the words of bytes in an order; a last byte without another one is left out
abbrev pub file_words : ByteOrder → List ℕ → List ℕ
file_words order [] = []
file_words order (first ∷ []) = []
file_words order (first ∷ second ∷ bytes) = word_in order first second ∷ file_words order bytes
