-- Bytes of words, and words of bytes, one after the other.
use Rattle.std.proofs.Common.{◌≡◌, ℕ, ◌+◌, ◌*◌, ◌/◌, ◌%◌, ◌<◌, List, [], ◌∷◌, length, map, refl, sym, ap, arith}
use Rattle.std.specs.Prelude.{All}
use Rattle.std.proofs.lemmas.List.Elements.{All-head, All-tail}
use Rattle.c25_rom.specs.Bytes.{high, low, word_of, high_bytes, low_bytes, pair_words, file_bytes, file_words}
use Rattle.c25_rom.specs.declared.byte_order.ByteOrder.{ByteOrder}
use Rattle.c25_rom.specs.declared.byte_order.ByteOrder.TheVariants.{HighFirst, LowFirst}

-- a word is that of its bytes
whole : (word : ℕ) → word_of (high word) (low word) ≡ word
whole word = omega arith

pub pair_back : (rom : List ℕ) → pair_words (high_bytes rom) (low_bytes rom) ≡ rom
pair_back [] = refl
pair_back (word ∷ rom) = λ i. whole word i ∷ pair_back rom i

pub file_back : (order : ByteOrder) (rom : List ℕ) → file_words order (file_bytes order rom) ≡ rom
file_back order [] = refl
file_back HighFirst (word ∷ rom) = λ i. whole word i ∷ file_back HighFirst rom i
file_back LowFirst (word ∷ rom) = λ i. whole word i ∷ file_back LowFirst rom i

-- the bytes of the word of two bytes
high_again : (h l : ℕ) → l < 256 → high (word_of h l) ≡ h
high_again h l small = omega arith

low_again : (h l : ℕ) → l < 256 → low (word_of h l) ≡ l
low_again h l small = omega arith

pub highs_again : (highs lows : List ℕ) → length highs ≡ length lows → All (λ b. b < 256) lows → high_bytes (pair_words highs lows) ≡ highs
highs_again [] lows same small = refl
highs_again (h ∷ highs) [] same small = absurd (omega (arith, same))
highs_again (h ∷ highs) (l ∷ lows) same small =
    λ i. high_again h l (All-head (λ b. b < 256) l lows small) i ∷ highs_again highs lows (omega (arith, same)) (All-tail (λ b. b < 256) l lows small) i

pub lows_again : (highs lows : List ℕ) → length highs ≡ length lows → All (λ b. b < 256) lows → low_bytes (pair_words highs lows) ≡ lows
lows_again [] [] same small = refl
lows_again [] (l ∷ lows) same small = absurd (omega (arith, same))
lows_again (h ∷ highs) [] same small = absurd (omega (arith, same))
lows_again (h ∷ highs) (l ∷ lows) same small =
    λ i. low_again h l (All-head (λ b. b < 256) l lows small) i ∷ lows_again highs lows (omega (arith, same)) (All-tail (λ b. b < 256) l lows small) i
