-- How many words bytes have at most.
use Rattle.std.proofs.Common.{◌≡◌, ℕ, ◌+◌, ◌*◌, ◌≤◌, List, [], ◌∷◌, length, map, arith}
use Rattle.std.specs.Prelude.{zip}
use Rattle.c25_rom.specs.Bytes.{file_words, pair_words}
use Rattle.c25_rom.specs.declared.byte_order.ByteOrder.{ByteOrder}

no_more : (high low : List ℕ) → length (pair_words high low) ≤ length high
no_more [] [] = omega arith
no_more [] (l ∷ low) = omega arith
no_more (h ∷ high) [] = omega arith
no_more (h ∷ high) (l ∷ low) = omega (arith, no_more high low)

pub few_in_pair : (high low : List ℕ) → length high ≤ 65536 → length (pair_words high low) ≤ 65536
few_in_pair high low few = omega (arith, no_more high low, few)

halves : (order : ByteOrder) (bytes : List ℕ) → 2 * length (file_words order bytes) ≤ length bytes
halves order [] = omega arith
halves order (b ∷ []) = omega arith
halves order (b ∷ c ∷ bytes) = omega (arith, halves order bytes)

pub few_in_file : (order : ByteOrder) (bytes : List ℕ) → length bytes ≤ 131072 → length (file_words order bytes) ≤ 65536
few_in_file order bytes few = omega (arith, halves order bytes, few)
