-- Words by their addresses: a page of the processor's memory (SPRU014, "Memory Organization": 65,536 words of
-- 16 bits).
use Rattle.std.specs.Prelude.{◌≡◌, ℕ, ◌^◌, ◌<◌, List, Some}
use Rattle.std.specs.List.{All, fold}
use Rattle.std.specs.Ordering.{nat_cmp}
use Rattle.std.specs.FinMap as map

-- all addresses and all words of a map have 16 bits
abbrev pub IsWordMap : map.FinMap nat_cmp ℕ → Type 0
IsWordMap words = (address word : ℕ) → map.get words address ≡ Some word → (address < 2 ^ 16) × (word < 2 ^ 16)

-- a pair is an address and a word, each of 16 bits
abbrev pub IsWord : ℕ × ℕ → Type 0
IsWord entry = (entry.0 < 2 ^ 16) × (entry.1 < 2 ^ 16)

-- each pair of a list is an address and a word of 16 bits
abbrev pub AreWords : List (ℕ × ℕ) → Type 0
AreWords entries = All IsWord entries

-- the map of some words with their addresses: of two at one address the later one stays
abbrev pub put_all : List (ℕ × ℕ) → map.FinMap nat_cmp ℕ
put_all entries = fold (λ words entry. map.insert words entry.0 entry.1) map.empty entries
