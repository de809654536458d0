-- The sets and the count that a reader has in addition to the lists so far: the names of symbols and of
-- files, and how many files lines use.
use Rattle.std.specs.Prelude.{◌≡◌, ℕ, List}
use Rattle.std.specs.HashSet.{HashSet, contains}
use Rattle.std.specs.Str.{bytes_eq}
use Rattle.c25_meaning_objects.specs.Module.{SymbolData, Contents, has_symbol, has_file, used}

-- the set has the names of these symbols, where a key is seen by its text
abbrev pub HasNames : {K S : Type 0} → (K → List ℕ) → HashSet K S → List SymbolData → Type 0
HasNames {K} text names symbols = (key : K) → contains (λ x y. bytes_eq (text x) (text y)) names key ≡ has_symbol symbols (text key)

-- the set has these names of files, where a key is seen by its text
abbrev pub HasFiles : {K S : Type 0} → (K → List ℕ) → HashSet K S → List (List ℕ) → Type 0
HasFiles {K} text names files = (key : K) → contains (λ x y. bytes_eq (text x) (text y)) names key ≡ has_file files (text key)

-- sets and count are those of the lists so far
abbrev pub Keeps : {K S : Type 0} → (K → List ℕ) → HashSet K S → HashSet K S → ℕ → Contents → Type 0
Keeps text names file_names count c = HasNames text names c.symbols × HasFiles text file_names c.files × (count ≡ used c.lines)

-- the three lists that the sets and the count are taken of are the same
abbrev pub HasSame : Contents → Contents → Type 0
HasSame old new = (new.symbols ≡ old.symbols) × (new.files ≡ old.files) × (new.lines ≡ old.lines)
