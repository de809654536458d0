-- Names as clauses see them, and lists that hold the same names.
use denote.Ref.{Bor}
use Rattle.std.specs.Prelude.{◌≡◌, ℕ, List, map}
use Rattle.c25_meaning_assembly.specs.Sections.{is_in}

-- the bytes of names
abbrev pub bytes_of : List (Bor (List ℕ)) → List (List ℕ)
bytes_of names = map (λ n. n.now) names

-- a name is in the one list where it is in the other
abbrev pub HasSame : List (List ℕ) → List (List ℕ) → Type 0
HasSame a b = (name : List ℕ) → is_in a name ≡ is_in b name
