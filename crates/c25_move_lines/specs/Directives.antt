-- Directives of assemblers before COFF.
use Rattle.std.specs.Prelude.{ℕ, List, [], ◌∷◌, codes, Option, Some, None, if◌then◌else◌}
use Rattle.std.specs.Str.{str_eq_ignore_ascii_case}

-- the directives of assemblers before COFF that have another name alone, and that name
abbrev pub renamings : List (List ℕ × List ℕ)
renamings =
    (codes "EQU", codes ".set") ∷ (codes "SET", codes ".set") ∷ (codes "DATA", codes ".word") ∷ (codes "DEF", codes ".def")
    ∷ (codes "REF", codes ".ref") ∷ (codes "SREF", codes ".ref") ∷ (codes "END", codes ".end") ∷ (codes "TITL", codes ".title")
    ∷ (codes "IDT", codes ".title") ∷ (codes "TEXT", codes ".string") ∷ (codes "BYTE", codes ".byte") ∷ (codes "PAGE", codes ".page")
    ∷ (codes "LIST", codes ".list") ∷ (codes "UNL", codes ".nolist") ∷ (codes "OPTION", codes ".option") ∷ (codes "COPY", codes ".copy")
    ∷ (codes "MLIB", codes ".mlib") ∷ (codes "ASMIF", codes ".if") ∷ (codes "ASMELS", codes ".else") ∷ (codes "ASMEND", codes ".endif") ∷ []

-- the new name of this word in a list of renamings, letters in either case
abbrev pub renamed_among : List ℕ → List (List ℕ × List ℕ) → Option (List ℕ)
renamed_among word [] = None
renamed_among word (r ∷ rs) = if str_eq_ignore_ascii_case word r.0 then Some r.1 else renamed_among word rs

-- the new name of a directive without a dot, if it has another name alone
unfoldable pub renamed : List ℕ → Option (List ℕ)
renamed word = renamed_among word renamings
