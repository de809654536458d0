-- The files of a linked program, whose names begin with a base name.
use Rattle.std.specs.Prelude.{◌≡◌, ℕ, zero, suc, List, [], ◌∷◌, ◌++◌, codes, map, zip}
use Rattle.std.specs.Fmt.{decimal}
use Rattle.std.specs.String.{string_bytes}
use Rattle.c25_meaning_expansion.specs.Files.{Files}
use Rattle.c25_report.specs.declared.texts.ProgramFileNames.{ProgramFileNames}
use Rattle.c25_report.specs.declared.texts.ProgramFileTexts.{ProgramFileTexts}

-- the name of a listing's file, by its number
abbrev pub listing_name : List ℕ → ℕ → List ℕ
listing_name base number = base ++ codes "." ++ decimal number ++ codes ".lst"

-- the names of the files of so many listings
abbrev pub listing_names : List ℕ → ℕ → List (List ℕ)
listing_names base zero = []
listing_names base (suc n) = listing_names base n ++ listing_name base (suc n) ∷ []

-- the files of these texts: the hex texts of both pages, the map, and the listings
abbrev pub files_of : List ℕ → ProgramFileTexts → Files
files_of base texts =
    (base ++ codes ".p0.hex", string_bytes texts.page0) ∷ (base ++ codes ".p1.hex", string_bytes texts.page1) ∷ (base ++ codes ".map", string_bytes texts.map)
    ∷ zip (listing_names base texts.listings.len) (map string_bytes texts.listings.items)

-- these are the names of the files with this base name and so many listings
pub record AreNames (base : List ℕ) (count : ℕ) (names : ProgramFileNames) : Type 0 where
  pub page0 : string_bytes names.page0 ≡ base ++ codes ".p0.hex"
  pub page1 : string_bytes names.page1 ≡ base ++ codes ".p1.hex"
  pub map_name : string_bytes names.map ≡ base ++ codes ".map"
  pub listings : map string_bytes names.listings.items ≡ listing_names base count
