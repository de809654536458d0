-- What is wanted where a command file is refused, as far as one thing alone can stand there.
use Rattle.std.specs.Prelude.{◌≡◌, ℕ, Bool, true, false, if◌then◌else◌, List, ◌++◌, Option, Some, None, codes}
use Rattle.std.specs.Str.{IsUtf8}
use Rattle.c25_cmd.specs.Refused.{Character, End, RefusedAtData, Word, refused_at}
use Rattle.c25_file_hints.specs.CommandFiles.{text_before}
use Rattle.c25_file_hints.specs.declared.wanted.Wanted.{Wanted}
use Rattle.c25_file_hints.specs.declared.wanted.Wanted.TheVariants.{Origin, Length, Equals}

-- whether a command is refused at the end of its text
abbrev pub is_end : Option RefusedAtData → Bool
is_end (Some End) = true
is_end _ = false

-- whether these words could stand after a text: the text with them is refused at its end, not before
abbrev pub could_stand : (before words : List ℕ) → Bool
could_stand before words = is_end (refused_at (before ++ codes " " ++ words))

-- what is wanted after a text, if that is the origin or the length of a range or `=`
abbrev pub wanted_after : (before : List ℕ) → Option Wanted
wanted_after before =
    if could_stand before (codes "o =") then Some Origin
    else (if could_stand before (codes "l =") then Some Length
    else (if could_stand before (codes "=") then Some Equals
    else None))

-- the same, but for a text that is cut within a character
abbrev pub IsWantedAfter : (before : List ℕ) → Option Wanted → Type 0
IsWantedAfter before wanted = IsUtf8 before → wanted ≡ wanted_after before

-- what is wanted where the text of a command file is refused, in this line
abbrev pub IsWantedOn : (text : List ℕ) → (line : ℕ) → RefusedAtData → Option Wanted → Type 0
IsWantedOn text line (Word column word) wanted = IsWantedAfter (text_before text line column) wanted
IsWantedOn text line (Character column b) wanted = IsWantedAfter (text_before text line column) wanted
IsWantedOn text line End wanted = wanted ≡ None

-- the sentence that says so
abbrev pub wanted_text : Wanted → List ℕ
wanted_text Origin = codes "origin (or o, org) is wanted here"
wanted_text Length = codes "length (or l, len) is wanted here"
wanted_text Equals = codes "= is wanted here"
