-- The lines of notes as they are shown of sources with fronts.
use Rattle.std.specs.Prelude.{ℕ, Bool, ◌==◌, ◌&&◌, if◌then◌else◌, List, [], ◌++◌, codes, drop, length, nat_eq}
use Rattle.std.specs.List.{after_first, before_first, flat_map, list_any, position_or_len, starts_with}
use Rattle.std.specs.Str.{bytes_eq}
use Rattle.std.specs.Str.Lines.{lines}

-- whether a line of a trail says that a front copies its source
abbrev pub says_front : List ℕ → Bool
says_front line = starts_with nat_eq line (codes "  from -D ")

-- whether what follows `-D ` in a line is what the module of this source is said to do
abbrev pub is_of_module : List ℕ → (source : List ℕ) → Bool
is_of_module rest source = starts_with nat_eq rest source && starts_with nat_eq (drop (length source) rest) (codes ": module ")

-- a blank
abbrev pub is_blank : ℕ → Bool
is_blank byte = byte == 32

-- a line, of which `-D ` in front of the name of one of these sources is left out where the line says what its module does
abbrev pub unfronted : (sources : List (List ℕ)) → List ℕ → List ℕ
unfronted sources line =
    if position_or_len is_blank line == length line then line
    else (if bytes_eq (before_first is_blank line) (codes "-D") && list_any (is_of_module (after_first is_blank line)) sources then after_first is_blank line else line)

-- a line as it is shown of these sources: nothing of one that says that a front copies its source
abbrev pub shown_line : (sources : List (List ℕ)) → List ℕ → List ℕ
shown_line sources line = if says_front line then [] else unfronted sources line ++ codes "\n"

-- the lines of the note of fronts of these sources as they are shown
abbrev pub shown_text : (sources : List (List ℕ)) → List ℕ → List ℕ
shown_text sources text = flat_map (shown_line sources) (lines text)
