-- What is missing or wrong where a command file is refused, as far as the text before that place shows it.
use Rattle.std.specs.Prelude.{ℕ, ◌+◌, ◌==◌, ◌||◌, ◌&&◌, not, Bool, List, [], ◌∷◌, ◌++◌, codes, take, count_by, Option, Some, None, is_none, option_map, slice_index, if◌then◌else◌}
use Rattle.std.specs.Fmt.{decimal}
use Rattle.std.specs.List.{fold, list_any}
use Rattle.std.specs.Str.{str_eq_ignore_ascii_case}
use Rattle.c25_cmd.specs.Refused.{Character, End, RefusedAtData, Word, column_behind}
use Rattle.c25_meaning_common.specs.Bytes.{is_space}
use Rattle.c25_file_hints.specs.declared.braces.Braces.{Braces}
use Rattle.c25_file_hints.specs.declared.braces.Braces.TheVariants.{Closed, Open, Nested}
use Rattle.c25_file_hints.specs.declared.braces.Scan.{Scan}
use Rattle.c25_file_hints.specs.declared.braces.Standing.{Standing}
use Rattle.c25_file_hints.specs.declared.braces.Standing.TheVariants as standing

-- ---- the text before a place

-- the line after a byte
abbrev pub line_behind : ℕ → ℕ → ℕ
line_behind line b = if b == 10 then line + 1 else line

-- whether a line and a column are these
abbrev pub is_place : (wanted_line wanted_column line column : ℕ) → Bool
is_place wanted_line wanted_column line column = line == wanted_line && column == wanted_column

-- the byte of a text at which this line and column begin, where the text goes on at byte `at`, in the line and the
-- column given last; the end of the text, where it has no such line and column
unfoldable pub place_from : (wanted_line wanted_column at line column : ℕ) → List ℕ → ℕ
place_from wanted_line wanted_column at line column [] = at
place_from wanted_line wanted_column at line column (b ∷ bs) =
    if is_place wanted_line wanted_column line column then at
    else place_from wanted_line wanted_column (at + 1) (line_behind line b) (column_behind column b) bs

-- what a text has before this line and column
abbrev pub text_before : List ℕ → (line column : ℕ) → List ℕ
text_before text line column = take (place_from line column 0 1 1 text) text

-- ---- a brace that is open

-- where a text stands after a byte: in a comment, which `/*` begins and `*/` ends, or outside
abbrev pub standing_behind : Standing → ℕ → Standing
standing_behind standing.Outside b = if b == 47 then standing.Slash else standing.Outside
standing_behind standing.Slash b = standing.Comment
standing_behind standing.Comment b = if b == 42 then standing.Star else standing.Comment
standing_behind standing.Star b = if b == 47 then standing.Outside else (if b == 42 then standing.Star else standing.Comment)

-- the open braces with one more, at this byte of the text; MEMORY has one pair, SECTIONS one and pairs within it
abbrev pub opened : Braces → ℕ → Braces
opened Closed at = Open at
opened (Open first) at = Nested first
opened (Nested first) at = Nested first

-- the open braces with one less
abbrev pub closed : Braces → Braces
closed Closed = Closed
closed (Open first) = Closed
closed (Nested first) = Open first

-- the open braces after a byte of the text
abbrev pub braces_behind : Standing → Braces → (at b : ℕ) → Braces
braces_behind standing.Outside braces at b = if b == 123 then opened braces at else (if b == 125 then closed braces else braces)
braces_behind _ braces at b = braces

-- a scan after the byte at this place of the text
abbrev pub scan_behind : Scan → (at b : ℕ) → Scan
scan_behind s at b = record { standing = standing_behind s.standing b; braces = braces_behind s.standing s.braces at b }

-- a scan after the rest of a text, which goes on at byte `at`
unfoldable pub scan_from : Scan → (at : ℕ) → List ℕ → Scan
scan_from s at [] = s
scan_from s at (b ∷ bs) = scan_from (scan_behind s at b) (at + 1) bs

-- a scan at the front of a text
abbrev pub scan_start : Scan
scan_start = record { standing = standing.Outside; braces = Closed }

-- the byte of the first brace that is open, outside of comments
abbrev pub open_place : Scan → Option ℕ
open_place s = place_in s.standing s.braces where
  place_in : Standing → Braces → Option ℕ
  place_in standing.Outside (Open first) = Some first
  place_in standing.Outside (Nested first) = Some first
  place_in _ braces = None

-- the line of a byte of a text
abbrev pub line_at : List ℕ → ℕ → ℕ
line_at text at = count_by (λ b. b == 10) (take at text) + 1

-- the line of the first brace that is open at the end of a text; none where it ends in a comment
abbrev pub open_line : List ℕ → Option ℕ
open_line text = option_map (line_at text) (open_place (scan_from scan_start 0 text))

-- ---- the words before a place

-- the last byte of a text that is no blank, with this one before it
abbrev pub visible_behind : ℕ → ℕ → ℕ
visible_behind last b = if is_space b then last else b

-- whether the last byte before a word asks for a name or a number: > = : , (
abbrev pub asks : ℕ → Bool
asks b = b == 62 || b == 61 || b == 58 || b == 44 || b == 40

-- whether a word is SECTIONS or MEMORY, in either case
abbrev pub is_part : List ℕ → Bool
is_part word = str_eq_ignore_ascii_case word (codes "SECTIONS") || str_eq_ignore_ascii_case word (codes "MEMORY")

-- whether a word begins the next part of a command file after this text
abbrev pub begins_part : (before word : List ℕ) → Bool
begins_part before word = is_part word && not (asks (fold visible_behind 0 before))

-- how many bytes of `run=` a text ends with, in either case and blanks aside, by how many it ended with before its last byte
abbrev pub run_behind : ℕ → ℕ → ℕ
run_behind n b =
    if is_space b then n
    else (if b == 114 || b == 82 then 1
    else (if n == 1 && (b == 117 || b == 85) then 2
    else (if n == 2 && (b == 110 || b == 78) then 3
    else (if n == 3 && b == 61 then 4
    else 0))))

-- whether a text ends in `run =`
abbrev pub ends_in_run : List ℕ → Bool
ends_in_run text = fold run_behind 0 text == 4

-- whether a word begins after a byte that is no blank: { } ,
abbrev pub parts_words : ℕ → Bool
parts_words b = b == 123 || b == 125 || b == 44

-- how many bytes of `PAGE` the last word of a text begins with, in either case, and 5 where it is another word; 4 is kept
-- after blanks
abbrev pub page_behind : ℕ → ℕ → ℕ
page_behind n b =
    if is_space b then (if n == 4 then 4 else 0)
    else (if parts_words b then 0
    else (if n == 0 && (b == 80 || b == 112) then 1
    else (if n == 1 && (b == 65 || b == 97) then 2
    else (if n == 2 && (b == 71 || b == 103) then 3
    else (if n == 3 && (b == 69 || b == 101) then 4
    else 5)))))

-- whether a text ends in `PAGE`
abbrev pub ends_in_page : List ℕ → Bool
ends_in_page text = fold page_behind 0 text == 4

-- whether a word may be the name of an object: it has a dot, and begins with neither a dot, as a section, nor `-`
abbrev pub is_file : List ℕ → Bool
is_file word = list_any (λ b. b == 46) word && not (slice_index word 0 == 46 || slice_index word 0 == 45)

-- whether a word that may be the name of an object stands outside of braces after this text
abbrev pub is_object : (before word : List ℕ) → Bool
is_object before word = is_file word && is_none (open_line before)

-- ---- what is said

-- a `}` is missing before a word, or at the end of the text, and the `{` of this line is open; or a number is
-- wanted after `run =`; or the number of a page after `PAGE`; or an object is named, which the command line names
pub data HintData : Type 0 where
  OpenBrace : (before : Option (List ℕ)) → (line : ℕ) → HintData
  RunNumber : HintData
  PageNumber : HintData
  ObjectName : HintData

-- that an object is named outside of braces, where one is
abbrev pub object_hint : (before word : List ℕ) → Option HintData
object_hint before word = if is_object before word then Some ObjectName else None

-- what is missing or wrong at a word after this text
abbrev pub hint_at : (before word : List ℕ) → Option HintData
hint_at before word =
    if ends_in_run before then Some RunNumber
    else (if ends_in_page before then Some PageNumber
    else (if begins_part before word then option_map (OpenBrace (Some word)) (open_line before) else object_hint before word))

-- what is missing or wrong where the text of a command file is refused, in this line
abbrev pub hint_on : (text : List ℕ) → (line : ℕ) → RefusedAtData → Option HintData
hint_on text line (Word column word) = hint_at (text_before text line column) word
hint_on text line (Character column b) = hint_at (text_before text line column) []
hint_on text line End = option_map (OpenBrace None) (open_line text)

-- where the brace is missing
abbrev pub place_text : Option (List ℕ) → List ℕ
place_text None = codes "at the end"
place_text (Some word) = codes "before " ++ word

-- the line of the brace that is open
unfoldable pub line_text : ℕ → List ℕ
line_text line = codes ": the { of line " ++ decimal line ++ codes " is still open"

-- the sentence that says so
abbrev pub hint_text : HintData → List ℕ
hint_text (OpenBrace before line) = codes "a } is missing " ++ place_text before ++ line_text line
hint_text RunNumber = codes "run = takes a number from 0FF00h on, where block B0 is program memory"
hint_text PageNumber = codes "the pages are 0, program memory, and 1, data memory"
hint_text ObjectName = codes "objects are named on the command line of link, after the command file; run and build take sources"
