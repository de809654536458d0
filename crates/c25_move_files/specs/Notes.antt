-- What is reported of old files that are moved.
use Rattle.std.specs.Prelude.{ℕ, ◌+◌, ◌-◌, ◌^◌, min, Bool, true, false, not, ◌&&◌, if◌then◌else◌, List, [], ◌∷◌, ◌++◌, codes, length, map}
use Rattle.std.specs.Fmt.{decimal}
use Rattle.std.specs.List.{flat_map}
use Rattle.c25_meaning_common.specs.Digits.{four_digits}
use Rattle.c25_meaning_language.specs.Faults.{fault_name, fault_number}
use Rattle.c25_move.specs.Rewritten.{Rewritten}
use Rattle.c25_move.specs.declared.code_page.CodePage.{CodePage}
use Rattle.c25_move.specs.declared.code_page.CodePage.TheVariants.{Cp437, Latin1}
use Rattle.c25_move_lines.specs.Rules.{done_text, left_text}
use Rattle.c25_move_files.specs.declared.notes.Hole.{Hole}
use Rattle.c25_move_files.specs.declared.notes.HoleSide.{HoleSide}
use Rattle.c25_move_files.specs.declared.notes.HoleSide.TheVariants.{Before, After}
use Rattle.c25_move_files.specs.declared.notes.Note.{Note}
use Rattle.c25_move_files.specs.declared.notes.NoteKind.{NoteKind}
use Rattle.c25_move_files.specs.declared.notes.NoteKind.TheVariants.{Done, Left, Refused, ByCodePage, NotThere, InFolder, Spelling, TakenOut, AllObjects, ObjectsApart, Fill, Align, Group, RunRange, Assignment, HolePutIn, HoleLeft, AtPage, WithinPage}

-- what is reported of a line of a file
pub record Noted : Type 0 where
  pub file : List ℕ
  pub line : ℕ
  pub kind : NoteKind

abbrev pub noted : Note → Noted
noted n = record { file = n.file.now; line = n.line; kind = n.kind }

-- ---- what a note says

-- whether something is left to do
abbrev pub is_left : NoteKind → Bool
is_left (Done rule) = false
is_left (Left rule) = true
is_left (Refused fault) = true
is_left (ByCodePage page) = false
is_left NotThere = true
is_left InFolder = true
is_left Spelling = false
is_left TakenOut = false
is_left AllObjects = false
is_left ObjectsApart = true
is_left Fill = true
is_left Align = true
is_left Group = true
is_left RunRange = true
is_left Assignment = true
is_left (HolePutIn hole) = false
is_left (HoleLeft hole) = true
is_left (AtPage address) = false
is_left WithinPage = true

-- the line that reserves the words of a hole
abbrev pub hole_line : Hole → List ℕ
hole_line h = codes ".bss HOLE" ++ decimal h.number ++ codes "," ++ decimal h.words

-- what is said before the line of a hole that was put in on this side
abbrev pub put_in_text : HoleSide → List ℕ
put_in_text Before = codes "done: a block would cross a page: before it stands "
put_in_text After = codes "done: a later source has blocks: after all of .bss stands "

-- what is said before the line of a hole that is to be put in on this side
abbrev pub to_put_in_text : HoleSide → List ℕ
to_put_in_text Before = codes "left: a block would cross a page: before it goes "
to_put_in_text After = codes "left: a later source has blocks: after all of .bss goes "

-- what is said of a file that is read by a code page
abbrev pub by_code_page_text : CodePage → List ℕ
by_code_page_text Cp437 = codes "done: code page 437"
by_code_page_text Latin1 = codes "done: Latin-1"

-- what is said before the address where the next page begins, which `.bss` has
abbrev pub at_page_text : List ℕ
at_page_text = codes "done: .bss begins at a page, since a block would cross one: 0x"

abbrev pub said : NoteKind → List ℕ
said (Done rule) = codes "done: " ++ done_text rule
said (Left rule) = codes "left: " ++ left_text rule
said (Refused fault) = codes "left: " ++ decimal (fault_number fault) ++ codes " " ++ fault_name fault
said (ByCodePage page) = by_code_page_text page
said NotThere = codes "left: the copied file is not there"
said InFolder = codes "left: the copied file is in another folder"
said Spelling = codes "done: names of one spelling"
said TakenOut = codes "done: taken out: sources and options are words of the command line"
said AllObjects = codes "done: sections of all objects"
said ObjectsApart = codes "left: sections of one name are one here: give this one a name of its own"
said Fill = codes "left: the fill is taken out: see build --rom --fill"
said Align = codes "left: the alignment is taken out: give the section an address"
said Group = codes "left: no GROUP and no UNION here: give the sections addresses"
said RunRange = codes "left: run = takes an address of block B0"
said Assignment = codes "left: no assignment here: .set and .def in a module"
said (HolePutIn hole) = put_in_text hole.side ++ hole_line hole
said (HoleLeft hole) = to_put_in_text hole.side ++ hole_line hole
said (AtPage address) = at_page_text ++ four_digits address
said WithinPage = codes "left: a block would cross a page: give .bss an address that begins one"

-- whether a note is of no rule, no fault, no hole and no address
abbrev pub is_plain : NoteKind → Bool
is_plain (Done rule) = false
is_plain (Left rule) = false
is_plain (Refused fault) = false
is_plain (HolePutIn hole) = false
is_plain (HoleLeft hole) = false
is_plain (AtPage address) = false
is_plain kind = true

-- the place of a note, as editors read it
abbrev pub place : Noted → List ℕ
place n = n.file ++ codes ":" ++ decimal n.line ++ codes ": "

-- the line of a note
abbrev pub row : Noted → List ℕ
row n = (place n ++ said n.kind) ++ codes "\n"

-- the line of a note, unless nothing is left to do and only what is left is asked for
abbrev pub shown_row : (quiet : Bool) → Noted → List ℕ
shown_row quiet n = if (quiet && not (is_left n.kind)) then [] else row n

-- the lines of notes
abbrev pub rows : (quiet : Bool) → List Noted → List ℕ
rows quiet notes = flat_map (shown_row quiet) notes

-- whether one of these notes says that something is left to do
unfoldable pub are_left : List Noted → Bool
are_left [] = false
are_left (n ∷ ns) = if is_left n.kind then true else are_left ns

-- ---- the notes of a file

-- the names of a file, before and after
pub record FileNames : Type 0 where
  pub old : List ℕ
  pub new : List ℕ

-- the number of a line some lines later; numbers end at the largest that is counted
abbrev pub later : (number lines : ℕ) → ℕ
later number lines = min (number + lines) (2 ^ 64 - 1)

-- the notes of an old line of this number, in whose place stand the new lines from this number on: the rules by the old
-- line, the faults of new lines by the first of these
abbrev pub notes_of_line : FileNames → (number new_number : ℕ) → Rewritten → List Noted
notes_of_line names number new_number m =
    (map (λ rule. record { file = names.old; line = number; kind = Done rule }) m.done
    ++ map (λ rule. record { file = names.old; line = number; kind = Left rule }) m.left)
    ++ map (λ fault. record { file = names.new; line = new_number; kind = Refused fault }) m.refused

-- the notes of the lines of a file from these numbers on
unfoldable pub notes_from : FileNames → (number new_number : ℕ) → List Rewritten → List Noted
notes_from names number new_number [] = []
notes_from names number new_number (m ∷ ms) =
    notes_of_line names number new_number m ++ notes_from names (later number 1) (later new_number (length m.lines)) ms

-- the notes of a file's lines
abbrev pub notes_of : FileNames → List Rewritten → List Noted
notes_of names ms = notes_from names 1 1 ms
