-- What a fault of linking is about, found by linking again.
use Rattle.std.specs.Prelude.{◌≡◌, ◌⊎◌, ℕ, Bool, List, [], ◌∷◌, ◌++◌, codes, map, take, if◌then◌else◌, nat_lt, length, Option, Some, None, Ok, unwrap_or, String}
use Rattle.std.specs.List.{slice_get}
use Rattle.std.specs.Option.{option_map}
use Rattle.std.specs.String.{string_bytes}
use Rattle.std.specs.declared.alloc.Global.{Global}
use Rattle.c25_chain.specs.FaultText.{refusal_text}
use Rattle.c25_chain.specs.Modules.{Modules, modules_of}
use Rattle.c25_chain.specs.declared.fault.ChainFault.{ChainFault}
use Rattle.c25_chain.specs.declared.fault.ChainFault.TheVariants.{Link}
use Rattle.c25_disk.specs.Copies.{HasCopied}
use Rattle.c25_disk.specs.Held.{Held, IsAllOf, ReadsSources}
use Rattle.c25_explain.specs.AllFaults.{Follows}
use Rattle.c25_explain.specs.Details.{Deed, Defines, Keeps, Uses, misfit_text, nowhere_text, site_text, span_text}
use Rattle.c25_explain.specs.Note.{line_of}
use Rattle.c25_explain.specs.Unfits.{crossing_text, free_room_text, hole_text, section_text}
use Rattle.c25_explain.specs.declared.again.Asked.{Asked}
use Rattle.c25_explain.specs.declared.again.Asked.TheVariants as asked
use Rattle.c25_explain.specs.declared.note_lines.LinkNote.{LinkNote}
use Rattle.c25_inputs.specs.Files.{IsOptional}
use Rattle.c25_inputs.specs.Objects.{AreFiles, modules_in}
use Rattle.c25_link.specs.Misfits.{MisfitData, first_misfit}
use Rattle.c25_link_faults.specs.Faults.{AreLinkFaults}
use Rattle.c25_link_faults.specs.Overlaps.{OverlapData, SpanData, overlap_of}
use Rattle.c25_link_faults.specs.Sites.{SiteData, definition_sites, local_sites, use_sites}
use Rattle.c25_meaning_common.specs.Faults.{placed_text}
use Rattle.c25_meaning_common.specs.declared.placed.FileLine.{FileLine}
use Rattle.c25_meaning_common.specs.declared.placed.Placed.{Placed}
use Rattle.c25_meaning_expansion.specs.Files.{Files}
use Rattle.c25_meaning_linking.specs.Command.{CommandData}
use Rattle.c25_meaning_linking.specs.CommandText.{command_of}
use Rattle.c25_meaning_linking.specs.GoodMap.{IsGoodMap}
use Rattle.c25_meaning_linking.specs.Linking.{names_checked}
use Rattle.c25_meaning_linking.specs.Place.{Place}
use Rattle.c25_meaning_linking.specs.declared.link_fault.LinkFault.{LinkFault}
use Rattle.c25_meaning_linking.specs.declared.link_fault.LinkFault.TheVariants.{DefinedTwice, NoEntry, Unresolved}
use Rattle.c25_meaning_objects.specs.Module.{Contents}
use Rattle.c25_rooms.specs.Crossings.{CrossingData}
use Rattle.c25_rooms.specs.Details.{AreDetails, DetailsData}
use Rattle.c25_rooms.specs.Holes.{RoomData}

-- ---- notes

-- a note: its text, and the line of a file that is shown before it, where there is one
pub record NoteData : Type 0 where
  pub text : List ℕ
  pub line : Option (List ℕ × ℕ)

-- the name of the file of a module's number
abbrev pub name_at : List (List ℕ) → ℕ → List ℕ
name_at names number = unwrap_or (slice_get names number) []

-- the note about a place in a module of the files of these names
abbrev pub site_note : (names : List (List ℕ)) → Deed → (name : List ℕ) → SiteData → NoteData
site_note names deed name site = record { text = site_text (name_at names site.number) site.number deed name; line = site.line }

-- that no module defines a name
abbrev pub nowhere_note : List ℕ → NoteData
nowhere_note name = record { text = nowhere_text name; line = None }

-- ---- 70, 71, 76: names

-- the modules that define a name without exporting it, or that none does
abbrev pub local_notes : (names : List (List ℕ)) → List ℕ → List SiteData → List NoteData
local_notes names name [] = nowhere_note name ∷ []
local_notes names name (site ∷ sites) = map (site_note names Keeps name) (site ∷ sites)

-- the first use of a name, and the modules that define it without exporting it
abbrev pub unresolved_notes : (names : List (List ℕ)) → List Contents → List ℕ → List NoteData
unresolved_notes names modules name = map (site_note names Uses name) (take 1 (use_sites modules name)) ++ local_notes names name (local_sites modules name)

-- the modules that define and export a name
abbrev pub twice_notes : (names : List (List ℕ)) → List Contents → List ℕ → List NoteData
twice_notes names modules name = map (site_note names Defines name) (definition_sites modules name)

-- the modules that define the entry without exporting it
abbrev pub entry_notes : (names : List (List ℕ)) → List Contents → List ℕ → List NoteData
entry_notes names modules name = local_notes names name (local_sites modules name)

-- what modules say of the name of a fault; of a section nothing
abbrev pub name_notes : (names : List (List ℕ)) → List Contents → LinkFault → List ℕ → List NoteData
name_notes names modules Unresolved name = unresolved_notes names modules name
name_notes names modules DefinedTwice name = twice_notes names modules name
name_notes names modules NoEntry name = entry_notes names modules name
name_notes names modules _ name = []

-- ---- 74: sections

-- the note about the words of a section
abbrev pub span_note : SpanData → NoteData
span_note s = record { text = span_text s; line = None }

-- the notes about two sections
abbrev pub overlap_notes : OverlapData → List NoteData
overlap_notes o = span_note o.section ∷ span_note o.other ∷ []

-- the notes about the section of a name, and the one that shares a word with it under the text of a command
abbrev pub AreOverlapNotes : (name : List ℕ) → List Contents → List ℕ → List NoteData → Type 0
AreOverlapNotes name modules text notes =
    (command : CommandData) × (command_of text ≡ Ok command) × ((o : OverlapData) × (overlap_of modules command name ≡ Some o) × (notes ≡ overlap_notes o))

-- ---- 73: a section that does not fit

-- the note with a text as a line
abbrev pub line_note : List ℕ → NoteData
line_note text = record { text = text ++ codes "\n"; line = None }

-- the note about a range with its free words
abbrev pub room_note : RoomData → NoteData
room_note r = line_note (free_room_text r)

-- the note about the words that would help, if there are any
abbrev pub hole_notes : (name : List ℕ) → Option ℕ → List NoteData
hole_notes name None = []
hole_notes name (Some n) = line_note (hole_text name n) ∷ []

-- the notes about a block that crosses a page, if there is one
abbrev pub crossing_notes : (name : List ℕ) → Option SpanData → Option CrossingData → List NoteData
crossing_notes name span None = []
crossing_notes name span (Some c) = line_note (crossing_text name span c.block) ∷ hole_notes name c.hole

-- the notes about a section that does not fit: its words, the ranges that it may be placed in, and its first block that
-- crosses a page wherever the section stands
abbrev pub unfit_notes : (name : List ℕ) → DetailsData → List NoteData
unfit_notes name d = line_note (section_text name d.unfit) ∷ map room_note d.rooms ++ crossing_notes name d.unfit.span d.crossing

-- the notes about the section of a name that does not fit under the text of a command
abbrev pub AreUnfitNotes : (name : List ℕ) → List Contents → List ℕ → List NoteData → Type 0
AreUnfitNotes name modules text notes =
    (command : CommandData) × (command_of text ≡ Ok command) × ((d : DetailsData) × AreDetails modules command name d × (notes ≡ unfit_notes name d))

-- ---- 75: fields

-- the first field of modules under the text of a command that does not take its value
abbrev pub IsMisfitUnder : List Contents → List ℕ → MisfitData → Type 0
IsMisfitUnder modules text f =
    (command : CommandData) × (command_of text ≡ Ok command)
    × ((places : List Place) × (names_checked modules command.entry ≡ Ok tt) × IsGoodMap modules command places × (first_misfit modules places ≡ Some f))

-- the note about a field
abbrev pub field_note : (names : List (List ℕ)) → MisfitData → NoteData
field_note names f = record { text = misfit_text (name_at names f.number) f; line = f.line }

-- the note about the first field that does not take its value
abbrev pub AreFieldNotes : (names : List (List ℕ)) → List Contents → List ℕ → List NoteData → Type 0
AreFieldNotes names modules command notes = (f : MisfitData) × IsMisfitUnder modules command f × (notes ≡ field_note names f ∷ [])

-- ---- all faults

-- the note with the line of a fault of linking
abbrev pub fault_note : Placed (List ℕ) LinkFault → NoteData
fault_note f = record { text = refusal_text (Link f) ++ codes "\n"; line = None }

-- a fault, and, where it is to be explained, what modules say of its name
abbrev pub explained_notes : (explain : Bool) → (names : List (List ℕ)) → List Contents → Placed (List ℕ) LinkFault → List NoteData
explained_notes explain names modules f = fault_note f ∷ (if explain then name_notes names modules f.fault f.place else [])

-- faults, each with what modules say of its name
abbrev pub other_notes : (explain : Bool) → (names : List (List ℕ)) → List Contents → List (Placed (List ℕ) LinkFault) → List NoteData
other_notes explain names modules [] = []
other_notes explain names modules (f ∷ faults) = explained_notes explain names modules f ++ other_notes explain names modules faults

-- the text that stands for the faults of linking that are not shown
unfoldable pub more_text : List ℕ
more_text = codes "link: more faults are not shown\n"

-- the note with that text
abbrev pub more_note : NoteData
more_note = record { text = more_text; line = None }

-- at most 99 faults after the first one, and whether there are more
abbrev pub shown_notes : (explain : Bool) → (names : List (List ℕ)) → List Contents → List (Placed (List ℕ) LinkFault) → List NoteData
shown_notes explain names modules faults = other_notes explain names modules (take 99 faults) ++ (if nat_lt 99 (length faults) then more_note ∷ [] else [])

-- all faults: the first one in its line alone, since what modules say of it is in its explanation
abbrev pub all_notes : (explain : Bool) → (names : List (List ℕ)) → List Contents → List (Placed (List ℕ) LinkFault) → List NoteData
all_notes explain names modules [] = []
all_notes explain names modules (f ∷ faults) = fault_note f ∷ shown_notes explain names modules faults

-- the notes with all faults of modules under a command
abbrev pub AreAllUnder : (explain : Bool) → (names : List (List ℕ)) → List Contents → CommandData → List NoteData → Type 0
AreAllUnder explain names modules command notes =
    (faults : List (Placed (List ℕ) LinkFault)) × AreLinkFaults modules command faults × (notes ≡ all_notes explain names modules faults)

-- the notes with all faults of modules under the text of a command
abbrev pub AreAllNotes : (explain : Bool) → (names : List (List ℕ)) → List Contents → List ℕ → List NoteData → Type 0
AreAllNotes explain names modules text notes = (command : CommandData) × (command_of text ≡ Ok command) × AreAllUnder explain names modules command notes

-- ---- what is asked for

-- what is asked of modules: which use or define the name of a fault (70, 71, 76), which section shares a word
-- with one of a name (74), why one of a name does not fit (73), the first field that does not take its value (75),
-- all faults, to be explained or not
pub data Question : Type 0 where
  AboutName : LinkFault → List ℕ → Question
  AboutOverlap : List ℕ → Question
  AboutUnfit : List ℕ → Question
  AboutField : Question
  AboutAll : Bool → Question

-- the notes that are asked for, of modules of the files of these names under the text of a command
abbrev pub AreNotes : Question → (names : List (List ℕ)) → List Contents → (command : List ℕ) → List NoteData → Type 0
AreNotes (AboutName fault name) names modules command notes = notes ≡ name_notes names modules fault name
AreNotes (AboutOverlap name) names modules command notes = AreOverlapNotes name modules command notes
AreNotes (AboutUnfit name) names modules command notes = AreUnfitNotes name modules command notes
AreNotes AboutField names modules command notes = AreFieldNotes names modules command notes
AreNotes (AboutAll explain) names modules command notes = AreAllNotes explain names modules command notes

-- ---- where it is looked for

-- the notes are those of the sources of these names among files
abbrev pub AreNotesAmong : Question → Files → List (List ℕ) → List ℕ → List NoteData → Type 0
AreNotesAmong asked files names command notes = (all : Modules) × (modules_of files names ≡ Ok all) × AreNotes asked names all.modules command notes

-- the notes are those of sources of a disk, over their files and at most 256 others that they copy, under a
-- command file where one is named
pub record AreNotesOfSources (asked : Question) (held : Held) (sources : List (List ℕ)) (command : Option (List ℕ)) (notes : List NoteData) : Type 0 where
  pub given : Files
  pub read : ReadsSources held [] sources (Ok given)
  pub text : List ℕ
  pub of_command : IsOptional held command text
  pub files : Files
  pub copied : HasCopied held given 256 files
  pub told : AreNotesAmong asked files sources text notes

-- the notes are those of objects of a disk, under a command file where one is named
pub record AreNotesOfObjects (asked : Question) (held : Held) (objects : List (List ℕ)) (command : Option (List ℕ)) (notes : List NoteData) : Type 0 where
  pub text : List ℕ
  pub of_command : IsOptional held command text
  pub files : Files
  pub read : AreFiles held objects files
  pub modules : List Contents
  pub are : modules_in files ≡ Ok modules
  pub told : AreNotes asked objects modules text notes

-- the notes are those of the objects, if there are any, and else of the sources
abbrev pub AreNotesOver : Question → Held → (command : Option (List ℕ)) → (sources objects : List (List ℕ)) → List NoteData → Type 0
AreNotesOver asked held command sources [] notes = AreNotesOfSources asked held sources command notes
AreNotesOver asked held command sources (object ∷ objects) notes = AreNotesOfObjects asked held (object ∷ objects) command notes

-- ---- what is shown

-- a line of a file's text, or nothing where there is no such line
abbrev pub line_text : (file : List ℕ) → (number : ℕ) → (text : List ℕ) → List ℕ
line_text file number text = elim (line_of text number) [ None ↦ [] | Some row ↦ placed_text file number row ++ codes "\n" ]

-- a line of what the file holds, or nothing
abbrev pub IsLineText : Held → Option (List ℕ × ℕ) → List ℕ → Type 0
IsLineText held None shown = shown ≡ []
IsLineText held (Some line) shown = ((text : List ℕ) × IsAllOf (held line.0) text × (shown ≡ line_text line.0 line.1 text)) ⊎ (shown ≡ [])

-- a note after its line
abbrev pub ShowsNote : Held → NoteData → List ℕ → Type 0
ShowsNote held note shown = (line : List ℕ) × IsLineText held note.line line × (shown ≡ line ++ note.text)

-- notes, one after the other
abbrev pub ShowsNotes : Held → List NoteData → List ℕ → Type 0
ShowsNotes held [] shown = shown ≡ []
ShowsNotes held (note ∷ notes) shown = (first rest : List ℕ) × ShowsNote held note first × ShowsNotes held notes rest × (shown ≡ first ++ rest)

-- the notes that are found, or nothing
abbrev pub ShowsAsked : Question → Held → (command : Option (List ℕ)) → (sources objects : List (List ℕ)) → List ℕ → Type 0
ShowsAsked asked held command sources objects shown =
    ((notes : List NoteData) × AreNotesOver asked held command sources objects notes × ShowsNotes held notes shown) ⊎ (shown ≡ [])

-- with the line of this fault before it a text has all faults of linking; or it is empty
abbrev pub ShowsOtherLinks : (explain : Bool) → Held → (command : Option (List ℕ)) → (sources objects : List (List ℕ)) → ChainFault (List ℕ) → List ℕ → Type 0
ShowsOtherLinks explain held command sources objects refusal text =
    ((all : List ℕ) × ShowsAsked (AboutAll explain) held command sources objects all × Follows refusal all text) ⊎ (text ≡ [])

-- ---- how the code has it

-- a line of a file, as clauses see it
abbrev pub line_view : Option (FileLine (String Global)) → Option (List ℕ × ℕ)
line_view line = option_map (λ l. (string_bytes l.file, l.line)) line

-- a note, as clauses see it
abbrev pub note_view : LinkNote → NoteData
note_view note = record { text = string_bytes note.text; line = line_view note.line }

-- notes, as clauses see them
abbrev pub notes_view : List LinkNote → List NoteData
notes_view notes = map note_view notes

-- what is asked, as clauses see it
abbrev pub question : Asked → Question
question (asked.Name fault name) = AboutName fault name.now
question (asked.Overlap name) = AboutOverlap name.now
question (asked.Unfit name) = AboutUnfit name.now
question asked.Field = AboutField
question (asked.AllFaults explain) = AboutAll explain
