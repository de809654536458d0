-- Why old sources are not moved: the line that is reported, and what in the inputs it comes of.
use Rattle.std.specs.Prelude.{◌≡◌, ◌⊎◌, ℕ, Bool, true, false, if◌then◌else◌, List, [], ◌∷◌, ◌++◌, codes, map, Option, Some, None, Err, bytes_eq}
use Rattle.std.specs.Fmt.{decimal}
use Rattle.std.specs.List.{All}
use Rattle.std.specs.Option.{option_and_then, option_map}
use Rattle.std.specs.String.{string_bytes}
use Rattle.c25_disk.specs.FaultNames.{file_fault_name, file_fault_number}
use Rattle.c25_disk.specs.Held.{Held, IsAllOf}
use Rattle.c25_disk.specs.declared.fault.FileFault.{FileFault}
use Rattle.c25_disk.specs.declared.fault.FileFault.TheVariants.{CannotRead, FileTwice}
use Rattle.c25_hex.specs.Faults.{hex_name, hex_number}
use Rattle.c25_hex.specs.Hex.{bytes_given}
use Rattle.c25_hex.specs.declared.hex_fault.HexFault.{HexFault}
use Rattle.c25_meaning_common.specs.declared.placed.Placed.{Placed}
use Rattle.c25_move.specs.declared.code_page.CodePage.{CodePage}
use Rattle.c25_move_lines.specs.declared.around.LongOrder.{LongOrder}
use Rattle.c25_move_lines.specs.declared.around.LongOrder.TheVariants.{Low, High}
use Rattle.c25_move_lines.specs.declared.style.Style.{Style}
use Rattle.c25_move_lines.specs.declared.style.Style.TheVariants.{Early, Coff}
use Rattle.c25_move_files.specs.Files.{IsRead, Old, old_of}
use Rattle.c25_move_files.specs.Names.{last_part}
use Rattle.c25_move_files.specs.Styles.{OldLine, first_shown}
use Rattle.c25_move_files.specs.Task.{code_page_named, style_named}
use Rattle.c25_move_files.specs.declared.gathered.OldSources.{OldSources}
use Rattle.c25_move_files.specs.declared.old.OldFile.{OldFile}
use Rattle.c25_move_files.specs.declared.refusals.Refusal.{Refusal}
use Rattle.c25_move_files.specs.declared.refusals.Refusal.TheVariants.{Faulty, Misused, NoMemory}

-- a refusal of inputs, with a line of which this holds, unless memory ran out
abbrev pub IsFaulty : (List ℕ → Type 0) → Refusal → Type 0
IsFaulty holds (Faulty line) = holds (string_bytes line)
IsFaulty holds (Misused line) = ⊥
IsFaulty holds (NoMemory error) = Unit {0}

-- a refusal of an option's argument, with a line of which this holds, unless memory ran out
abbrev pub IsMisused : (List ℕ → Type 0) → Refusal → Type 0
IsMisused holds (Faulty line) = ⊥
IsMisused holds (Misused line) = holds (string_bytes line)
IsMisused holds (NoMemory error) = Unit {0}

-- ---- arguments of options

abbrev pub no_style_line : (word : List ℕ) → List ℕ
no_style_line word = codes "c25: --style takes 1987 or spru018, not " ++ word

-- the argument of `--style`, if it is given, names no style
abbrev pub IsNoStyle : Option (List ℕ) → (line : List ℕ) → Type 0
IsNoStyle None line = ⊥
IsNoStyle (Some word) line = (style_named word ≡ None) × (line ≡ no_style_line word)

-- the order of this name
abbrev pub order_named : List ℕ → Option LongOrder
order_named name = if bytes_eq name (codes "low") then Some Low else (if bytes_eq name (codes "high") then Some High else None)

-- the order that the argument of `--long-order` names, if it is given
abbrev pub order_asked : Option (List ℕ) → Option LongOrder
order_asked word = option_and_then order_named word

abbrev pub no_order_line : (word : List ℕ) → List ℕ
no_order_line word = codes "c25: --long-order takes low or high, not " ++ word

-- the argument of `--long-order`, if it is given, names no order
abbrev pub IsNoOrder : Option (List ℕ) → (line : List ℕ) → Type 0
IsNoOrder None line = ⊥
IsNoOrder (Some word) line = (order_named word ≡ None) × (line ≡ no_order_line word)

abbrev pub no_code_page_line : (word : List ℕ) → List ℕ
no_code_page_line word = codes "c25: --from takes cp437 or latin1, not " ++ word

-- the argument of `--from`, if it is given, names no code page
abbrev pub IsNoCodePage : Option (List ℕ) → (line : List ℕ) → Type 0
IsNoCodePage None line = ⊥
IsNoCodePage (Some word) line = (code_page_named word ≡ None) × (line ≡ no_code_page_line word)

-- ---- files that are read

-- the line of a file's fault
abbrev pub file_line : (name : List ℕ) → FileFault → List ℕ
file_line name fault = name ++ codes ": " ++ decimal (file_fault_number fault) ++ codes " " ++ file_fault_name fault

-- a line of a file, as editors read it
abbrev pub place_line : (file : List ℕ) → (line : ℕ) → List ℕ
place_line file line = file ++ codes ":" ++ decimal line

-- whether one of these names has this last part
unfoldable pub has_part : (names : List (List ℕ)) → (part : List ℕ) → Bool
has_part [] part = false
has_part (n ∷ ns) part = if bytes_eq (last_part n) part then true else has_part ns part

-- the fault of a source after those of these names: its new file would have the name of another one's (37), or it cannot
-- be read (8)
abbrev pub source_fault : (before : List (List ℕ)) → (name : List ℕ) → FileFault
source_fault before name = if has_part before (last_part name) then FileTwice else CannotRead

-- the names of old files
abbrev pub names_of : List OldFile → List (List ℕ)
names_of files = map (λ f. (old_of f).name) files

-- of the sources of these names, all are read up to one that has a fault
pub record IsUnread (held : Held) (page : CodePage) (names : List (List ℕ)) (line : List ℕ) : Type 0 where
  pub before : List OldFile
  pub name : List ℕ
  pub further : List (List ℕ)
  pub split : names ≡ names_of before ++ name ∷ further
  pub read : All (λ f. IsRead held page (old_of f)) before
  pub reported : line ≡ file_line name (source_fault (names_of before) name)

-- the command file of this name, if one is named, cannot be read
abbrev pub IsCommandUnread : Option (List ℕ) → (line : List ℕ) → Type 0
IsCommandUnread None line = ⊥
IsCommandUnread (Some name) line = line ≡ file_line name CannotRead

-- ---- the style

-- the line that says that files show both styles
abbrev pub both_line : (early coff : OldLine) → List ℕ
both_line early coff =
    place_line early.file early.line ++ codes " is of style 1987, and " ++ place_line coff.file coff.line ++ codes " of style spru018: say --style"

-- there are first lines of both styles
abbrev pub AreBoth : (early coff : Option OldLine) → (line : List ℕ) → Type 0
AreBoth (Some early) (Some coff) line = line ≡ both_line early coff
AreBoth (Some early) None line = ⊥
AreBoth None coff line = ⊥

-- files show both styles
abbrev pub ShowBoth : List Old → (line : List ℕ) → Type 0
ShowBoth files line = AreBoth (first_shown Early files) (first_shown Coff files) line

-- files show both styles, and none is asked for
abbrev pub ShowBothUnasked : (asked : Option Style) → List Old → (line : List ℕ) → Type 0
ShowBothUnasked None files line = ShowBoth files line
ShowBothUnasked (Some style) files line = ⊥

-- the sources, all read, show both styles, and none is asked for
pub record AreOfBoth (held : Held) (asked : OldSources) (line : List ℕ) : Type 0 where
  pub sources : List OldFile
  pub named : names_of sources ≡ map (λ n. n.now) asked.names.now
  pub read : All (λ f. IsRead held asked.code_page (old_of f)) sources
  pub both : ShowBothUnasked asked.style (map old_of sources) line

-- ---- old files

-- why the old files of sources are not read
abbrev pub AreRefused : Held → OldSources → (line : List ℕ) → Type 0
AreRefused held asked line =
    IsUnread held asked.code_page (map (λ n. n.now) asked.names.now) line
    ⊎ (AreOfBoth held asked line ⊎ IsCommandUnread (option_map (λ n. n.now) asked.command) line)

-- ---- the old program

-- the line of a hex text's fault
abbrev pub hex_line : (name : List ℕ) → Placed ℕ HexFault → List ℕ
hex_line name f = place_line name f.place ++ codes ": " ++ decimal (hex_number f.fault) ++ codes " " ++ hex_name f.fault

-- a text, that of a file of this name, has a fault as a hex text
pub record IsBadHex (text name line : List ℕ) : Type 0 where
  pub fault : Placed ℕ HexFault
  pub faulty : bytes_given text ≡ Err fault
  pub reported : line ≡ hex_line name fault

-- why the old program is not read
abbrev pub IsNoProgram : Held → (name line : List ℕ) → Type 0
IsNoProgram held name line = (line ≡ file_line name CannotRead) ⊎ ((text : List ℕ) × IsAllOf (held name) text × IsBadHex text name line)
