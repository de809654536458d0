-- The words that a source reserves: a reservation for each `.bss` and `.usect`, in the order of its lines, and
-- where its words lie in the module (SPRU018, `.bss`, `.usect`).
use Rattle.std.specs.Prelude.{◌≡◌, ◌≤◌, ℕ, zero, suc, ◌+◌, Bool, true, if◌then◌else◌, List, [], ◌∷◌, ◌++◌, Option, Some, None, Result, Ok, Err}
use Rattle.std.specs.List.{Contains, slice_get}
use Rattle.std.specs.Str.{bytes_eq}
use Rattle.c25_meaning_assembly.specs.AssemblyLine.{Room, AssemblyAct, Reserve, read_statement}
use Rattle.c25_meaning_assembly.specs.ModuleOfSource.{LinesSoFar, no_lines, pass_line}
use Rattle.c25_meaning_assembly.specs.Sections.{Definitions, Progress, count_in, flag_in, label, place, table}
use Rattle.c25_meaning_common.specs.Results.{◌>>=◌}
use Rattle.c25_meaning_expansion.specs.Expansion.{Config}
use Rattle.c25_meaning_expansion.specs.ExpansionAnswers.{ExpandedLine, given_by}
use Rattle.c25_meaning_expansion.specs.ExpansionRuns.{first, start_of}
use Rattle.c25_meaning_expansion.specs.Files.{Files}
use Rattle.c25_meaning_language.specs.declared.statement.FaultKind.{FaultKind}
use Rattle.c25_meaning_objects.specs.Module.{Contents, SectionData, Uninitialised}

-- ---- what a source reserves

-- so many words of a section for a name, and whether they must lie in one data page
pub record Reservation : Type 0 where
  pub section : List ℕ
  pub name : List ℕ
  pub count : ℕ
  pub paged : Bool

-- what follows from a result; nothing, where it is a fault
abbrev pub found_in : {A B E : Type 0} → Result A E → (A → List B) → List B
found_in (Ok x) f = f x
found_in (Err e) f = []

-- the reservation with the values that the expressions of the count and of the flag have now
abbrev pub reservation : List ℕ → List ℕ → Progress → Room → Result Reservation FaultKind
reservation section name p room =
    count_in (table p) room.count >>= λ n. flag_in (table p) room.flag >>= λ paged.
    Ok (record { section = section; name = name; count = n; paged = paged })

-- what an act reserves
abbrev pub reserved_by : AssemblyAct → Progress → List Reservation
reserved_by (Reserve section name room) p = found_in (room >>= λ r. reservation section name p r) (λ r. r ∷ [])
reserved_by _ p = []

-- what a line reserves, once its label stands for an address
abbrev pub reserved_on : ExpandedLine → Progress → List Reservation
reserved_on l p = found_in (read_statement l.text) (λ s. found_in (label s.label p) (λ q. reserved_by s.act q))

-- what a line and those after it reserve; nothing, where expansion gives no line
abbrev pub reserved_with : Option (ExpandedLine × Config) → (Config → LinesSoFar → List Reservation) → LinesSoFar → List Reservation
reserved_with None later a = []
reserved_with (Some (l, c)) later a = reserved_on l a.progress ++ found_in (pass_line l a) (later c)

-- what the lines reserve that expansion gives from a configuration on, at most `n` of them
unfoldable pub reserved_from : Files → ℕ → Config → LinesSoFar → List Reservation
reserved_from files zero c a = []
reserved_from files (suc n) c a = reserved_with (given_by files (first files (table a.progress) c)) (reserved_from files n) a

-- what the lines of a module reserve whose expansion starts so
abbrev pub reserved_since : Files → Option Config → List Reservation
reserved_since files None = []
reserved_since files (Some c) = reserved_from files 200001 c no_lines

-- the reservations of the source of this name, in the order of its lines
abbrev pub reservations_in : Files → List ℕ → List Reservation
reservations_in files name = reserved_since files (start_of files name)

-- ---- where the words lie

-- how many words a reservation has in the section of this name
abbrev pub reserved_part : List ℕ → Reservation → ℕ
reserved_part section r = if bytes_eq r.section section then r.count else 0

-- how many words reservations have in the section of this name
abbrev pub reserved_words : List ℕ → List Reservation → ℕ
reserved_words section [] = 0
reserved_words section (r ∷ rs) = reserved_part section r + reserved_words section rs

-- a reservation in a module: its name stands for the word of its section after those of the reservations
-- before, its words lie in the section, and are a block of 1 to 128 words if they must lie in one page
pub record IsReserved (m : Contents) (names : Definitions) (before : List Reservation) (r : Reservation) : Type 0 where
  pub number : ℕ
  pub section : SectionData
  pub size : ℕ
  pub section_is : slice_get m.sections number ≡ Some section
  pub name_is : section.name ≡ r.section
  pub body_is : section.body ≡ Uninitialised size
  pub inside : reserved_words r.section before + r.count ≤ size
  pub value_is : Contains names (r.name, place number (reserved_words r.section before))
  pub block_is : r.paged ≡ true → Contains m.blocks (record { section = number; offset = reserved_words r.section before; size = r.count })
  pub block_small : r.paged ≡ true → (1 ≤ r.count) × (r.count ≤ 128)
