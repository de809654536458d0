-- The warnings of a command file, for the modules that are linked under it.
use Rattle.std.specs.Prelude.{ℕ, ◌==◌, Bool, not, ◌||◌, ◌&&◌, nat_lt, List, [], ◌∷◌, ◌++◌, codes, if◌then◌else◌}
use Rattle.std.specs.List.{flat_map, list_any}
use Rattle.std.specs.Str.{bytes_eq}
use Rattle.c25_meaning_linking.specs.Command.{CommandData, PlacingData}
use Rattle.c25_meaning_linking.specs.GoodMap.{placings_for}
use Rattle.c25_meaning_linking.specs.Place.{Place, all_sections, is_section_named, is_there}
use Rattle.c25_meaning_objects.specs.Module.{Contents, SectionData, body_size, has_words}
use Rattle.c25_warnings.specs.declared.warning.LinkWarningKind.{LinkWarningKind}
use Rattle.c25_warnings.specs.declared.warning.LinkWarningKind.TheVariants as warning

-- a warning: its kind, and the section that it names
pub record LinkWarning : Type 0 where
  pub kind : LinkWarningKind
  pub section : List ℕ

-- whether a section is uninitialised, has this name, and has words
abbrev pub reserves : List ℕ → SectionData → Bool
reserves name s = not (has_words s.body) && nat_lt 0 (body_size s.body) && is_section_named name s

-- whether a section of the program is placed in program memory and has words that a module reserves
abbrev pub is_in_program : List Contents → Place → Bool
is_in_program modules p = p.page == 0 && list_any (reserves p.name) (all_sections modules)

-- whether a command file may list this section for any program
abbrev pub is_standard : List ℕ → Bool
is_standard name = bytes_eq name (codes ".text") || bytes_eq name (codes ".data") || bytes_eq name (codes ".bss")

-- whether SECTIONS lists a section that no module has
abbrev pub is_absent : List Contents → PlacingData → Bool
is_absent modules p = not (is_standard p.name) && not (is_there p.name modules)

-- a warning of a section
abbrev pub warned : LinkWarningKind → List ℕ → LinkWarning
warned kind name = record { kind = kind; section = name }

-- the warning of a section where it is placed
abbrev pub of_place : List Contents → Place → List LinkWarning
of_place modules p = if is_in_program modules p then warned warning.ReservedInProgram p.name ∷ [] else []

-- the warning of a section that SECTIONS lists
abbrev pub of_placing : List Contents → PlacingData → List LinkWarning
of_placing modules p = if is_absent modules p then warned warning.AbsentSection p.name ∷ [] else []

-- the warnings of a command whose sections are placed so: of sections in the order in which they were placed, and
-- then of those that it lists, in the order of its text
abbrev pub warnings_of_link : List Contents → CommandData → List Place → List LinkWarning
warnings_of_link modules c places = flat_map (of_place modules) places ++ flat_map (of_placing modules) (placings_for c)
