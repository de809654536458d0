-- Where the parts of modules begin, by the low 32 bits of their addresses, as the code has it.
use Rattle.std.specs.Prelude.{◌≡◌, ℕ, ◌+◌, ◌%◌, ◌^◌, List, Option, option_map, unwrap_or}
use Rattle.std.specs.List.{sum_by}
use Rattle.c25_meaning_objects.specs.Module.{SectionData}
use Rattle.c25_meaning_linking.specs.Place.{Place, base_of, place_named, run_base, run_base_of, size_for}
use Rattle.c25_symbols.specs.View.{named}
use Rattle.c25_symbols.specs.declared.parts.NextStarts.{NextStarts}
use Rattle.c25_symbols.specs.declared.parts.PartStart.{PartStart}

-- two numbers have the same low 32 bits
abbrev pub AreAlike : ℕ → ℕ → Type 0
AreAlike a b = a % 2 ^ 32 ≡ b % 2 ^ 32

-- a part begins here, as it is loaded and as it runs
pub record BeginsAt (p : PartStart) (base run : ℕ) : Type 0 where
  pub base_is : AreAlike p.base base
  pub run_is : AreAlike p.run run

-- the start of a part for a section that no place is known of
abbrev pub at_zero : PartStart
at_zero = record { base = 0; run = 0 }

-- where the first part of a section begins
abbrev pub first_part : Place → PartStart
first_part p = record { base = p.base; run = run_base p }

-- where the first part of the section of a name begins
abbrev pub first_of : List Place → List ℕ → Option PartStart
first_of places name = option_map first_part (place_named name places)

-- where the next part of a section begins
abbrev pub next_of : NextStarts → List ℕ → PartStart
next_of next name = unwrap_or (named next.found name) at_zero

-- how many words sections add to the section of a name
abbrev pub size_of_sections : List ℕ → List SectionData → ℕ
size_of_sections name sections = sum_by (size_for name) sections

-- the next part of each section begins after the parts of these sections
abbrev pub KnowsNext : NextStarts → List Place → List SectionData → Type 0
KnowsNext next places sections = (name : List ℕ)
    → BeginsAt (next_of next name) (base_of name places + size_of_sections name sections) (run_base_of name places + size_of_sections name sections)
