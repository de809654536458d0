-- A flag for each word of each section.
use Rattle.std.specs.Prelude.{ℕ, Bool, true, false, List, length, map, set, replicate, slice_get, Option, Some, None}
use Rattle.c25_meaning_objects.specs.Module.{SectionData, body_words}
use Rattle.c25_meaning_objects.specs.declared.object.Relocation.{Relocation}
use Rattle.c25_listing.specs.declared.flags.Flags.{Flags}

-- a flag, false where there is none
abbrev pub flag_by : Option Bool → Bool
flag_by None = false
flag_by (Some b) = b

-- the flag at an offset of a section, false where there is none
abbrev pub flag_in : Option (List Bool) → ℕ → Bool
flag_in None offset = false
flag_in (Some flags) offset = flag_by (slice_get flags offset)

-- the flag at an offset of a section, by the section's number; false where there is none
abbrev pub flag_at : List (List Bool) → ℕ → ℕ → Bool
flag_at all section offset = flag_in (slice_get all section) offset

-- a section's flags, one of them set if it is there
abbrev pub raised_by : Option Bool → List Bool → ℕ → List Bool
raised_by None flags offset = flags
raised_by (Some b) flags offset = set flags offset true

-- a section's flags, the one at an offset set
abbrev pub raised : List Bool → ℕ → List Bool
raised flags offset = raised_by (slice_get flags offset) flags offset

-- the flags of all sections, one of them set, if it is there
abbrev pub with_flag_by : Option (List Bool) → List (List Bool) → ℕ → ℕ → List (List Bool)
with_flag_by None all section offset = all
with_flag_by (Some flags) all section offset = set all section (raised flags offset)

-- the flags of all sections, that of a relocation's word set
abbrev pub with_flag : List (List Bool) → Relocation → List (List Bool)
with_flag all r = with_flag_by (slice_get all r.section) all r.section r.offset

-- flags for the words of sections, none set
abbrev pub no_flags : List SectionData → List (List Bool)
no_flags sections = map (λ s. replicate (length (body_words s.body)) false) sections

-- all flags, section by section
abbrev pub flags_of : Flags → List (List Bool)
flags_of f = f.sections.items
