-- What is at an address of program memory, and how it is said.
use Rattle.std.specs.Prelude.{ℕ, zero, suc, ◌+◌, ◌%◌, ◌==◌, Bool, true, false, ◌&&◌, List, ◌++◌, Option, Some, None, find, nat_le, nat_lt, if◌then◌else◌}
use Rattle.std.specs.Option.{option_map}
use Rattle.c25_meaning_image.specs.Marks.{is_code, size_at}
use Rattle.c25_meaning_linking.specs.Linking.{ImageData, line_at}
use Rattle.c25_meaning_linking.specs.MapText.{MapData, SectionPlace}
use Rattle.c25_meaning_linking.specs.Place.{Place}
use Rattle.c25_run_ends.specs.Texts.{after_text, around_by, nothing_text, place_end, repeated_text, second_text, instruction_text, word_text, written_text}

-- ---- sections of program memory

-- whether a section has the word at an address of program memory
unfoldable pub has_word : ℕ → SectionPlace → Bool
has_word address s = s.place.page == 0 && nat_le s.place.base address && nat_lt address (s.place.base + s.place.size)

-- whether a section ends just before an address of program memory, and has words
unfoldable pub ends_before : ℕ → SectionPlace → Bool
ends_before address s = s.place.page == 0 && nat_lt 0 s.place.size && (s.place.base + s.place.size == address)

-- ---- instructions

-- where the instruction stands that has its first word at an address, or else the one that has it just before
abbrev pub line_near : ImageData → ℕ → Option (List ℕ × ℕ) → Option (List ℕ × ℕ)
line_near image address (Some place) = Some place
line_near image address None = line_at ((address + 65535) % 65536) image.lines

-- ---- an address at which no instruction was to be run

-- the place of the first section of which this holds, if there is one
abbrev pub place_in : (SectionPlace → Bool) → MapData → Option Place
place_in holds described = option_map (λ s. s.place) (find holds described.sections)

-- where the last instruction stands that begins below an address and not below a base, of those whose place is known
abbrev pub line_or : Option (List ℕ × ℕ) → Option (List ℕ × ℕ) → Option (List ℕ × ℕ)
line_or (Some place) below = Some place
line_or None below = below

abbrev pub line_below : ImageData → (base : ℕ) → ℕ → Option (List ℕ × ℕ)
line_below image base zero = None
line_below image base (suc address) = if nat_le base address then line_or (line_at address image.lines) (line_below image base address) else None

-- the text of an address that no section has, with the section that ends just before it, if there is one
abbrev pub missing_text : ℕ → Option Place → List ℕ
missing_text address (Some place) = after_text address place.name
missing_text address None = nothing_text address

-- the text of an address where no instruction begins, with the section that has its word, if there is one
abbrev pub empty_text : ImageData → ℕ → Option Place → List ℕ
empty_text image address (Some place) = word_text address place.name ++ around_by (line_below image place.base address)
empty_text image address None = missing_text address (place_in (ends_before address) image.described)

-- the text of an address where no instruction begins, by whether its word belongs to one
abbrev pub middle_text : ImageData → ℕ → (code : Bool) → List ℕ
middle_text image address true = second_text address (place_end (line_near image address (line_at address image.lines)))
middle_text image address false = empty_text image address (place_in (has_word address) image.described)

-- the text of an address, with the size of the instruction that begins there, if one does
abbrev pub ground_by : ImageData → ℕ → Option ℕ → List ℕ
ground_by image address (Some size) = instruction_text address
ground_by image address None = middle_text image address (is_code image.marks address)

-- what is at an address at which a run left the code
abbrev pub ground_text : ImageData → ℕ → List ℕ
ground_text image address = ground_by image address (size_at image.marks address)

-- ---- a word of an instruction that was to be written

-- the text of a TBLW with this address in ACC, by whether it is outside a repeat
abbrev pub tblw_text : ImageData → ℕ → (settled : Bool) → List ℕ
tblw_text image address true = written_text address (place_end (line_near image address (line_at address image.lines)))
tblw_text image address false = repeated_text address
