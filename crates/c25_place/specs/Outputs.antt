-- The modules' sections of one name, in sum.
use Rattle.std.specs.Prelude.{◌≡◌, ◌≤◌, ℕ, Bool, ◌&&◌, List, All, Option, Some, None, if◌then◌else◌}
use Rattle.std.specs.List.{list_any, sum_by}
use Rattle.c25_meaning_objects.specs.Module.{SectionData, body_size, has_words}
use Rattle.c25_meaning_linking.specs.Place.{is_section_named, size_for}
use Rattle.std.specs.Borrow.{Bor}
use Rattle.c25_module.specs.declared.parts.Section.{Section}
use Rattle.c25_module.specs.View.{body_data}
use Rattle.c25_place.specs.View.{named}
use Rattle.c25_place.specs.declared.outputs.Output.{Output}
use Rattle.c25_place.specs.declared.outputs.Outputs.{Outputs}

-- how many words sections add to the section of a name
abbrev pub size_of_sections : List ℕ → List SectionData → ℕ
size_of_sections name sections = sum_by (size_for name) sections

-- whether a section of a name is initialised
abbrev pub any_words : List ℕ → List SectionData → Bool
any_words name sections = list_any (λ s. is_section_named name s && has_words s.body) sections

-- the sum of the sections of a name, if there are any
abbrev pub output_of : List ℕ → List SectionData → Option Output
output_of name sections =
    if list_any (is_section_named name) sections then Some (record { size = size_of_sections name sections; initialised = any_words name sections }) else None

-- no section has more words than a page
abbrev pub AreSmall : List (Bor Section) → Type 0
AreSmall sections = All (λ s. body_size (body_data s.now.body) ≤ 65536) sections

-- each name has the sum of the sections of that name
abbrev pub KnowsOutputs : Outputs → List SectionData → Type 0
KnowsOutputs outputs sections = (name : List ℕ) → named outputs.found name ≡ output_of name sections
