-- Where the parts of modules begin, as the code has it.
use Rattle.std.specs.Prelude.{◌≡◌, ◌≤◌, ℕ, ◌+◌, List, IfSome, Option, Some, None, option_map, take}
use Rattle.std.specs.List.{slice_get}
use Rattle.std.specs.declared.alloc.Global.{Global}
use Rattle.std.specs.declared.vec.Vec.{Vec}
use Rattle.c25_meaning_objects.specs.Module.{SectionData, Contents, body_size}
use Rattle.c25_meaning_linking.specs.Place.{Place, place_named, page_of, part_base, size_of_parts, IsPart}
use Rattle.c25_place.specs.View.{named}
use Rattle.c25_place.specs.Outputs.{size_of_sections}
use Rattle.c25_link.specs.declared.bases.PartBase.{PartBase}
use Rattle.c25_link.specs.declared.bases.Bases.{Bases}
use Rattle.c25_link.specs.declared.bases.NextParts.{NextParts}

-- where the section of a name runs, if that is not where it is loaded
abbrev pub run_of : List ℕ → List Place → Option ℕ
run_of name places = elim (place_named name places) [ None ↦ None | Some p ↦ p.run ]

-- where the part of a module's section begins
abbrev pub part_of : List Contents → List Place → ℕ → SectionData → PartBase
part_of modules places number s = record {
  page = page_of s.name places;
  base = part_base modules places number s.name;
  run = option_map (λ run. run + size_of_parts s.name (take number modules)) (run_of s.name places);
}

-- the parts of a module, by the numbers of their sections
abbrev pub parts_of : List Contents → List Place → ℕ → Contents → ℕ → Option PartBase
parts_of modules places number m index = option_map (part_of modules places number) (slice_get m.sections index)

-- the part of a number in the list of a number, if there is one
abbrev pub part_in : List (Vec PartBase Global) → ℕ → ℕ → Option PartBase
part_in lists number index = elim (slice_get lists number) [ None ↦ None | Some parts ↦ slice_get parts.items index ]

-- the part of a number in the module of a number
abbrev pub part_at : Bases → ℕ → ℕ → Option PartBase
part_at bases number index = part_in bases.modules.items number index

-- each part of each module begins where the code says
abbrev pub KnowsBases : Bases → List Contents → List Place → Type 0
KnowsBases bases modules places =
    (number index : ℕ) (m : Contents) → slice_get modules number ≡ Some m → part_at bases number index ≡ parts_of modules places number m index

-- the next part of a section at a place, after the parts that these sections have of it
abbrev pub next_part : List SectionData → Place → PartBase
next_part sections p = record {
  page = p.page;
  base = p.base + size_of_sections p.name sections;
  run = option_map (λ run. run + size_of_sections p.name sections) p.run;
}

-- the next part of each section begins after the parts of these sections
abbrev pub KnowsNext : NextParts → List Place → List SectionData → Type 0
KnowsNext next places sections = (name : List ℕ) → named next.found name ≡ option_map (next_part sections) (place_named name places)

-- a section has a place of its name on page 0 or 1, and its part ends within the page, where it is loaded and where it runs
pub record HasRoomFor (modules : List Contents) (places : List Place) (number : ℕ) (section : SectionData) : Type 0 where
  pub place : Place
  pub found : place_named section.name places ≡ Some place
  pub page : place.page ≤ 1
  pub within : part_base modules places number section.name + body_size section.body ≤ 65536
  pub runs : IfSome place.run (λ run. run + size_of_parts section.name (take number modules) + body_size section.body ≤ 65536)

-- each section of each module has room for its part
abbrev pub HasRoom : List Contents → List Place → Type 0
HasRoom modules places =
    (number index : ℕ) (owner : Contents) (section : SectionData) → IsPart modules number index owner section → HasRoomFor modules places number section

-- the place of a section has room for one more part after the parts of these sections, where it is loaded and
-- where it runs
pub record HasPlaceFor (places : List Place) (sections : List SectionData) (section : SectionData) (p : Place) : Type 0 where
  pub found : place_named section.name places ≡ Some p
  pub within : p.base + size_of_sections section.name sections + body_size section.body ≤ 65536
  pub runs : IfSome p.run (λ run. run + size_of_sections section.name sections + body_size section.body ≤ 65536)
