-- What this crate's types stand for among the definitions' data.
use Rattle.std.specs.Prelude.{ℕ, List, map, String, string_bytes, Option}
use Rattle.std.specs.Borrow.{Bor}
use Rattle.std.specs.HashMap.{HashMap, get_by}
use Rattle.std.specs.Str.{bytes_eq}
use Rattle.std.specs.declared.alloc.Global.{Global}
use Rattle.c25_meaning_linking.specs.Command.{RangeData, TargetData}
use Rattle.c25_meaning_linking.specs.Command as command
use Rattle.c25_meaning_linking.specs.GoodMap as good
use Rattle.c25_meaning_linking.specs.Place as place
use Rattle.c25_meaning_linking.specs.Place.{blocks_of}
use Rattle.c25_meaning_objects.specs.Module.{Contents, SectionData}
use Rattle.c25_meaning_common.specs.declared.placed.Placed.{Placed}
use Rattle.c25_meaning_linking.specs.declared.link_fault.LinkFault.{LinkFault}
use Rattle.c25_module.specs.declared.parts.Section.{Section}
use Rattle.c25_module.specs.View.{section_data}
use Rattle.c25_place.specs.declared.placement.Place.{Place}
use Rattle.c25_place.specs.declared.ranges.PageRange.{PageRange}
use Rattle.c25_place.specs.declared.requests.Request.{Request}
use Rattle.c25_place.specs.declared.requests.Wanted.{Wanted}
use Rattle.c25_place.specs.declared.requests.Wanted.TheVariants as wanted

-- a refusal with the bytes of its name
abbrev pub refusal_of : Placed (String Global) LinkFault → Placed (List ℕ) LinkFault
refusal_of f = record { place = string_bytes f.place; fault = f.fault }

-- what a map from names has for a name
abbrev pub named : {V S : Type 0} → HashMap (Bor (List ℕ)) V S → List ℕ → Option V
named m name = get_by (λ k. bytes_eq name k.now) m

-- borrowed sections, as the definitions have them
abbrev pub sections_view : List (Bor Section) → List SectionData
sections_view sections = map (λ s. section_data s.now) sections

-- a range, as the definitions have it
abbrev pub range_view : PageRange → RangeData
range_view r = record { page = r.page; name = r.name.now; origin = r.origin; size = r.size }

-- ranges, as the definitions have them
abbrev pub ranges_view : List PageRange → List RangeData
ranges_view ranges = map range_view ranges

-- where a section is to stand
abbrev pub wanted_view : Wanted → TargetData
wanted_view wanted.Anywhere = command.Anywhere
wanted_view (wanted.InRange name) = command.InRange name.now
wanted_view (wanted.At address) = command.At address

-- a section of modules that is to be placed
abbrev pub request_view : List Contents → Request → good.Request
request_view modules r = record {
  name = r.name.now;
  size = r.size;
  initialised = r.initialised;
  target = wanted_view r.wanted;
  page = r.page;
  blocks = blocks_of r.name.now modules;
  run = r.run;
}

-- sections of modules that are to be placed
abbrev pub requests_view : List Contents → List Request → List good.Request
requests_view modules requests = map (request_view modules) requests

-- a place, as the definitions have it
abbrev pub place_view : Place → place.Place
place_view p = record { name = p.name.now; page = p.page; base = p.base; size = p.size; run = p.run }

-- places, as the definitions have them
abbrev pub places_view : List Place → List place.Place
places_view places = map place_view places
