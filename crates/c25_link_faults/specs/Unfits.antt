-- A section that does not fit, and the ranges that it may be placed in.
use Rattle.std.specs.Prelude.{ℕ, List, [], ◌∷◌, Option, Some, None, map, unwrap_or, if◌then◌else◌}
use Rattle.std.specs.List.{flat_map}
use Rattle.std.specs.Option.{option_map}
use Rattle.c25_meaning_linking.specs.Command.{CommandData, PlacingData, RangeData, TargetData}
use Rattle.c25_meaning_linking.specs.GoodMap.{Request, is_usable, placings_for, ranges_for, request, usable}
use Rattle.c25_meaning_linking.specs.Place.{size_of_parts}
use Rattle.c25_meaning_objects.specs.Module.{Contents}
use Rattle.c25_place.specs.Missing.{placing_named}
use Rattle.c25_place.specs.Requests.{unlisted}
use Rattle.c25_link_faults.specs.Overlaps.{SpanData, span_data, span_from, span_of, within_page}
use Rattle.c25_link_faults.specs.declared.unfits.Unfit.{Unfit}

-- what a command says of the section of a name: what SECTIONS says of it, or nothing
abbrev pub placing_for : CommandData → List ℕ → PlacingData
placing_for command name = unwrap_or (placing_named name (placings_for command)) (unlisted name)

-- the section of a name, with what a command says of it, as it is to be placed
abbrev pub request_by : List Contents → List ℕ → PlacingData → Request
request_by modules name p = request modules name p.target p.page p.run

-- the section of a name, as it is to be placed under a command
abbrev pub request_for : List Contents → CommandData → List ℕ → Request
request_for modules command name = request_by modules name (placing_for command name)

-- a range by its first and its last word, if it has words and all of them are words of a page
abbrev pub whole_range : RangeData → Option SpanData
whole_range r = span_from r.name r.page r.origin r.size

-- what one range adds to ranges by their words
abbrev pub range_span : RangeData → List SpanData
range_span r = elim (whole_range r) [ None ↦ [] | Some s ↦ s ∷ [] ]

-- the ranges that a section may be placed in, in the order of MEMORY
abbrev pub range_spans : List RangeData → Request → List SpanData
range_spans ranges r = flat_map range_span (usable ranges r)

-- a section that is to be placed: how many words it has, if a page has room for so many; its words, if SECTIONS
-- gives an address; and the ranges that it may be placed in
pub record UnfitData : Type 0 where
  pub size : Option ℕ
  pub span : Option SpanData
  pub ranges : List SpanData

-- the section of a name of modules under a command
abbrev pub unfit_of : List Contents → CommandData → List ℕ → UnfitData
unfit_of modules command name = record {
  size = within_page (size_of_parts name modules);
  span = span_of modules (placing_for command name);
  ranges = range_spans (ranges_for command) (request_for modules command name);
}

-- ---- how the code has it

-- what one range adds, if it is one for a target on a page
abbrev pub usable_span : TargetData → ℕ → RangeData → List SpanData
usable_span target page r = if is_usable target page r then range_span r else []

-- a section that is to be placed, as clauses see it
abbrev pub unfit_data : Unfit → UnfitData
unfit_data u = record { size = u.size; span = option_map span_data u.span; ranges = map span_data u.ranges.items }
