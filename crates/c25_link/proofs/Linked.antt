-- Modules linked: where their sections stand there is room for all parts, and what is made there is their program.
use Rattle.std.proofs.Common.{◌≡◌, ℕ, ◌+◌, ◌<◌, ◌≤◌, List, [], ◌∷◌, ◌++◌, reverse, take, get_or, Option, Some, None, Result, Ok, Err, All, String, sym, subst, arith, inr}
use Rattle.std.specs.Prelude.{IfSome}
use Rattle.std.specs.Str.{bytes_eq}
use Rattle.std.specs.declared.alloc.Global.{Global}
use Rattle.std.proofs.lemmas.List.{reverse-reverse, reverse-append}
use Rattle.std.proofs.lemmas.List.Elements.{All-nil, All-cons, All-head, All-tail, All-push, All-same, All-map}
use Rattle.std.proofs.lemmas.Option.{slice_get-get_or}
use Rattle.c25_meaning_linking.specs.Command.{CommandData, RangeData}
use Rattle.c25_meaning_linking.specs.GoodMap.{IsGoodMap, Request, RunsAt, Stand, ranges_for, placings_for, requests}
use Rattle.c25_meaning_linking.specs.Linking.{ImageData, names_checked}
use Rattle.c25_meaning_objects.specs.Module.{Contents, IsModule, body_size}
use Rattle.c25_meaning_linking.specs.Place.{Place, size_of_parts}
use Rattle.c25_meaning_common.specs.declared.failure.Failure.{Failure}
use Rattle.c25_meaning_common.specs.declared.failure.Failure.TheVariants.{NoMemory, Fault}
use Rattle.c25_meaning_common.specs.declared.placed.Placed.{Placed}
use Rattle.c25_meaning_linking.specs.declared.link_fault.LinkFault.{LinkFault}
use Rattle.c25_meaning_linking.proofs.Parts.{part_in_place, one_part}
use Rattle.c25_place.specs.Placement.{IsWithin}
use Rattle.c25_place.specs.View.{place_view, places_view}
use Rattle.c25_place.specs.declared.placement.Place as code
use Rattle.c25_link.specs.Bases.{HasRoom}
use Rattle.c25_link.specs.Layout.{AreModules, HasOnePart}
use Rattle.c25_link.specs.Link.{Links, LinksAt}
use Rattle.c25_link.proofs.Owned.{found_holds}

-- ---- places within their pages

pub record IsWithinPage (p : Place) : Type 0 where
  pub page : p.page ≤ 1
  pub base : p.base < 65536
  pub end : p.base + p.size ≤ 65536

pub within_pages : (places : List code.Place) → All IsWithin places → All IsWithinPage (places_view places)
within_pages places h = All-map IsWithinPage place_view places (λ i d lt. let w = h i d lt in record { page = w.page; base = w.base; end = w.end })

pub low_bases : (places : List Place) → All IsWithinPage places → All (λ p. p.base < 65536) places
low_bases places h = λ i d lt. (h i d lt).base

-- a place that runs elsewhere than it is loaded ends in program memory as it runs
abbrev pub RunsWithin : Place → Type 0
RunsWithin p = IfSome p.run (λ run. run + p.size ≤ 65536)

runs_within : (ranges : List RangeData) (before : List Place) (r : Request) (size : ℕ) (run : Option ℕ) → size ≡ r.size → IfSome run (RunsAt ranges before r) → IfSome run (λ a. a + size ≤ 65536)
runs_within ranges before r size None sized h = tt
runs_within ranges before r size (Some run) sized h = let upto = h.upto in omega (arith, upto, sized)

stand_within : (ranges : List RangeData) (rs : List Request) (ps : List Place) → Stand ranges rs ps → All RunsWithin ps
stand_within ranges [] [] s = All-nil RunsWithin
stand_within ranges [] (p ∷ ps) s = absurd s
stand_within ranges (r ∷ rs) [] s = absurd s
stand_within ranges (r ∷ rs) (p ∷ ps) s =
    All-cons RunsWithin p ps (runs_within ranges (reverse ps) r p.size p.run s.0.size_is (subst (λ o. IfSome o (RunsAt ranges (reverse ps) r)) (sym s.0.run_is) s.0.runs)) (stand_within ranges rs ps s.1)

reversed : (ps : List Place) → All RunsWithin ps → All RunsWithin (reverse ps)
reversed [] all = All-nil RunsWithin
reversed (p ∷ ps) all =
    All-same RunsWithin (reverse (p ∷ ps)) (reverse ps ++ p ∷ []) (reverse-append (p ∷ []) ps) (All-push RunsWithin (reverse ps) p (reversed ps (All-tail RunsWithin p ps all)) (All-head RunsWithin p ps all))

all_run_within : (modules : List Contents) (command : CommandData) (places : List Place) → IsGoodMap modules command places → All RunsWithin places
all_run_within modules command places good =
    All-same RunsWithin places (reverse (reverse places)) (sym (reverse-reverse places))
    (reversed (reverse places) (stand_within (ranges_for command) (reverse (requests modules (placings_for command))) (reverse places) good))

-- a part ends in program memory as it runs
part_runs : (before words size : ℕ) (o : Option ℕ) → before + words ≤ size → IfSome o (λ run. run + size ≤ 65536) → IfSome o (λ run. run + before + words ≤ 65536)
part_runs before words size None le h = tt
part_runs before words size (Some run) le h = omega (arith, le, h)

pub has_room : (modules : List Contents) (command : CommandData) (places : List Place) → IsGoodMap modules command places → All IsWithinPage places → HasRoom modules places
has_room modules command places good within = λ number index owner section part.
    let i = part_in_place (ranges_for command) modules (placings_for command) places number index owner section good part in
    let w = found_holds IsWithinPage (λ (p : Place). bytes_eq section.name p.name) places i.place within i.found in
    let runs = found_holds RunsWithin (λ (p : Place). bytes_eq section.name p.name) places i.place (all_run_within modules command places good) i.found in
    record {
      place = i.place;
      found = i.found;
      page = w.page;
      within = omega (arith, i.within, w.end);
      runs = part_runs (size_of_parts section.name (take number modules)) (body_size section.body) i.place.size i.place.run (omega (arith, i.base_is, i.within)) runs;
    }

pub has_one_part : (modules : List Contents) (command : CommandData) (places : List Place) → AreModules modules → IsGoodMap modules command places → HasOnePart modules places
has_one_part modules command places are good = λ number other index another page address owner owner_2 section section_2 p q l k.
    let one = one_part (ranges_for command) modules (placings_for command) places (λ m n is. (are n m is).lists) good number other index another page address owner owner_2 section section_2 p q l k in
    (one.numbers, one.indexes)

-- ---- modules

pub all_modules : (modules : List Contents) → AreModules modules → All IsModule modules
all_modules modules are = λ i d lt. are i (get_or modules i d) (slice_get-get_or modules i d lt)

-- ---- what linking answers

pub links : (modules : List Contents) (command : CommandData) (places : List Place) (result : Result ImageData (Failure (Placed (String Global) LinkFault))) → names_checked modules command.entry ≡ Ok tt → IsGoodMap modules command places → LinksAt modules places command.entry result → Links modules command result
links modules command places (Ok image) names good h = record {
  places = places;
  names = names;
  good = good;
  fields = h.fields;
  program = h.program;
  store = h.store;
  marks = h.marks;
  run_marks = h.run_marks;
  lines = h.lines;
  described = h.described;
}
links modules command places (Err (NoMemory n)) names good h = tt
links modules command places (Err (Fault f)) names good h = inr (inr (record { places = places; names = names; good = good; spilled = h }))
