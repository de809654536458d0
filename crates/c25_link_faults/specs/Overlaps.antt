-- Two sections at addresses that SECTIONS gives, where they share a word.
use Rattle.std.specs.Prelude.{ℕ, ◌+◌, ◌-◌, ◌==◌, ◌&&◌, Bool, not, List, [], ◌∷◌, Option, Some, None, find, max, min, nat_le, nat_lt, unwrap_or, if◌then◌else◌}
use Rattle.std.specs.List.{flat_map}
use Rattle.std.specs.Option.{option_map}
use Rattle.std.specs.Str.{bytes_eq}
use Rattle.c25_meaning_linking.specs.Command.{Anywhere, At, CommandData, InRange, PlacingData}
use Rattle.c25_meaning_linking.specs.GoodMap.{placings_for}
use Rattle.c25_meaning_linking.specs.Place.{size_of_parts}
use Rattle.c25_meaning_objects.specs.Module.{Contents}
use Rattle.c25_link_faults.specs.declared.overlaps.Overlap.{Overlap}
use Rattle.c25_link_faults.specs.declared.spans.Span.{Span}

-- so many words, if a page has room for them
abbrev pub within_page : ℕ → Option ℕ
within_page words = if nat_le words 65536 then Some words else None

-- a section at an address: its page, and its first and its last word
pub record SpanData : Type 0 where
  pub name : List ℕ
  pub page : ℕ
  pub first : ℕ
  pub last : ℕ

-- a section of so many words at an address, if it has words and all of them are words of a page
abbrev pub span_from : (name : List ℕ) → (page first size : ℕ) → Option SpanData
span_from name page first size =
    if nat_lt 0 size && nat_le (first + size) 65536 then Some (record { name = name; page = page; first = first; last = first + size - 1 }) else None

-- a section of modules at an address; without `PAGE` it is on page 0
abbrev pub span_at : List Contents → PlacingData → ℕ → Option SpanData
span_at modules p address = span_from p.name (unwrap_or p.page 0) address (size_of_parts p.name modules)

-- a section that SECTIONS lists, where it gives an address
abbrev pub span_of : List Contents → PlacingData → Option SpanData
span_of modules p = elim p.target [ Anywhere ↦ None | InRange name ↦ None | At address ↦ span_at modules p address ]

-- what one section adds to the sections at addresses
abbrev pub listed_span : List Contents → PlacingData → List SpanData
listed_span modules p = elim (span_of modules p) [ None ↦ [] | Some s ↦ s ∷ [] ]

-- the sections at the addresses that SECTIONS gives, in its order
abbrev pub spans : List Contents → List PlacingData → List SpanData
spans modules placings = flat_map (listed_span modules) placings

-- whether two sections share a word
abbrev pub share : SpanData → SpanData → Bool
share a b = a.page == b.page && nat_le (max a.first b.first) (min a.last b.last)

-- whether a section is another one and shares a word
abbrev pub is_in_way : SpanData → SpanData → Bool
is_in_way s o = not (bytes_eq s.name o.name) && share s o

-- two sections
pub record OverlapData : Type 0 where
  pub section : SpanData
  pub other : SpanData

-- the section of a name at its address, and the first other section of SECTIONS that shares a word with it
abbrev pub overlap_among : List SpanData → List ℕ → Option OverlapData
overlap_among all name =
    elim (find (λ s. bytes_eq name s.name) all) [ None ↦ None | Some s ↦ option_map (λ o. record { section = s; other = o }) (find (is_in_way s) all) ]

-- the section of a name that overlaps another one under a command
abbrev pub overlap_of : List Contents → CommandData → List ℕ → Option OverlapData
overlap_of modules command name = overlap_among (spans modules (placings_for command)) name

-- ---- how the code has it

-- a section at an address, as clauses see it
abbrev pub span_data : Span → SpanData
span_data s = record { name = s.name.now; page = s.page; first = s.first; last = s.last }

-- two sections, as clauses see them
abbrev pub overlap_data : Overlap → OverlapData
overlap_data o = record { section = span_data o.section; other = span_data o.other }
