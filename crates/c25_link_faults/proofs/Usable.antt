-- The ranges that a section may be placed in, gone over one after the other.
use Rattle.std.proofs.Common.{◌≡◌, ℕ, Bool, true, false, cond, List, [], ◌∷◌, ◌++◌, filter, refl, sym, ap, ◌∙◌}
use Rattle.std.specs.List.{flat_map}
use Rattle.c25_meaning_linking.specs.Command.{CommandData, PlacingData, RangeData, TargetData}
use Rattle.c25_meaning_linking.specs.GoodMap.{Request, is_usable, page_for, ranges_for}
use Rattle.c25_link_faults.specs.Overlaps.{SpanData}
use Rattle.c25_link_faults.specs.Unfits.{placing_for, range_span, range_spans, request_by, request_for, usable_span}
use Rattle.c25_meaning_objects.specs.Module.{Contents}

-- what all ranges add, each if it is allowed, is what the allowed ones add
pub usable_spans : (target : TargetData) (page : ℕ) (ranges : List RangeData) → flat_map (usable_span target page) ranges ≡ flat_map range_span (filter (is_usable target page) ranges)
usable_spans target page [] = refl
usable_spans target page (r ∷ ranges) = by (is_usable target page r) (usable_spans target page ranges) where
  by : (t : Bool) → flat_map (usable_span target page) ranges ≡ flat_map range_span (filter (is_usable target page) ranges)
      → cond t (range_span r) [] ++ flat_map (usable_span target page) ranges ≡ flat_map range_span (cond t (r ∷ filter (is_usable target page) ranges) (filter (is_usable target page) ranges))
  by true rest = ap (λ ss. range_span r ++ ss) rest
  by false rest = rest

-- the ranges for the target and the page of a section
pub spans_by : (ranges : List RangeData) (target : TargetData) (page : ℕ) (r : Request) (spans : List SpanData)
    → r.target ≡ target → page ≡ page_for ranges r → spans ≡ flat_map (usable_span target page) ranges → spans ≡ range_spans ranges r
spans_by ranges target page r spans same at is =
    is ∙ usable_spans target page ranges
    ∙ ap (λ t. flat_map range_span (filter (is_usable t page) ranges)) (sym same)
    ∙ ap (λ p. flat_map range_span (filter (is_usable r.target p) ranges)) at

-- the ranges of a command for the section of a name
pub spans_for : (command : CommandData) (modules : List Contents) (name : List ℕ) (p : PlacingData) (ranges : List RangeData) (spans : List SpanData)
    → ranges ≡ ranges_for command → p ≡ placing_for command name → spans ≡ range_spans ranges (request_by modules name p) → spans ≡ range_spans (ranges_for command) (request_for modules command name)
spans_for command modules name p ranges spans are placed is =
    is ∙ ap (λ rs. range_spans rs (request_by modules name p)) are
    ∙ ap (λ q. range_spans (ranges_for command) (request_by modules name q)) placed
