-- The range that a command lacks for a section without a range to stand in.
use Rattle.std.specs.Prelude.{◌≡◌, ℕ, ◌==◌, ◌||◌, Bool, true, false, List, find, Option, Some, None, unwrap_or, if◌then◌else◌}
use Rattle.std.specs.List.{list_any}
use Rattle.std.specs.Str.{bytes_eq}
use Rattle.c25_meaning_linking.specs.Command.{Anywhere, At, CommandData, InRange, PlacingData, RangeData, TargetData}
use Rattle.c25_meaning_linking.specs.GoodMap.{Request, is_named_on, page_for, placings_for, ranges_for}
use Rattle.c25_place.specs.declared.missing.MissingRange.{MissingRange}
use Rattle.c25_place.specs.declared.missing.MissingRange.TheVariants as missing

-- a range of this name, on a page where the command names one; any range of a page; any range
pub data MissingData : Type 0 where
  Named : List ℕ → Option ℕ → MissingData
  OnPage : ℕ → MissingData
  Any : MissingData

-- whether there is a range of this name, on a page where one is given, else on either
abbrev pub has_named : List RangeData → List ℕ → Option ℕ → Bool
has_named ranges name None = list_any (is_named_on name 0) ranges || list_any (is_named_on name 1) ranges
has_named ranges name (Some page) = list_any (is_named_on name page) ranges

-- whether there is a range of a page
abbrev pub has_page : List RangeData → ℕ → Bool
has_page ranges page = list_any (λ r. r.page == page) ranges

-- what is missing, unless it is there
abbrev pub unless : Bool → MissingData → Option MissingData
unless there what = if there then None else Some what

-- any range of a page, if the page has none
abbrev pub missing_on : List RangeData → ℕ → Option MissingData
missing_on ranges page = unless (has_page ranges page) (OnPage page)

-- what a section lacks that may stand anywhere on either page: any range of the page that has none, or any
-- range where neither has one; the arguments say whether pages 0 and 1 have ranges
abbrev pub missing_page : (program store : Bool) → Option MissingData
missing_page true there = unless there (OnPage 1)
missing_page false true = Some (OnPage 0)
missing_page false false = Some Any

-- what these ranges lack for a section with this target and page
abbrev pub missing_for : List RangeData → TargetData → Option ℕ → Option MissingData
missing_for ranges (InRange name) page = unless (has_named ranges name page) (Named name page)
missing_for ranges (At address) page = missing_on ranges (unwrap_or page 0)
missing_for ranges Anywhere (Some page) = missing_on ranges page
missing_for ranges Anywhere None = missing_page (has_page ranges 0) (has_page ranges 1)

-- the range that is reported as missing for a section without a range to stand in is not there: none has the
-- name that the section wants, or none is of its page
abbrev pub IsSoOf : List RangeData → Request → MissingData → Type 0
IsSoOf ranges r (Named name page) = (r.target ≡ InRange name) × (r.page ≡ page) × (has_named ranges name page ≡ false)
IsSoOf ranges r (OnPage page) = (page_for ranges r ≡ page) × (has_page ranges page ≡ false)
IsSoOf ranges r Any = (has_page ranges 0 ≡ false) × (has_page ranges 1 ≡ false)

-- the section of a name that a command lists
abbrev pub placing_named : List ℕ → List PlacingData → Option PlacingData
placing_named name placings = find (λ p. bytes_eq p.name name) placings

-- what a command lacks for a section that it lists, or does not
abbrev pub missing_placing : List RangeData → Option PlacingData → Option MissingData
missing_placing ranges None = missing_for ranges Anywhere None
missing_placing ranges (Some p) = missing_for ranges p.target p.page

-- what a command lacks for the section of a name
abbrev pub missing_range : CommandData → List ℕ → Option MissingData
missing_range command section = missing_placing (ranges_for command) (placing_named section (placings_for command))

-- a missing range, as clauses see it
abbrev pub missing_data : MissingRange → MissingData
missing_data (missing.Named name page) = Named name.now page
missing_data (missing.OnPage page) = OnPage page
missing_data missing.Any = Any
