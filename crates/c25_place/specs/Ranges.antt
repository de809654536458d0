-- The ranges of both pages, as the code has them.
use Rattle.std.specs.Prelude.{◌≡◌, ◌==◌, ℕ, ◌+◌, List, [], ◌∷◌, filter, Option, Some, None, if◌then◌else◌, All}
use Rattle.std.specs.Str.{bytes_eq}
use Rattle.c25_meaning_linking.specs.Command.{RangeData, IsRange, AreApart, Pairwise}
use Rattle.c25_place.specs.View.{named, ranges_view}
use Rattle.c25_place.specs.declared.ranges.PageRanges.{PageRanges}
use Rattle.c25_place.specs.declared.ranges.CommandRanges.{CommandRanges}

-- the ranges of a page
abbrev pub on_page : ℕ → List RangeData → List RangeData
on_page page all = filter (λ r. r.page == page) all

-- the index of the range of a name, counted from a number
abbrev pub place_from : List ℕ → ℕ → List RangeData → Option ℕ
place_from name k [] = None
place_from name k (r ∷ ranges) = if bytes_eq name r.name then Some k else place_from name (k + 1) ranges

-- the index of the range of a name, counted from 0
abbrev pub place_in : List ℕ → List RangeData → Option ℕ
place_in name ranges = place_from name 0 ranges

-- the list has the ranges of a page, and the map the index of each name
pub record KnowsPage (p : PageRanges) (page : ℕ) (all : List RangeData) : Type 0 where
  pub list : ranges_view p.list.items ≡ on_page page all
  pub found : (name : List ℕ) → named p.found name ≡ place_in name (on_page page all)

-- the ranges of both pages, which are apart
pub record KnowsRanges (r : CommandRanges) (all : List RangeData) : Type 0 where
  pub program : KnowsPage r.program 0 all
  pub store : KnowsPage r.store 1 all
  pub apart : Pairwise AreApart all

-- the ranges are those of a command
pub record HasRanges (r : CommandRanges) : Type 0 where
  pub all : List RangeData
  pub knows : KnowsRanges r all
  pub are : All IsRange all
