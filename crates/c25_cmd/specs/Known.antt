-- How the names and words of ranges, and the names of sections, are known, so that one that comes twice is
-- found.
use Rattle.std.specs.Prelude.{◌≡◌, ℕ, ◌+◌, ◌*◌, ◌<◌, ◌≤◌, ◌==◌, ◌&&◌, Bool, false, List, length, slice_index_or, nat_lt, nat_le, All}
use Rattle.std.specs.List.{list_any}
use Rattle.std.specs.Ordering.{nat_cmp, ordering_then}
use Rattle.std.specs.Cmp.Lexicographic.{slice_cmp}
use Rattle.std.specs.BTreeSet.{BTreeSet, contains}
use Rattle.c25_meaning_linking.specs.Command.{RangeData, IsRange, PlacingData}
use Rattle.c25_meaning_linking.specs.CommandMemory.{is_range}
use Rattle.c25_meaning_linking.specs.CommandSections.{is_placing}

-- the set has the names of these sections, where a key is seen by its text
abbrev pub HasNames : {K : Type 0} → (K → List ℕ) → BTreeSet K → List PlacingData → Type 0
HasNames {K} text names placings = (key : K) → contains (λ x y. slice_cmp nat_cmp (text x) (text y)) names key ≡ list_any (is_placing (text key)) placings

-- the set has the pages and names of these ranges
abbrev pub HasRangeNames : {K : Type 0} → (K → ℕ) → (K → List ℕ) → BTreeSet K → List RangeData → Type 0
HasRangeNames {K} page text names ranges = (key : K)
    → contains (λ x y. ordering_then (nat_cmp (page x) (page y)) (slice_cmp nat_cmp (text x) (text y))) names key
    ≡ list_any (is_range (page key) (text key)) ranges

-- whether a range has a word of a page
abbrev pub covers : ℕ → ℕ → RangeData → Bool
covers page word r = r.page == page && nat_le r.origin word && nat_lt word (r.origin + r.size)

-- the words that are marked, first those of page 0 and then those of page 1, are those of these ranges
abbrev pub AreTaken : List Bool → List RangeData → Type 0
AreTaken taken ranges = (page word : ℕ) → page ≤ 1 → word < 65536 → slice_index_or taken (page * 65536 + word) false ≡ list_any (covers page word) ranges

-- the marked words are those of these ranges, all of them within their pages
pub record KnowsWords (taken : List Bool) (ranges : List RangeData) : Type 0 where
  pub sized : length taken ≡ 131072
  pub words : AreTaken taken ranges
  pub each : All IsRange ranges
