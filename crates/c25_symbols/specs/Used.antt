-- The words of a range that sections have (this project's own).
use Rattle.std.specs.Prelude.{ℕ, zero, suc, ◌+◌, ◌==◌, Bool, ◌&&◌, ◌||◌, List, if◌then◌else◌}
use Rattle.std.specs.List.{list_any}
use Rattle.c25_meaning_linking.specs.Command.{RangeData}
use Rattle.c25_meaning_linking.specs.GoodMap.{has_word, runs_at}
use Rattle.c25_meaning_linking.specs.Place.{Place}

-- whether a section of a page is loaded at a word of it, or runs at it
abbrev pub has_used : ℕ → ℕ → Place → Bool
has_used page word p = has_word page word p || (p.page == page && runs_at word p)

-- whether a section at one of these places is loaded at an address, or runs at it
abbrev pub is_used : ℕ → List Place → ℕ → Bool
is_used page places word = list_any (has_used page word) places

-- how many of so many words from an address on are used
abbrev pub used_from : ℕ → List Place → ℕ → ℕ → ℕ
used_from page places origin zero = 0
used_from page places origin (suc n) = used_from page places origin n + (if is_used page places (origin + n) then 1 else 0)

-- how many words of a range are used
abbrev pub used_in : List Place → RangeData → ℕ
used_in places r = used_from r.page places r.origin r.size
