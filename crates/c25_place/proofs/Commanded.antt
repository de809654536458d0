-- The ranges of a command.
use Rattle.std.proofs.Common.{◌≤◌, List, [], ◌∷◌, Option, Some, None, unwrap_or, All, arith}
use Rattle.std.specs.Prelude.{IfSome, codes}
use Rattle.std.proofs.lemmas.List.Elements.{All-nil, All-cons}
use Rattle.c25_meaning_linking.specs.Command.{RangeData, PlacingData, CommandData, IsCommand, IsRange, AreApart, Pairwise}
use Rattle.c25_meaning_linking.specs.GoodMap.{default_ranges, ranges_for, placings_for}

abbrev program_range : RangeData
program_range = record { page = 0; name = codes "PROG"; origin = 0; size = 65536 }

abbrev store_range : RangeData
store_range = record { page = 1; name = codes "DATA"; origin = 768; size = 64768 }

program_is : IsRange program_range
program_is = record { page = omega arith; words = omega arith; within = omega arith }

store_is : IsRange store_range
store_is = record { page = omega arith; words = omega arith; within = omega arith }

they_are_apart : AreApart program_range store_range
they_are_apart = record { names = λ e. absurd (omega (arith, e)); words = λ e. absurd (omega (arith, e)) }

pub ranges_are : (c : CommandData) → IsCommand c → All IsRange (ranges_for c)
ranges_are c is = by_memory c.memory is.ranges where
  by_memory : (m : Option (List RangeData)) → IfSome m (All IsRange) → All IsRange (unwrap_or m default_ranges)
  by_memory None h = All-cons IsRange program_range (store_range ∷ []) program_is (All-cons IsRange store_range [] store_is (All-nil IsRange))
  by_memory (Some ranges) h = h

pub ranges_are_apart : (c : CommandData) → IsCommand c → Pairwise AreApart (ranges_for c)
ranges_are_apart c is = by_memory c.memory is.apart where
  by_memory : (m : Option (List RangeData)) → IfSome m (Pairwise AreApart) → Pairwise AreApart (unwrap_or m default_ranges)
  by_memory None h = (All-cons (AreApart program_range) store_range [] they_are_apart (All-nil (AreApart program_range)), (All-nil (AreApart store_range), tt))
  by_memory (Some ranges) h = h

pub pages_are : (c : CommandData) → IsCommand c → All (λ p. IfSome p.page (λ n. n ≤ 1)) (placings_for c)
pages_are c is = by_sections c.sections is.pages where
  by_sections : (s : Option (List PlacingData)) → IfSome s (All (λ p. IfSome p.page (λ n. n ≤ 1))) → All (λ p. IfSome p.page (λ n. n ≤ 1)) (unwrap_or s [])
  by_sections None h = All-nil (λ p. IfSome p.page (λ n. n ≤ 1))
  by_sections (Some placings) h = h
