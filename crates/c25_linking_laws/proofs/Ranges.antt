-- The ranges of a command, or those that stand for none, are ranges.
use Rattle.std.proofs.Common.{List, [], ◌∷◌, Option, Some, None, unwrap_or, All, arith}
use Rattle.std.specs.Prelude.{IfSome, codes}
use Rattle.std.proofs.lemmas.List.Elements.{All-nil, All-cons}
use Rattle.c25_meaning_linking.specs.Command.{RangeData, CommandData, IsCommand, IsRange}
use Rattle.c25_meaning_linking.specs.GoodMap.{default_ranges, ranges_for}

abbrev program_range : RangeData
program_range = record { page = 0; name = codes "PROG"; origin = 0; size = 65536 }

abbrev store_range : RangeData
store_range = record { page = 1; name = codes "DATA"; origin = 768; size = 64768 }

defaults_are : All IsRange default_ranges
defaults_are =
    All-cons IsRange program_range (store_range ∷ []) (record { page = omega arith; words = omega arith; within = omega arith })
    (All-cons IsRange store_range [] (record { page = omega arith; words = omega arith; within = omega arith }) (All-nil IsRange))

pub ranges_are : (c : CommandData) → IsCommand c → All IsRange (ranges_for c)
ranges_are c is = by_memory c.memory is.ranges where
  by_memory : (m : Option (List RangeData)) → IfSome m (All IsRange) → All IsRange (unwrap_or m default_ranges)
  by_memory None h = defaults_are
  by_memory (Some ranges) h = h
