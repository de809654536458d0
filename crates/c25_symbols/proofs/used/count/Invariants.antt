-- the marked words so far are counted
use Rattle.std.proofs.Common.{◌≡◌, ◌≤◌, ℕ, List}
use Rattle.c25_meaning_linking.specs.Place.{Place}
use Rattle.c25_symbols.specs.Used.{used_from}
use Rattle.c25_symbols.specs.View.{KnowsPage}
use Rattle.c25_symbols.proofs.used.count.Given as goal

abbrev pub invariant-loop-word : goal.invariant-loop-word
invariant-loop-word l = (l.count ≤ l.word) × ((page : ℕ) (places : List Place) → KnowsPage l.words page places → l.count ≡ used_from page places l.origin l.word)
