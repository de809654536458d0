-- a routine begins at each landing so far
use Rattle.std.proofs.Common.{ℕ, take}
use Rattle.std.specs.List.{All}
use Rattle.c25_meaning_pages.specs.Routines.{Begins}
use Rattle.c25_pages.specs.Table.{knowledge_of}
use Rattle.c25_pages.proofs.acts.calls_landings.Given as goal

abbrev pub invariant-loop-landing : goal.invariant-loop-landing
invariant-loop-landing l = All (λ (target : ℕ). Begins (knowledge_of l.table) l.known target l.context l.back) (take l.landing-index l.table.landings.items)
