-- each landing so far is led to
use Rattle.std.proofs.Common.{ℕ, take}
use Rattle.std.specs.List.{All}
use Rattle.c25_meaning_pages.specs.Known.{LeadsTo}
use Rattle.c25_pages.specs.Table.{knowledge_of}
use Rattle.c25_pages.proofs.acts.goes_to_landings.Given as goal

abbrev pub invariant-loop-landing : goal.invariant-loop-landing
invariant-loop-landing l = All (λ (target : ℕ). LeadsTo (knowledge_of l.table) l.known l.context target) (take l.landing-index l.table.landings.items)
