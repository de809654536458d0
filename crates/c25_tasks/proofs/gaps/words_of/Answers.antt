use Rattle.std.proofs.Common.{IfSome, ℕ, List, subst}
use Rattle.c25_hex.specs.Hex.{SpellsWords}
use Rattle.c25_tasks.proofs.gaps.words_of.Goals as goal

pub returns-in-Ok : goal.returns-in-Ok
returns-in-Ok c = subst (λ (text : List ℕ). IfSome c.words_in.result (λ words. SpellsWords text words)) c.in-Ok.ensures.cases.0 c.words_in.ensures
