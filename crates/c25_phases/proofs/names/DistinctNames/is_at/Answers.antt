use denote.Ref.{Bor}
use Rattle.std.proofs.Common.{List, ℕ, ap, sym, ◌∙◌}
use Rattle.std.specs.Option.{option_map}
use Rattle.c25_phases.proofs.Keys.{among_at}
use Rattle.c25_phases.proofs.names.DistinctNames.is_at.Goals as goal

pub returns-in-Some : goal.returns-in-Some
returns-in-Some c = λ e.
    among_at c.args.self.now c.args.number c.in-Some.other.now c.args.name.now
    (sym c.get.ensures.value ∙ ap (option_map (λ (t : Bor (List ℕ)). t.now)) c.in-Some.is) (sym c.eq.ensures ∙ e)
