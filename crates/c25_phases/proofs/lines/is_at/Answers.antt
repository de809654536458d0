use denote.Ref.{Bor}
use Rattle.std.proofs.Common.{List, ℕ, Some, ap, sym, ◌∙◌}
use Rattle.std.specs.List.{slice_get}
use Rattle.std.proofs.lemmas.Option.{slice_get-get_or}
use Rattle.c25_phases.proofs.Filed.{is_at}
use Rattle.c25_phases.proofs.lines.is_at.Goals as goal

pub returns-in-Some : goal.returns-in-Some
returns-in-Some c = λ e.
    let found = c.in-Some.ensures.lookup in
    is_at c.args.files.now.keys c.args.number c.in-Some.other.now c.args.file.now c.as_slice.ensures.unique
    (ap (λ (ks : List (Bor (List ℕ))). slice_get ks c.args.number) (sym c.as_slice.ensures.keys) ∙ slice_get-get_or c.as_slice.result.now c.args.number c.in-Some.other.now found.3.0 ∙ ap Some (sym found.1))
    (sym c.eq.ensures ∙ e)
