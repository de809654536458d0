use Rattle.std.proofs.Common.{◌++◌, [], ◌∷◌, sym, ap, ◌∙◌}
use Rattle.c25_meaning_assembly.specs.Sections.{are_distinct, is_in}
use Rattle.c25_meaning_assembly.proofs.Distinct.{distinct_push}
use Rattle.c25_phases.proofs.Declared.{once_new}
use Rattle.c25_phases.proofs.Keys.{added}
use Rattle.c25_phases.proofs.names.DistinctNames.add.Goals as goal

pub returns-clause-ok : goal.returns-clause-ok
returns-clause-ok c =
    let name = c.args.name.now in
    let away = sym c.has.ensures.value ∙ c.if-has.false in
    added c.self.inside.names.keys c.insert.new.self.keys c.in_ok-name.name name c.in_ok-name.ensures.ok
    (ap (λ names. is_in names name) c.self.view_is ∙ away) c.in_ok-insert.ensures.keys
    ∙ ap (λ names. names ++ name ∷ []) c.self.view_is ∙ sym (once_new c.args.self.now name away)

pub invariant_of-self-2 : goal.invariant_of-self-2
invariant_of-self-2 c =
    let name = c.args.name.now in
    let away = ap (λ names. is_in names name) c.self.view_is ∙ sym c.has.ensures.value ∙ c.if-has.false in
    ap are_distinct (added c.self.inside.names.keys c.insert.new.self.keys c.in_ok-name.name name c.in_ok-name.ensures.ok away c.in_ok-insert.ensures.keys)
    ∙ distinct_push _ name c.self.invariant away
