use Rattle.std.proofs.Common.{◌≤◌, ℕ, List, length, [], ◌∷◌, ◌++◌, ap, ◌∙◌, subst}
use Rattle.c25_meaning_common.specs.declared.placed.FileLine.{FileLine}
use Rattle.c25_phases.specs.Runs.{origins_in}
use Rattle.c25_phases.specs.SourceLines.{origins_of}
use Rattle.c25_phases.proofs.Runs.{one_more}
use Rattle.c25_phases.proofs.source_lines.SourceLines.push.Goals as goal

pub returns : goal.returns
returns c =
    let t = c.turn_to.new.self in
    let told = c.in_ok-turn_to.ensures in
    let line : FileLine (List ℕ) = record { file = c.args.file.now; line = c.args.line } in
    ap (origins_in t.runs.items t.file.now) c.in_ok-push.ensures.items
    ∙ one_more t.runs.items t.file.now t.numbers.items c.args.line (subst (λ n. n ≤ length t.numbers.items) t.counted t.within)
    ∙ ap (λ file. origins_of t ++ record { file = file; line = c.args.line } ∷ []) told.next
    ∙ ap (λ origins. origins ++ line ∷ []) told.same
