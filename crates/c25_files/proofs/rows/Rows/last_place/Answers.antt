use Rattle.std.proofs.Common.{◌≡◌, ℕ, zero, suc, ◌+◌, ◌-◌, ◌<◌, ◌≤◌, List, length, take, sym, ap, ◌∙◌, arith}
use Rattle.std.specs.Str.Lines.{lines}
use Rattle.c25_meaning_expansion.specs.Rows.{rows_from, last_place}
use Rattle.c25_meaning_common.specs.declared.placed.FileLine.{FileLine}
use Rattle.c25_files.proofs.Lines.{last_of_rows}
use Rattle.c25_files.proofs.rows.Rows.last_place.Goals as goal

last : (place : FileLine ℕ) (file line count : ℕ) (texts : List (List ℕ)) → 0 < count → count ≤ length texts → last_place place (take count (rows_from file line texts)) ≡ record { file = file; line = line + (count - 1) }
last place file line zero texts some h = absurd (omega arith)
last place file line (suc count) texts some h =
    let e : suc count - 1 ≡ count = omega arith in
    last_of_rows place file line count texts (omega arith) ∙ ap (λ n. record { file = file; line = line + n }) (sym e)

pub returns-else-self-eq0 : goal.returns-else-self-eq0
returns-else-self-eq0 c =
    let i = c.self.inside in
    sym (last c.args.place i.file i.line i.count (lines i.text.now) (omega (arith, c.if-self-eq0.false)) c.self.invariant.there) ∙ ap (last_place c.args.place) c.self.view_is
