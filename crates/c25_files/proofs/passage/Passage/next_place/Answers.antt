use Rattle.std.proofs.Common.{◌≡◌, ℕ, zero, suc, ◌<◌, ◌≤◌, List, [], ◌∷◌, length, take, refl, ap, sym, ◌∙◌, arith, Some, option_map, slice_get}
use Rattle.std.specs.Str.Lines.{lines}
use Rattle.c25_meaning_expansion.specs.Rows.{rows_from}
use Rattle.c25_files.proofs.passage.Passage.next_place.Goals as goal

next : (file line count : ℕ) (texts : List (List ℕ)) → 0 < count → count ≤ length texts
    → option_map (λ row. row.place) (slice_get (take count (rows_from file line texts)) 0) ≡ Some (record { file = file; line = line })
next file line zero texts some h = absurd (omega arith)
next file line (suc count) [] some h = absurd (omega arith)
next file line (suc count) (x ∷ texts) some h = refl

pub returns : goal.returns
returns c =
    let p = c.self.inside in
    sym (next p.file p.line p.count (lines p.rest.now) (omega (arith, c.if-self-eq0.false)) c.self.invariant.there)
    ∙ ap (λ q. option_map (λ row. row.place) (slice_get q.rest 0)) c.self.view_is
