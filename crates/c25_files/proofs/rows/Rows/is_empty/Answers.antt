use Rattle.std.proofs.Common.{◌≡◌, ℕ, zero, suc, ◌≤◌, List, [], ◌∷◌, length, take, refl, ap, ◌∙◌, arith, eqb}
use Rattle.std.specs.Str.Lines.{lines}
use Rattle.c25_meaning_expansion.specs.Rows.{is_empty, rows_from}
use Rattle.c25_files.proofs.Lines.{not_zero}
use Rattle.c25_files.proofs.rows.Rows.is_empty.Goals as goal

none_left : (file line count : ℕ) (texts : List (List ℕ)) → count ≤ length texts → eqb count 0 ≡ is_empty (take count (rows_from file line texts))
none_left file line zero texts h = refl
none_left file line (suc count) [] h = absurd (omega arith)
none_left file line (suc count) (x ∷ texts) h = not_zero count

pub returns : goal.returns
returns c = none_left c.self.inside.file c.self.inside.line c.self.inside.count (lines c.self.inside.text.now) c.self.invariant.there ∙ ap is_empty c.self.view_is
