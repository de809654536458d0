use Rattle.std.proofs.Common.{◌≡◌, suc, ◌+◌, ◌-◌, ◌∷◌, ◌++◌, [], length, take, drop, ap, sym, ◌∙◌, arith, length-drop}
use Rattle.std.specs.Str.Lines.{lines}
use Rattle.c25_meaning_expansion.specs.Rows.{rows_from}
use Rattle.c25_files.proofs.Lines.{one_more, drop_next}
use Rattle.c25_files.proofs.passage.Passage.next.Goals as goal

pub invariant_of-self : goal.invariant_of-self
invariant_of-self c =
    let p = c.self.inside in
    let v = c.self.invariant in
    let text = c.first_line.result.0.now in
    let rest = c.first_line.result.1.now in
    let behind : drop p.passed (lines p.begun.now) ≡ text ∷ lines rest = v.behind ∙ c.first_line.ensures.lines in
    record {
      there = omega (arith, v.there, ap length c.first_line.ensures.lines);
      fits = omega (arith, v.fits, c.if-self-eq0.false);
      before = omega (arith, v.before);
      read = omega (arith, v.read, length-drop p.passed (lines p.begun.now), ap length behind);
      behind = drop_next (lines p.begun.now) (lines rest) text p.passed behind;
    }

pub returns-clause-passed : goal.returns-clause-passed
returns-clause-passed c =
    let p = c.self.inside in
    let v = c.self.invariant in
    let text = c.first_line.result.0.now in
    let rest = c.first_line.result.1.now in
    let behind : drop p.passed (lines p.begun.now) ≡ text ∷ lines rest = v.behind ∙ c.first_line.ensures.lines in
    let from : p.line + 1 - (p.passed + 1) ≡ p.line - p.passed = omega (arith, v.before) in
    let more : p.passed + 1 ≡ suc p.passed = omega arith in
    let at : p.line - p.passed + p.passed ≡ p.line = omega (arith, v.before) in
    (λ i. take (more i) (rows_from p.file (from i) (lines p.begun.now)))
    ∙ one_more p.file (p.line - p.passed) p.passed (lines p.begun.now) (lines rest) text behind
    ∙ ap (λ n. take p.passed (rows_from p.file (p.line - p.passed) (lines p.begun.now)) ++ record { place = record { file = p.file; line = n }; text = text } ∷ []) at
    ∙ ap (λ row. take p.passed (rows_from p.file (p.line - p.passed) (lines p.begun.now)) ++ row ∷ []) (sym c.new.ensures)
    ∙ ap (λ q. q.passed ++ c.new.result ∷ []) c.self.view_is
