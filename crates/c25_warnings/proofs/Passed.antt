-- One line more.
use Rattle.std.proofs.Common.{◌≡◌, ℕ, ◌-◌, List, [], ◌∷◌, ◌++◌, Some, None, Result, Ok, Err, ap, sym, ◌∙◌}
use Rattle.c25_meaning_assembly.specs.Emission.{at_origin}
use Rattle.c25_meaning_assembly.specs.ModuleOfSource.{origin_of}
use Rattle.c25_meaning_assembly.specs.Sections.{Progress, size_at}
use Rattle.c25_meaning_expansion.specs.ExpansionAnswers.{ExpandedLine}
use Rattle.c25_meaning_language.specs.declared.statement.FaultKind.{FaultKind}
use Rattle.c25_phases.specs.Steps.{text_passed}
use Rattle.c25_line_warnings.specs.SourceLine.{SourceLine}
use Rattle.c25_warnings.specs.SourceLines.{SourceLines, source_line, with_line, with_line_by}

-- the words by which the section of a line grew
pub line_is : (l : ExpandedLine) (old new : Progress) (section offset size count : ℕ) → section ≡ old.current → offset ≡ size_at old.sections section → size ≡ size_at new.sections section → count ≡ size - offset
    → record { file = l.file; line = l.line; text = l.text; section = section; offset = offset; count = count } ≡ source_line l old new
line_is l old new section offset size count s a b c =
    let made : ℕ → ℕ → ℕ → SourceLine = λ t m n. record { file = l.file; line = l.line; text = l.text; section = t; offset = m; count = n } in
    ap (made section offset) (c ∙ ap (λ n. n - offset) b) ∙ ap (λ m. made section m (size_at new.sections section - m)) a
    ∙ ap (λ t. made t (size_at old.sections t) (size_at new.sections t - size_at old.sections t)) s

-- a line that passes comes after the others
pub line_passes : (l : ExpandedLine) (a : SourceLines) (p : Progress) (lines : List SourceLine) → text_passed (origin_of l) l.text a.progress ≡ Ok p
    → lines ≡ a.lines ++ source_line l a.progress p ∷ [] → with_line l a ≡ Some (record { progress = p; lines = lines })
unfolding with_line
line_passes l a p lines h e =
    let made : List SourceLine → SourceLines = λ ls. record { progress = p; lines = ls } in
    ap (λ (r : Result Progress FaultKind). with_line_by l a (at_origin (origin_of l) r)) h ∙ sym (ap (λ ls. Some (made ls)) e)

-- a line with a fault
pub line_fails : (l : ExpandedLine) (a : SourceLines) (f : FaultKind) → text_passed (origin_of l) l.text a.progress ≡ Err f → with_line l a ≡ None
unfolding with_line
line_fails l a f h = ap (λ (r : Result Progress FaultKind). with_line_by l a (at_origin (origin_of l) r)) h
