-- The lines of a source that is assembled: none of them has a fault, and they have made its module.
use Rattle.std.proofs.Common.{◌≡◌, ℕ, zero, suc, List, [], ◌∷◌, ◌++◌, Option, Some, None, Result, Ok, Err, refl, sym, ap, subst, ◌∙◌}
use Rattle.c25_line_warnings.specs.SourceLine.{SourceLine}
use Rattle.c25_meaning_assembly.specs.Emission.{finished}
use Rattle.c25_meaning_assembly.specs.ModuleOfSource.{Assembled, LinesSoFar, assembled, completed, entry_of, no_lines, pass_line, passed, passed_by, passed_from, read_and_pass}
use Rattle.c25_meaning_assembly.specs.Sections.{Progress, table}
use Rattle.c25_meaning_common.specs.Results.{◌>>=◌}
use Rattle.c25_meaning_expansion.specs.Expansion.{Config}
use Rattle.c25_meaning_expansion.specs.ExpansionAnswers.{ExpandedLine, fault_by, given_by}
use Rattle.c25_meaning_expansion.specs.ExpansionRuns.{first, start_of}
use Rattle.c25_meaning_expansion.specs.Files.{Files}
use Rattle.c25_meaning_language.specs.ExpansionFault.{ExpansionFault}
use Rattle.c25_meaning_objects.specs.Module.{Contents}
use Rattle.c25_warnings.specs.SourceLines.{SourceLines, lines_at, lines_by, lines_from, source_line, source_lines, then_on, with_line, with_line_by}
use Rattle.c25_warnings.specs.SourceLines as source
use Rattle.c25_absolute_operands.specs.Assembled.{HasLines}

-- there are lines, and they have made what the others have made
record Follow (found : Option SourceLines) (out : LinesSoFar) : Type 0 where
  lines : SourceLines
  are : found ≡ Some lines
  made : lines.progress ≡ out.progress

same_ok : (x y : LinesSoFar) (r : Result LinesSoFar ExpansionFault) → r ≡ Ok x → r ≡ Ok y → x ≡ y
same_ok x y r e f = cc

no_ok : (f : ExpansionFault) (out : LinesSoFar) → Err f ≡ Ok out → ⊥
no_ok f out e = cc

-- ---- one line

-- what a line has made
abbrev made_by : ExpandedLine → LinesSoFar → Progress → LinesSoFar
made_by l a p = record { progress = p; entries = a.entries ++ entry_of l a.progress p ∷ [] }

abbrev lines_with : ExpandedLine → SourceLines → Progress → SourceLines
lines_with l s p = record { progress = p; lines = s.lines ++ source_line l s.progress p ∷ [] }

by_result : (l : ExpandedLine) (a : LinesSoFar) (lines : List SourceLine) (r : Result Progress ExpansionFault) (rest : LinesSoFar → Result LinesSoFar ExpansionFault) (go_on : SourceLines → Option SourceLines) (out : LinesSoFar)
    → ((p : Progress) → rest (made_by l a p) ≡ Ok out → Follow (go_on (lines_with l (record { progress = a.progress; lines = lines }) p)) out)
    → ((r >>= λ p. Ok (made_by l a p)) >>= rest) ≡ Ok out → Follow (then_on (with_line_by l (record { progress = a.progress; lines = lines }) r) go_on) out
by_result l a lines (Ok p) rest go_on out goes e = goes p e
by_result l a lines (Err f) rest go_on out goes e = absurd (no_ok f out e)

one_line : (l : ExpandedLine) (a : LinesSoFar) (lines : List SourceLine) (rest : LinesSoFar → Result LinesSoFar ExpansionFault) (go_on : SourceLines → Option SourceLines) (out : LinesSoFar)
    → ((p : Progress) → rest (made_by l a p) ≡ Ok out → Follow (go_on (lines_with l (record { progress = a.progress; lines = lines }) p)) out)
    → (pass_line l a >>= rest) ≡ Ok out → Follow (then_on (with_line l (record { progress = a.progress; lines = lines })) go_on) out
unfolding pass_line with_line
one_line l a lines rest go_on out goes e = by_result l a lines (read_and_pass l a.progress) rest go_on out goes e

-- ---- all lines

by_answer : (o : Option ExpansionFault) (g : Option (ExpandedLine × Config)) (a : LinesSoFar) (lines : List SourceLine) (rest : Config → LinesSoFar → Result LinesSoFar ExpansionFault) (go_on : Config → SourceLines → Option SourceLines) (out : LinesSoFar)
    → ((c : Config) (b : LinesSoFar) (ls : List SourceLine) → rest c b ≡ Ok out → Follow (go_on c (record { progress = b.progress; lines = ls })) out)
    → passed_by o g rest a ≡ Ok out → Follow (lines_by o g go_on (record { progress = a.progress; lines = lines })) out
by_answer (Some f) g a lines rest go_on out goes e = absurd (no_ok f out e)
by_answer None None a lines rest go_on out goes e = record {
  lines = record { progress = a.progress; lines = lines };
  are = refl;
  made = ap (λ (x : LinesSoFar). x.progress) (same_ok a out (Ok a) refl e);
}
by_answer None (Some (l, c)) a lines rest go_on out goes e =
    one_line l a lines (rest c) (go_on c) out (λ p h. goes c (made_by l a p) (lines ++ source_line l a.progress p ∷ []) h) e

follow : (files : Files) (n : ℕ) (c : Config) (a : LinesSoFar) (lines : List SourceLine) (out : LinesSoFar) → passed files n c a ≡ Ok out → Follow (lines_from files n c (record { progress = a.progress; lines = lines })) out
unfolding passed lines_from
follow files zero c a lines out e = record {
  lines = record { progress = a.progress; lines = lines };
  are = refl;
  made = ap (λ (x : LinesSoFar). x.progress) (same_ok a out (Ok a) refl e);
}
follow files (suc n) c a lines out e =
    let r = first files (table a.progress) c in
    by_answer (fault_by files r) (given_by files r) a lines (passed files n) (lines_from files n) out (λ d b ls h. follow files n d b ls out h) e

-- ---- a source

starts : (files : Files) (name : List ℕ) (o : Option Config) (out : LinesSoFar) → passed_from files name o ≡ Ok out → Follow (lines_at files o) out
starts files name None out e = absurd (no_ok _ out e)
starts files name (Some c) out e = follow files 200001 c no_lines [] out e

finishes : (r : Result Contents ExpansionFault) (out : LinesSoFar) (a : Assembled) → (r >>= λ m. Ok (record { contents = m; entries = out.entries })) ≡ Ok a → r ≡ Ok a.contents
finishes (Ok m) out a e = cc
finishes (Err f) out a e = absurd (cc)

by_lines : (files : Files) (name : List ℕ) (r : Result LinesSoFar ExpansionFault) (a : Assembled) → passed_from files name (start_of files name) ≡ r → (r >>= λ out. completed out) ≡ Ok a → HasLines files name a.contents
by_lines files name (Err f) a is e = absurd (cc)
by_lines files name (Ok out) a is e =
    let f : Follow (source_lines files name) out = starts files name (start_of files name) out is in
    record {
      lines = f.lines;
      are_lines = f.are;
      make = subst (λ (p : Progress). finished p ≡ Ok a.contents) (sym f.made) (finishes (finished out.progress) out a e);
    }

pub has_lines : (files : Files) (name : List ℕ) (a : Assembled) → assembled files name ≡ Ok a → HasLines files name a.contents
unfolding assembled
has_lines files name a e = by_lines files name (passed_from files name (start_of files name)) a refl e
