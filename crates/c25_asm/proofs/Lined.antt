-- One line more, and its entry in the listing.
use Rattle.std.proofs.Common.{◌≡◌, ℕ, ◌-◌, Bool, true, false, List, [], ◌∷◌, ◌++◌, Result, Ok, Err, IsErrAnd, refl, ap, sym, ◌∙◌}
use Rattle.c25_meaning_assembly.specs.Emission.{at_origin}
use Rattle.c25_meaning_expansion.specs.ExpansionAnswers.{ExpandedLine}
use Rattle.c25_meaning_assembly.specs.Listing.{Entry}
use Rattle.c25_meaning_assembly.specs.ModuleOfSource.{LinesSoFar, origin_of, entry_of, pass_line}
use Rattle.c25_meaning_common.specs.Results.{◌>>=◌, IsNoMemory}
use Rattle.c25_meaning_common.specs.declared.failure.Failure.{Failure}
use Rattle.c25_meaning_common.specs.declared.failure.Failure.TheVariants.{NoMemory, Fault}
use Rattle.c25_meaning_language.specs.ExpansionFault.{ExpansionFault}
use Rattle.c25_meaning_assembly.specs.Sections.{Progress, size_at}
use Rattle.c25_meaning_language.specs.declared.statement.FaultKind.{FaultKind}
use Rattle.c25_phases.specs.Steps.{text_passed}
use Rattle.c25_phases.specs.declared.fault.AsmFault.{AsmFault}
use Rattle.c25_asm.specs.Listed.{AreAlike, Passes}
use Rattle.c25_asm.specs.declared.lines_so_far.LinesSoFar as code

-- the words by which the section of a line grew
pub entry_is : (l : ExpandedLine) (old new : Progress) (section offset size count : ℕ) → section ≡ old.current → offset ≡ size_at old.sections section → size ≡ size_at new.sections section → count ≡ size - offset
    → record { line = l.line; text = l.text; section = section; offset = offset; count = count } ≡ entry_of l old new
entry_is l old new section offset size count s a b c =
    let made : ℕ → ℕ → ℕ → Entry = λ t m n. record { line = l.line; text = l.text; section = t; offset = m; count = n } in
    ap (made section offset) (c ∙ ap (λ n. n - offset) b) ∙ ap (λ m. made section m (size_at new.sections section - m)) a
    ∙ ap (λ t. made t (size_at old.sections t) (size_at new.sections t - size_at old.sections t)) s

-- the entry of a line that passes comes after the others
pub line_passed : (l : ExpandedLine) (a : LinesSoFar) (p : Progress) (entries : List Entry) → text_passed (origin_of l) l.text a.progress ≡ Ok p
    → entries ≡ a.entries ++ entry_of l a.progress p ∷ [] → pass_line l a ≡ Ok (record { progress = p; entries = entries })
unfolding pass_line
line_passed l a p entries h e =
    let made : Progress → List Entry → LinesSoFar = λ q es. record { progress = q; entries = es } in
    ap (λ (r : Result Progress FaultKind). at_origin (origin_of l) r >>= λ q. Ok (made q (a.entries ++ entry_of l a.progress q ∷ []))) h ∙ ap (λ es. Ok (made p es)) (sym e)

-- the entry of a line that passes comes after the others, where a listing is wanted
pub line_listed : (listed : Bool) (l : ExpandedLine) (a : LinesSoFar) (p : Progress) (entries : List Entry) → text_passed (origin_of l) l.text a.progress ≡ Ok p
    → (listed ≡ true → entries ≡ a.entries ++ entry_of l a.progress p ∷ [])
    → (b : LinesSoFar) × (pass_line l a ≡ Ok b) × AreAlike listed b (record { progress = p; entries = entries })
line_listed true l a p entries h e = (record { progress = p; entries = entries }, line_passed l a p entries h (e refl), refl)
line_listed false l a p entries h e =
    (record { progress = p; entries = a.entries ++ entry_of l a.progress p ∷ [] }, line_passed l a p (a.entries ++ entry_of l a.progress p ∷ []) h refl, refl)

-- out of memory is an answer whatever is meant
pub refused_growth : (listed : Bool) (meant : Result LinesSoFar ExpansionFault) (answer : Result code.LinesSoFar (Failure AsmFault)) → IsErrAnd answer IsNoMemory → Passes listed meant answer
refused_growth listed meant (Ok x) h = absurd h
refused_growth listed meant (Err (NoMemory n)) h = tt
refused_growth listed meant (Err (Fault f)) h = absurd h
