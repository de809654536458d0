-- Lines that are alike pass alike.
use Rattle.std.proofs.Common.{◌≡◌, Bool, true, false, [], ◌∷◌, ◌++◌, Result, Ok, Err, refl, ap, sym, ◌∙◌}
use Rattle.c25_meaning_assembly.specs.Sections.{Progress}
use Rattle.c25_meaning_common.specs.Results.{◌>>=◌, FailsBy}
use Rattle.c25_meaning_common.specs.declared.failure.Failure.{Failure}
use Rattle.c25_meaning_common.specs.declared.failure.Failure.TheVariants.{NoMemory, Fault}
use Rattle.c25_meaning_expansion.specs.ExpansionAnswers.{ExpandedLine}
use Rattle.c25_meaning_language.specs.ExpansionFault.{ExpansionFault}
use Rattle.c25_meaning_assembly.specs.ModuleOfSource.{LinesSoFar, entry_of, pass_line, read_and_pass}
use Rattle.c25_phases.specs.View.{fault_of}
use Rattle.c25_phases.specs.declared.fault.AsmFault.{AsmFault}
use Rattle.c25_asm.specs.Listed.{AreAlike}

pub same_made : (listed : Bool) (a b : LinesSoFar) → AreAlike listed a b → a.progress ≡ b.progress
same_made true a b h = ap (λ (x : LinesSoFar). x.progress) h
same_made false a b h = h

pub like_itself : (listed : Bool) (a : LinesSoFar) → AreAlike listed a a
like_itself true a = refl
like_itself false a = refl

pub alike_then : (listed : Bool) (a b c : LinesSoFar) → AreAlike listed a b → AreAlike listed b c → AreAlike listed a c
alike_then true a b c h k = h ∙ k
alike_then false a b c h k = h ∙ k

-- ---- one line more

abbrev with_line : LinesSoFar → ExpandedLine → Progress → LinesSoFar
with_line a l p = record { progress = p; entries = a.entries ++ entry_of l a.progress p ∷ [] }

line_is : (a : LinesSoFar) (l : ExpandedLine) (r : Result Progress ExpansionFault) → read_and_pass l a.progress ≡ r → pass_line l a ≡ (r >>= λ p. Ok (with_line a l p))
unfolding pass_line
line_is a l r e = ap (λ (x : Result Progress ExpansionFault). x >>= λ p. Ok (with_line a l p)) e

same_ok : (a b : LinesSoFar) → ◌≡◌ {A = Result LinesSoFar ExpansionFault} (Ok a) (Ok b) → a ≡ b
same_ok a b e = cc

passes_by : (a b d : LinesSoFar) (l : ExpandedLine) (r : Result Progress ExpansionFault) → read_and_pass l a.progress ≡ r → read_and_pass l b.progress ≡ r → pass_line l b ≡ Ok d
    → (e : LinesSoFar) × (pass_line l a ≡ Ok e) × (e.progress ≡ d.progress)
passes_by a b d l (Ok p) here there h =
    let same : with_line b l p ≡ d = same_ok (with_line b l p) d (sym (line_is b l (Ok p) there) ∙ h) in
    (with_line a l p, line_is a l (Ok p) here, ap (λ (x : LinesSoFar). x.progress) same)
passes_by a b d l (Err f) here there h =
    let both : ◌≡◌ {A = Result LinesSoFar ExpansionFault} (Err f) (Ok d) = sym (line_is b l (Err f) there) ∙ h in
    absurd (cc)

-- a line that passes after the first lines passes after the others
pub passes_alike : (listed : Bool) (a b d : LinesSoFar) (l : ExpandedLine) → AreAlike listed a b → pass_line l b ≡ Ok d → (e : LinesSoFar) × (pass_line l a ≡ Ok e) × AreAlike listed e d
passes_alike true a b d l same h = (d, ap (pass_line l) same ∙ h, refl)
passes_alike false a b d l same h = passes_by a b d l (read_and_pass l b.progress) (ap (read_and_pass l) same) refl h

fails_by : (a b : LinesSoFar) (l : ExpandedLine) (f : ExpansionFault) (r : Result Progress ExpansionFault) → read_and_pass l a.progress ≡ r → read_and_pass l b.progress ≡ r → pass_line l b ≡ Err f
    → pass_line l a ≡ Err f
fails_by a b l f (Ok p) here there h =
    let both : ◌≡◌ {A = Result LinesSoFar ExpansionFault} (Ok (with_line b l p)) (Err f) = sym (line_is b l (Ok p) there) ∙ h in
    absurd (cc)
fails_by a b l f (Err g) here there h = line_is a l (Err g) here ∙ sym (line_is b l (Err g) there) ∙ h

fails_alike : (listed : Bool) (a b : LinesSoFar) (l : ExpandedLine) (f : ExpansionFault) → AreAlike listed a b → pass_line l b ≡ Err f → pass_line l a ≡ Err f
fails_alike true a b l f same h = ap (pass_line l) same ∙ h
fails_alike false a b l f same h = fails_by a b l f (read_and_pass l b.progress) (ap (read_and_pass l) same) refl h

-- a line that is refused after the first lines is refused after the others
pub refused_alike : (listed : Bool) (a b : LinesSoFar) (l : ExpandedLine) (e : Failure AsmFault) → AreAlike listed a b → FailsBy fault_of (pass_line l b) e → FailsBy fault_of (pass_line l a) e
refused_alike listed a b l (NoMemory n) same h = tt
refused_alike listed a b l (Fault f) same h = fails_alike listed a b l (fault_of f) same h
