-- The line of PC, by the place of the instruction that runs there in block B0.
use Rattle.std.proofs.Common.{◌≡◌, ◌∙◌, ◌++◌, ℕ, List, [], Option, None, Some, Result, Ok, Err, sym, ap, subst}
use Rattle.std.specs.Prelude.{IfOk, string_bytes}
use Rattle.c25_meaning_debugger.specs.Debugger.{IsWhereBy, source_line_at}
use Rattle.c25_meaning_debugger.specs.Texts.{IsWhere}
use Rattle.c25_meaning_image.specs.Marks.{size_at}
use Rattle.c25_meaning_image.specs.declared.mark.RunMark.{RunMark}
use Rattle.c25_meaning_linking.specs.Linking.{ImageData}
use Rattle.c25_meaning_processor.specs.State.{State}
use Rattle.c25_meaning_processor.specs.WordStep.{IsFetchedBy}
use Rattle.c25_debug.specs.declared.steps.Answer.{Answer}

-- a text that was empty has the line of an address, which is PC
pub only_line : (line : ℕ → List ℕ) (address pc : ℕ) (empty text : List ℕ) → address ≡ pc → empty ≡ [] → text ≡ empty ++ line address → text ≡ line pc
only_line line address pc empty text at none written = written ∙ ap (λ (e : List ℕ). e ++ line address) none ∙ ap line at

-- the line of PC where the place of an instruction was found
pub where_by : (image : ImageData) (s : State) (found : Option RunMark) (m : RunMark) (text : List ℕ)
    → found ≡ Some m → IsWhereBy image s (Some m) text → IsWhereBy image s found text
where_by image s found m text is shown = subst (λ (f : Option RunMark). IsWhereBy image s f text) (sym is) shown

-- nothing is fetched at a place that was found: an answer that may be refused has the line of the mark at PC
pub nothing_fetched : {E : Type 0} (image : ImageData) (s : State) (found : Option RunMark) (m : RunMark) (address : ℕ) (r : Result Answer E)
    → found ≡ Some m → IsFetchedBy s.registers.cnf s.world s.registers.pc (Some m) None → address ≡ s.registers.pc
    → IfOk r (λ told. IsWhere image.program (source_line_at image) address (size_at image.marks address) (string_bytes told.text))
    → IfOk r (λ told. IsWhereBy image s found (string_bytes told.text))
nothing_fetched image s found m address (Err e) is fetched at shown = tt
nothing_fetched image s found m address (Ok told) is fetched at shown =
    where_by image s found m (string_bytes told.text) is
    (None, fetched, subst (λ (a : ℕ). IsWhere image.program (source_line_at image) a (size_at image.marks a) (string_bytes told.text)) at shown)
