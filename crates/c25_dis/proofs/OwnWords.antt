-- The instruction of a line has the words of the line.
use Rattle.std.proofs.Common.{◌≡◌, ℕ, List, Option, Some, None, sym, subst, ◌∙◌}
use Rattle.std.proofs.lemmas.Option.{none-some}
use Rattle.c25_meaning_instructions.specs.declared.insn.Insn.{Insn}
use Rattle.c25_meaning_objects.specs.Module.{Contents}
use Rattle.c25_meaning_objects.specs.declared.object.ModuleMark.{ModuleMark}
use Rattle.c25_dis.specs.Lines.{IsCode, ReadAs}
use Rattle.c25_dis.specs.Sections.{IsLineAt, IsReadBy, mark_at, second_at}
use Rattle.c25_dis.specs.Words.{IsTaken, IsWordLine}

marked_code : (mark : Option ModuleMark) (first : ℕ) (second : Option ℕ) (o : Option Insn) (i : Insn) → o ≡ Some i → IsReadBy mark first second o → IsCode first second i
marked_code None first second o i is read = absurd (none-some i (sym read ∙ is))
marked_code (Some mark) first second o i is read = subst (λ (p : Option Insn). ReadAs first second p) is read

-- in the text of a module
pub line_code : (m : Contents) (section place first : ℕ) (text : List ℕ) (line : IsLineAt m section place first text) (i : Insn) → line.insn ≡ Some i → IsCode first (second_at m section place) i
line_code m section place first text line i is = marked_code (mark_at m section place) first (second_at m section place) line.insn i is line.read

taken_code : (word : ℕ) (next second : Option ℕ) (i : Insn) → IsTaken word next second (Some i) → IsCode word second i
taken_code word next None i taken = taken
taken_code word next (Some s) i taken = taken.1

-- in the text of words
pub word_code : (next : Option ℕ) (address word : ℕ) (was end : Option ℕ) (text : List ℕ) (line : IsWordLine next address word was end text) (i : Insn) → line.insn ≡ Some i → IsCode word line.second i
word_code next address word was end text line i is = taken_code word next line.second i (subst (λ (p : Option Insn). IsTaken word next line.second p) is line.taken)
