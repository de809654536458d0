-- Which field of an instruction, or which whole word, an operand of a line fills, and how many words the line
-- makes (SPRU018, assembler directives; SPRU014, instruction formats).
use Rattle.std.specs.Prelude.{ℕ, List, slice_index}
use Rattle.c25_meaning_language.specs.Fits.{Holds}
use Rattle.c25_meaning_language.specs.Statement.{form_field, form_row}
use Rattle.c25_meaning_instructions.specs.Table.{size}
use Rattle.c25_meaning_assembly.specs.declared.assembly.DataWidth.{DataWidth}
use Rattle.c25_meaning_assembly.specs.declared.assembly.DataWidth.TheVariants as width
use Rattle.c25_meaning_assembly.specs.declared.assembly.Target.{Target}
use Rattle.c25_meaning_assembly.specs.declared.assembly.Target.TheVariants as target
use Rattle.c25_meaning_language.specs.declared.statement.Field.{Field}
use Rattle.c25_meaning_language.specs.declared.statement.Field.TheVariants as field

-- the field that a value of a data directive fills
abbrev pub data_field : DataWidth → Field
data_field width.Word = field.Word
data_field width.Byte = field.Byte

-- the field that the expression with index `k` of a line fills
abbrev pub field_of : Target → ℕ → Field
field_of (target.Instruction f) k = form_field f k
field_of (target.Data w) k = data_field w

-- the numbers of a line fit its fields; a number that is not written counts as 0
abbrev pub FitsTarget : Target → List ℕ → Type 0
FitsTarget t ns = (k : ℕ) → Holds (field_of t k) (slice_index ns k)

-- the index, among the words of its line, of the word with this field of the expression with index `k`, for
-- the fields that an address may fill
abbrev pub word_of : Field → ℕ → ℕ
word_of field.Low7 k = 0
word_of field.Page9 k = 0
word_of field.Word16 k = 1
word_of _ k = k

-- how many words a line with `k` expressions makes
abbrev pub target_size : Target → ℕ → ℕ
target_size (target.Instruction f) k = size (form_row f)
target_size (target.Data w) k = k
