-- How many words items have; each item begins after those before it in its section (SPRU018, sections).
use Rattle.std.specs.Prelude.{ℕ, ◌+◌, ◌==◌, List, [], ◌∷◌, length, if◌then◌else◌}
use Rattle.c25_meaning_assembly.specs.OperandFields.{target_size}
use Rattle.c25_meaning_assembly.specs.Sections.{Content, Exported, PendingItem, Operands, Words, Zeros}

-- how many words the content of an item has
abbrev pub words_in : Content → ℕ
words_in (Operands t trees) = target_size t (length trees)
words_in (Words words) = length words
words_in (Zeros count) = count
words_in (Exported names) = 0

-- how many words an item has in section `k`
abbrev pub part : ℕ → PendingItem → ℕ
part k i = if i.section == k then words_in i.content else 0

-- how many words items have in section `k`
abbrev pub total : ℕ → List PendingItem → ℕ
total k [] = 0
total k (i ∷ is) = part k i + total k is
