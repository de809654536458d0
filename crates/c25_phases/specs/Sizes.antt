-- How many words an item has.
use Rattle.std.specs.Prelude.{ℕ, ◌<◌, ◌≤◌, Bool, true, false, length}
use Rattle.c25_meaning_assembly.specs.OperandFields.{target_size}
use Rattle.c25_meaning_assembly.specs.declared.assembly.Target.{Target}
use Rattle.c25_meaning_assembly.specs.declared.assembly.Target.TheVariants as target
use Rattle.c25_statements.specs.Exprs.{exprs_in}
use Rattle.c25_phases.specs.declared.item.Content.{Content}
use Rattle.c25_phases.specs.declared.item.Content.TheVariants as content

-- the words of an item
abbrev pub content_size : Content → ℕ
content_size (content.Operands target operands) = target_size target (length (exprs_in operands))
content_size (content.Words words) = length words.items
content_size (content.Zeros count) = count
content_size (content.Exported names) = 0

-- a block has 1 to 128 words
abbrev pub IsBlockSize : Bool → ℕ → Type 0
IsBlockSize true n = (0 < n) × (n ≤ 128)
IsBlockSize false n = Unit {0}

-- an instruction has one word or two
abbrev pub IsSize : Target → ℕ → Type 0
IsSize (target.Instruction f) n = (0 < n) × (n ≤ 2)
IsSize (target.Data w) n = Unit {0}
