-- The names of layouts, and the numbers that they stand in place of.
use Rattle.std.specs.Prelude.{◌≡◌, ℕ, ◌+◌, ◌<◌, ◌≤◌, true, List, length, Option, None, Some, string_bytes}
use Rattle.std.specs.List.{All}
use Rattle.c25_layout.specs.Flow.{long_word}
use Rattle.c25_layout.specs.Hints.{is_name}
use Rattle.c25_layout.specs.declared.layout.Item.{Item}
use Rattle.c25_layout.specs.declared.layout.Item.TheVariants as item
use Rattle.c25_layout.specs.declared.layout.Target.{Target}
use Rattle.c25_meaning_instructions.specs.Table.{InRange}
use Rattle.c25_meaning_instructions.specs.declared.insn.Insn.{Insn}
use Rattle.c25_meaning_language.specs.Value.{predefined}

-- a text that the assembler takes as a label
abbrev pub IsLabelName : List ℕ → Type 0
IsLabelName text = (is_name text ≡ true) × (length text ≤ 128)

-- a name, or a word some words after it, is a number: `value` has the numbers that names stand for
pub record IsMet (value : List ℕ → Option ℕ) (number : ℕ) (t : Target) : Type 0 where
  pub name : IsLabelName (string_bytes t.name)
  -- no register's or port's name, which the assembler knows already
  pub own : predefined (string_bytes t.name) ≡ None
  pub small : t.after < 65536
  pub at : ℕ
  pub stands : value (string_bytes t.name) ≡ Some at
  pub number_is : number ≡ at + t.after

-- an instruction's second word, for which a name stands
pub record IsNamed (value : List ℕ → Option ℕ) (i : Insn) (t : Target) : Type 0 where
  pub in_range : InRange i
  pub number : ℕ
  pub word : long_word i ≡ Some number
  pub met : IsMet value number t

-- what a row may be: numbers are in range, names stand for them, and one line has few words of data
abbrev pub IsRowItem : (List ℕ → Option ℕ) → Item → Type 0
IsRowItem value (item.Plain i) = InRange i
IsRowItem value (item.Named i t) = IsNamed value i t
IsRowItem value (item.Words ws) = All (λ w. w < 65536) ws.items × (length ws.items ≤ 16)
IsRowItem value (item.Address number t) = (number < 65536) × IsMet value number t
