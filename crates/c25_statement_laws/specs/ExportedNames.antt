-- What a name is that another source of a program defines: the value of the exporter's own entry under the map,
-- with no symbol of a module (SPRU018, `.global`, `.ref`, `.def`; linker description, symbols).
--
-- An example: `delay.asm` has `.def DELAY` and defines DELAY as the word 3 of its `.text`; `main.asm` has
-- `.ref DELAY` and names it in `CALL DELAY`. Where the part of `delay.asm` in `.text` runs from 0040h on, DELAY is
-- 0043h in both, and so is the operand of CALL.
use Rattle.std.specs.Prelude.{◌≡◌, ◌⊎◌, ℕ, ◌+◌, true, if◌then◌else◌, List, ◌∷◌, map, Option, Some, None, ℤ, pos}
use Rattle.std.specs.List.{Contains, slice_get}
use Rattle.c25_meaning_assembly.specs.Sections.{Definitions, Operands, PendingItem, Progress, is_in}
use Rattle.c25_meaning_assembly.specs.declared.assembly.Target.{Target}
use Rattle.c25_meaning_expansion.specs.Files.{Files}
use Rattle.c25_meaning_language.specs.Tree.{Tree, Single, Constant, Name, Here, Group, Unary, Binary}
use Rattle.c25_meaning_language.specs.Value.{defined}
use Rattle.c25_meaning_language.specs.declared.statement.Field.{Field}
use Rattle.c25_meaning_language.specs.declared.value.Value.{Value}
use Rattle.c25_meaning_linking.specs.Place.{Place}
use Rattle.c25_meaning_linking.specs.Words.{section_run}
use Rattle.c25_meaning_objects.specs.Module.{Contents}
use Rattle.c25_laws.specs.ProgramStatements.{lines_in}
use Rattle.c25_laws.specs.SourceValues.{field_value, is_address, is_place, own_name, placed, value_under}

-- ---- who exports a name

-- a source of these names defines this name and lets all modules see it
pub record IsExported (files : Files) (names : List (List ℕ)) (modules : List Contents) (text : List ℕ) : Type 0 where
  pub number : ℕ
  pub name : List ℕ
  pub owner : Contents
  pub value : Value
  pub name_is : slice_get names number ≡ Some name
  pub owner_is : slice_get modules number ≡ Some owner
  pub seen : is_in (lines_in files name).exported text ≡ true
  pub value_is : Contains (lines_in files name).names (text, value)

-- ---- who needs a name

-- a name stands in an expression
abbrev pub Mentions : Tree → List ℕ → Type 0
Mentions (Single (Constant n)) text = ⊥
Mentions (Single (Name name)) text = name ≡ text
Mentions (Single Here) text = ⊥
Mentions (Group e) text = Mentions e text
Mentions (Unary op e) text = Mentions e text
Mentions (Binary op l r) text = Mentions l text ⊎ Mentions r text

-- an operand of a source of these names mentions this name, which the source does not define
pub record IsImported (files : Files) (names : List (List ℕ)) (text : List ℕ) : Type 0 where
  pub number : ℕ
  pub name : List ℕ
  pub item : PendingItem
  pub target : Target
  pub trees : List Tree
  pub operand : Tree
  pub name_is : slice_get names number ≡ Some name
  pub item_is : Contains (lines_in files name).items item
  pub content_is : item.content ≡ Operands target trees
  pub operand_is : Contains trees operand
  pub mentioned : Mentions operand text
  pub undefined : own_name (lines_in files name).names text ≡ None

-- ---- values without symbols

-- the value with which the lines of a source define a name that all modules see, if they do
abbrev pub exported_entry : Progress → List ℕ → Option Value
exported_entry p text = if is_in p.exported text then defined p.names text else None

-- the value under the map of an entry of a module, or else another value
abbrev pub placed_or : List Contents → List Place → ℕ → Contents → Option Value → ℤ → ℤ
placed_or modules places number m (Some v) other = placed modules places number m v.base v.offset
placed_or modules places number m None other = other

-- the value under the map of a name that one of these sources exports; 0 where none does; the modules are numbered
-- from `number` on
abbrev pub exported_from : List Contents → List Place → ℕ → List Contents → List Progress → List ℕ → ℤ
exported_from modules places number (m ∷ ms) (p ∷ ps) text =
    placed_or modules places number m (exported_entry p text) (exported_from modules places (number + 1) ms ps text)
exported_from modules places number _ _ text = pos 0

-- the value under the map of a name that a source of these names exports
abbrev pub exported_value : Files → List (List ℕ) → List Contents → List Place → List ℕ → ℤ
exported_value files names modules places text = exported_from modules places 0 modules (map (lines_in files) names) text

-- the value under the map of a name in a source with these definitions: its own value, or else that of the source
-- that exports it
abbrev pub name_from : Files → List (List ℕ) → List Contents → List Place → ℕ → Contents → Definitions → List ℕ → ℤ
name_from files names modules places number m own text =
    placed_or modules places number m (own_name own text) (exported_value files names modules places text)

-- the number of an operand in a statement that begins at this offset of this section
abbrev pub number_from : Files → List (List ℕ) → List Contents → List Place → ℕ → Contents → Definitions → ℕ → ℕ → Field → Tree → ℕ
number_from files names modules places number m own section offset f e =
    field_value f (is_address (is_place own) e)
    (value_under (name_from files names modules places number m own) (pos (section_run modules places number m section + offset)) e)
