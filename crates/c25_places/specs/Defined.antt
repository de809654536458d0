-- The name that a line defines, where it has a value already (26).
use Rattle.std.specs.Prelude.{◌==◌, ◌&&◌, not, Bool, false, if◌then◌else◌, find, is_some, List, [], ◌∷◌, ℕ, Option, Some, None, Result, Ok}
use Rattle.std.specs.Ordering.{int_eq}
use Rattle.std.specs.Option.{option_map, option_or}
use Rattle.c25_meaning_assembly.specs.declared.assembly.Directive.{Directive}
use Rattle.c25_meaning_assembly.specs.declared.assembly.Directive.TheVariants as directive
use Rattle.c25_meaning_language.specs.DirectiveOperands.{is_name}
use Rattle.c25_meaning_language.specs.Line.{Piece, label_in}
use Rattle.c25_meaning_language.specs.Operands.{operands_of}
use Rattle.c25_meaning_language.specs.Value.{Table, predefined, value_named}
use Rattle.c25_meaning_language.specs.declared.line.LineFault.{LineFault}
use Rattle.c25_meaning_language.specs.declared.value.Base.{Base}
use Rattle.c25_meaning_language.specs.declared.value.Base.TheVariants as base
use Rattle.c25_meaning_language.specs.declared.value.Value.{Value}
use Rattle.c25_places.specs.Refused.{label_part, piece_part, word_part}
use Rattle.c25_places.specs.declared.part.Part.{Part}

-- the first of these tokens that is a predefined name
abbrev pub predefined_in : List Piece → Option Piece
predefined_in pieces = find (λ p. is_name p.kind && is_some (predefined p.text)) pieces

-- the first of these tokens that is a name with a value
abbrev pub standing_in : Table → List Piece → Option Piece
standing_in table pieces = find (λ p. is_name p.kind && is_some (value_named table p.text)) pieces

-- the name in the first operand, where it has a value
abbrev pub first_standing : Table → List (List Piece) → Option Piece
first_standing table [] = None
first_standing table (o ∷ os) = standing_in table o

-- the name among the operands that a line with this directive defines or declares, and may not
abbrev pub named_in : Table → Option Directive → List Piece → Option Piece
named_in table (Some directive.Bss) pieces = first_standing table (operands_of pieces)
named_in table (Some directive.Label) pieces = first_standing table (operands_of pieces)
named_in table (Some directive.Global) pieces = predefined_in pieces
named_in table (Some directive.Def) pieces = predefined_in pieces
named_in table d pieces = None

-- the part of what a line defines where it has no such operand: the mnemonic field of `.mmregs`, which defines names
-- of its own, else the label
abbrev pub field_defined : Option Directive → List ℕ → Option Part
field_defined (Some directive.Registers) text = word_part text
field_defined d text = label_part text

-- whether two places are the same one of a section
abbrev pub is_same_place : Base → Base → Bool
is_same_place (base.Section a) (base.Section b) = a == b
is_same_place _ _ = false

-- whether a value is that of a label of a line that begins at this place
abbrev pub is_at : Option Value → Value → Bool
is_at None v = false
is_at (Some here) v = is_same_place v.base here.base && int_eq v.offset here.offset

-- whether a name stands for something other than a label of this line
abbrev pub stands_elsewhere : Table → List ℕ → Bool
stands_elsewhere table name = elim (value_named table name) [ None ↦ false | Some v ↦ not (is_at (Some table.here) v) ]

-- whether the label of a line had a value before the line
abbrev pub is_old : Table → Result (Option (List ℕ)) LineFault → Bool
is_old table (Ok (Some label)) = stands_elsewhere table label
is_old table _ = false

-- the part of the name that a line defines, where it has a value already: its label comes first
abbrev pub defined_part : Table → Option Directive → List ℕ → List Piece → Option Part
defined_part table d text pieces =
    if is_old table (label_in text) then label_part text
    else option_or (option_map piece_part (named_in table d pieces)) (field_defined d text)
