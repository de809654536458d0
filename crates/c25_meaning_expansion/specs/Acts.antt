-- What a line asks of expansion by its directive and operands, or its first fault of 10 to 13, 51, 52, 20, 21
-- and 35 (SPRU018, assembler directives and macro language).
use Rattle.std.specs.Prelude.{ℕ, List, [], ◌∷◌, length, nat_lt, slice_index, if◌then◌else◌, codes, Option, Some, None, unwrap_or, Result, Ok, Err}
use Rattle.std.specs.Map.{lookup}
use Rattle.std.specs.Option.{ok_or}
use Rattle.std.specs.Str.{str_eq_ignore_ascii_case}
use Rattle.c25_meaning_common.specs.Bytes.{is_blank}
use Rattle.c25_meaning_language.specs.Line.{Piece, Parts}
use Rattle.c25_meaning_language.specs.Operands.{operands_of, written_of}
use Rattle.c25_meaning_language.specs.Tree.{Tree}
use Rattle.c25_meaning_common.specs.Results.{◌>>=◌}
use Rattle.c25_meaning_language.specs.Forms.{is_expression}
use Rattle.c25_meaning_language.specs.Texts.{SubstitutionTexts}
use Rattle.c25_meaning_language.specs.Arguments.{arguments, assigned_text}
use Rattle.c25_meaning_expansion.specs.Rows.{Row}
use Rattle.c25_meaning_expansion.specs.declared.expansion.Directive.{Directive}
use Rattle.c25_meaning_expansion.specs.declared.expansion.Directive.TheVariants as directive
use Rattle.c25_meaning_language.specs.declared.statement.FaultKind.{FaultKind}
use Rattle.c25_meaning_language.specs.declared.statement.FaultKind.TheVariants as fault
use Rattle.c25_meaning_language.specs.DirectiveOperands.{expression_in, name_in, string_in, names_in, parts_in}

-- a macro: the names of its parameters, and its lines
pub record Macro : Type 0 where
  pub parameters : List (List ℕ)
  pub body : List Row

-- what a line asks of expansion
pub data ExpansionAct : Type 0 where
  If : (condition : Tree) → ExpansionAct
  ElseIf : (condition : Tree) → ExpansionAct
  Else : ExpansionAct
  EndIf : ExpansionAct
  -- a macro of this name and with these parameters begins: the next lines are its body
  Define : (name : List ℕ) (parameters : List (List ℕ)) → ExpansionAct
  -- `.endm` or `.endloop` where no body is being collected
  Stray : ExpansionAct
  -- `.mexit`: the innermost expansion is left
  Exit : ExpansionAct
  Loop : (count : Option Tree) → ExpansionAct
  Break : (condition : Option Tree) → ExpansionAct
  Assign : (text name : List ℕ) → ExpansionAct
  Evaluate : (expression : Tree) (name : List ℕ) → ExpansionAct
  Copy : (name : List ℕ) → ExpansionAct
  End : ExpansionAct
  Call : (body : List Row) (arguments : SubstitutionTexts) → ExpansionAct

-- what a line asks for, and its label, which becomes a line of its own before that
pub record Order : Type 0 where
  pub label : Option (List ℕ)
  pub act : ExpansionAct

-- ---- directives by their names

-- the directives that expansion acts on, by their names
abbrev pub directives : List (List ℕ × Directive)
directives =
    (codes ".if", directive.If) ∷ (codes ".elseif", directive.ElseIf) ∷ (codes ".else", directive.Else)
    ∷ (codes ".endif", directive.EndIf) ∷ (codes ".macro", directive.Macro) ∷ (codes ".endm", directive.EndMacro)
    ∷ (codes ".mexit", directive.ExitMacro) ∷ (codes ".loop", directive.Loop) ∷ (codes ".break", directive.Break)
    ∷ (codes ".endloop", directive.EndLoop) ∷ (codes ".asg", directive.Assign) ∷ (codes ".eval", directive.Evaluate)
    ∷ (codes ".copy", directive.Copy) ∷ (codes ".include", directive.Copy) ∷ (codes ".end", directive.End) ∷ []

-- the directive of a mnemonic field, letters in either case, if expansion acts on it
unfoldable pub directive_of : List ℕ → Option Directive
directive_of word = lookup (str_eq_ignore_ascii_case word) directives

-- ---- operands

-- the act of a directive that takes no operand
abbrev pub without : ExpansionAct → List (List Piece) → Result ExpansionAct FaultKind
without act [] = Ok act
without act (o ∷ os) = Err fault.OperandCount

-- the act of a directive that takes one operand, an expression
abbrev pub with_condition : (Tree → ExpansionAct) → List (List Piece) → Result ExpansionAct FaultKind
with_condition act (o ∷ []) = expression_in o >>= λ e. Ok (act e)
with_condition act _ = Err fault.OperandCount

-- the act of a directive that takes no operand or one, an expression
abbrev pub with_option : (Option Tree → ExpansionAct) → List (List Piece) → Result ExpansionAct FaultKind
with_option act [] = Ok (act None)
with_option act (o ∷ []) = expression_in o >>= λ e. Ok (act (Some e))
with_option act _ = Err fault.OperandCount

-- ---- the directives with other operands

-- `.macro`: at most 32 operands, the names of the parameters; the label is the macro's name
abbrev pub definition_in : Parts → List (List Piece) → Result ExpansionAct FaultKind
definition_in parts operands =
    names_in operands >>= λ names.
    if nat_lt 32 (length names) then Err fault.TooManyParameters else Ok (Define (unwrap_or parts.label []) names)

-- the last operand, if there are two or more
abbrev pub last_of_two : List (List Piece) → Option (List Piece)
last_of_two [] = None
last_of_two (o ∷ []) = None
last_of_two (o ∷ p ∷ []) = Some p
last_of_two (o ∷ p ∷ q ∷ os) = last_of_two (p ∷ q ∷ os)

-- `.asg`: the text is all operands but the last, of any form; the last is a name
abbrev pub assignment_in : List ℕ → List (List Piece) → Result ExpansionAct FaultKind
assignment_in text operands =
    ok_or (last_of_two operands) fault.OperandCount >>= λ last.
    name_in last >>= λ name. Ok (Assign (assigned_text text) name)

-- `.eval`: an expression and a name; an operand of another form (52) is reported before an expression that is
-- not valid (20, 21)
abbrev pub evaluation_in : List (List Piece) → Result ExpansionAct FaultKind
evaluation_in (o ∷ p ∷ []) =
    if is_expression (written_of o)
    then (name_in p >>= λ name. expression_in o >>= λ e. Ok (Evaluate e name))
    else Err fault.OperandForm
evaluation_in _ = Err fault.OperandCount

-- `.copy` and `.include`: one string, the file's name
abbrev pub copy_in : List (List Piece) → Result ExpansionAct FaultKind
copy_in (o ∷ []) = string_in o >>= λ name. Ok (Copy name)
copy_in _ = Err fault.OperandCount

-- what a directive with these operands asks for
unfoldable pub act_of : Directive → List ℕ → Parts → List (List Piece) → Result ExpansionAct FaultKind
act_of directive.If text parts operands = with_condition If operands
act_of directive.ElseIf text parts operands = with_condition ElseIf operands
act_of directive.Else text parts operands = without Else operands
act_of directive.EndIf text parts operands = without EndIf operands
act_of directive.Macro text parts operands = definition_in parts operands
act_of directive.EndMacro text parts operands = without Stray operands
act_of directive.ExitMacro text parts operands = without Exit operands
act_of directive.Loop text parts operands = with_option Loop operands
act_of directive.Break text parts operands = with_option Break operands
act_of directive.EndLoop text parts operands = without Stray operands
act_of directive.Assign text parts operands = assignment_in text operands
act_of directive.Evaluate text parts operands = evaluation_in operands
act_of directive.Copy text parts operands = copy_in operands
act_of directive.End text parts operands = without End operands

-- ---- whole lines

-- the parts of a line with a directive: `.macro` needs a label, and a blank in column 1 is BadLabel before
-- any other fault
abbrev pub parts_for : Directive → List ℕ → Result Parts FaultKind
parts_for directive.Macro text = if is_blank (slice_index text 0) then Err fault.BadLabel else parts_in text
parts_for _ text = parts_in text

-- the label that becomes a line of its own: not that of `.macro`, which is the macro's name
abbrev pub label_for : Directive → Option (List ℕ) → Option (List ℕ)
label_for directive.Macro label = None
label_for _ label = label

-- what a line with a directive asks for
unfoldable pub order_of : Directive → List ℕ → Result Order FaultKind
order_of d text =
    parts_for d text >>= λ parts.
    act_of d text parts (operands_of parts.pieces) >>= λ act.
    Ok (record { label = label_for d parts.label; act = act })

-- what a line that calls a macro asks for: its operands are the arguments
unfoldable pub call_of : Macro → List ℕ → Result Order FaultKind
call_of m text = parts_in text >>= λ parts. Ok (record { label = parts.label; act = Call m.body (arguments m.parameters text) })
