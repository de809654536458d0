-- What expansion works on: one flat list of the lines still to come, which is rewritten at its front
-- (SPRU018, macro language and assembler directives; the limits and the numbering of expansions are this
-- project's own).
use Rattle.std.specs.Prelude.{ℕ, ◌+◌, List, [], ◌∷◌, ◌++◌, Bool, true, false, ◌||◌, Option, Some, None, nat_le, if◌then◌else◌, length, drop, map, sum_by, is_some}
use Rattle.std.specs.List.{list_any}
use Rattle.std.specs.Map.{lookup}
use Rattle.std.specs.Str.{bytes_eq}
use Rattle.c25_meaning_expansion.specs.Acts.{ExpansionAct, Macro}
use Rattle.c25_meaning_expansion.specs.Rows.{Row}
use Rattle.c25_meaning_language.specs.Fragments.{visible}
use Rattle.c25_meaning_language.specs.Texts.{Named, SubstitutionTexts, with_name}
use Rattle.c25_meaning_common.specs.declared.placed.FileLine.{FileLine}
use Rattle.c25_meaning_expansion.specs.declared.expansion.Branch.{Branch}
use Rattle.c25_meaning_language.specs.declared.statement.FaultKind.{FaultKind}

-- a line still to come, or the end of a copied file, of an expansion or of a turn of a loop
pub data LineOrEnd : Type 0 where
  Read : (row : Row) → LineOrEnd
  Close : LineOrEnd

-- what the lines up to the next end belong to: a copied file, the expansion of a macro, or a turn of a loop
-- with this body, of which `more` turns are still to come
pub data Kind : Type 0 where
  Copied : Kind
  Expanded : Kind
  Turn : (body : List Row) (more : ℕ) → Kind

-- an open file, expansion or turn: the place of its last line, and the `.if`s that began in it and are open,
-- the innermost first
pub record SourceFrame : Type 0 where
  pub kind : Kind
  pub last : FileLine ℕ
  pub branches : List Branch

-- an open expansion: its number, and its parameters with the texts that they stand for
pub record Expansion : Type 0 where
  pub number : ℕ
  pub arguments : SubstitutionTexts

-- what is done with the next line: it is read; or a line whose label was given is acted on first; or the line
-- goes into the body of a macro or a loop, in which `nested` blocks of that kind are open
pub data Mode : Type 0 where
  Reading : Mode
  Acting : (place : FileLine ℕ) (act : ExpansionAct) → Mode
  InMacro : (name : List ℕ) (parameters : List (List ℕ)) (body : List Row) (nested : ℕ) → Mode
  InLoop : (turns : ℕ) (body : List Row) (nested : ℕ) → Mode

-- what names stand for in expansion
pub record Dictionary : Type 0 where
  pub macros : Named Macro
  -- the names of `.asg` and `.eval`
  pub texts : SubstitutionTexts
  -- the open expansions, the innermost first
  pub expansions : List Expansion
  -- how many calls of macros there have been
  pub count : ℕ

-- the state of expansion between two rewritings
pub record Config : Type 0 where
  pub lines : List LineOrEnd
  pub frame : SourceFrame
  -- the files, expansions and turns round that of `frame`, the innermost first
  pub outer : List SourceFrame
  pub mode : Mode
  pub names : Dictionary
  -- how many lines may still be read
  pub left : ℕ

-- the result of rewriting the front: a line is given, rewriting goes on, the source ends, a fault, or a file
-- that is not there
pub data Rewriting : Type 0 where
  Gives : (row : Row) (rest : Config) → Rewriting
  Goes : (rest : Config) → Rewriting
  Finishes : (rest : Config) → Rewriting
  Faults : (place : FileLine ℕ) (kind : FaultKind) → Rewriting
  Misses : (place : FileLine ℕ) (name : List ℕ) → Rewriting

-- a fault if the test holds, else what follows
abbrev pub unless : Bool → FaultKind → FileLine ℕ → Rewriting → Rewriting
unless test kind place next = if test then Faults place kind else next

-- ---- open blocks

-- how many expansions, copied files, loops and `.if`s are open
abbrev pub depth : Config → ℕ
depth c = length c.frame.branches + sum_by (λ f. length f.branches + 1) c.outer

-- whether 32 blocks are open, so that no more may be opened
abbrev pub is_full : Config → Bool
is_full c = nat_le 32 (depth c)

-- a file, expansion or turn with these lines is opened: they come next, and then an end
abbrev pub source_opened : Kind → FileLine ℕ → List Row → Config → Config
source_opened kind last rows c =
    record c { lines = map Read rows ++ Close ∷ c.lines; frame = record { kind = kind; last = last; branches = [] }; outer = c.frame ∷ c.outer }

-- the configuration with these `.if`s open in the innermost file, expansion or turn
abbrev pub with_branches : List Branch → Config → Config
with_branches branches c = record c { frame = record { kind = c.frame.kind; last = c.frame.last; branches = branches } }

-- the lines after the next end
abbrev pub after_close : List LineOrEnd → List LineOrEnd
after_close [] = []
after_close (Close ∷ items) = items
after_close (Read row ∷ items) = after_close items

-- the names after a file, expansion or turn has ended: an expansion that ends is the innermost one
abbrev pub without_ended : Kind → Dictionary → Dictionary
without_ended Expanded names = record names { expansions = drop 1 names.expansions }
without_ended Copied names = names
without_ended (Turn body more) names = names

-- the configuration once the innermost file, expansion or turn that passes the test is left, with all that is
-- open inside it: the lines of all these are dropped; nothing where none passes
abbrev pub left_through : (Kind → Bool) → List LineOrEnd → SourceFrame → List SourceFrame → Dictionary → Config → Option Config
left_through test lines frame [] names c = None
left_through test lines frame (f ∷ fs) names c =
    if test frame.kind
    then Some (record c { lines = after_close lines; frame = f; outer = fs; names = without_ended frame.kind names })
    else left_through test (after_close lines) f fs (without_ended frame.kind names) c

-- whether this kind is an expansion
abbrev pub is_expansion : Kind → Bool
is_expansion Expanded = true
is_expansion Copied = false
is_expansion (Turn body more) = false

-- whether this kind is a turn of a loop
abbrev pub is_turn : Kind → Bool
is_turn (Turn body more) = true
is_turn Expanded = false
is_turn Copied = false

-- whether a file, expansion or turn that passes the test is open
abbrev pub stands_in : (Kind → Bool) → Config → Bool
stands_in test c = test c.frame.kind || list_any (λ f. test f.kind) c.outer

-- ---- names

-- the macro of this name, if it is defined
abbrev pub macro_named : Dictionary → List ℕ → Option Macro
macro_named names name = lookup (bytes_eq name) names.macros

-- the arguments of the innermost expansion; none outside expansions
abbrev pub arguments_of : List Expansion → SubstitutionTexts
arguments_of [] = []
arguments_of (e ∷ es) = e.arguments

-- what a name stands for: a parameter of the innermost expansion, or else a name of `.asg` or `.eval`
abbrev pub seen : Dictionary → List ℕ → Option (List ℕ)
seen names = visible (arguments_of names.expansions) names.texts

-- the number of the innermost expansion; 0 outside expansions
abbrev pub number_of : List Expansion → ℕ
number_of [] = 0
number_of (e ∷ es) = e.number

-- the names once a name stands for this text: a parameter of the innermost expansion gets it there, any other
-- name among those of `.asg` and `.eval`
abbrev pub assigned_by : List Expansion → List ℕ → List ℕ → Dictionary → Dictionary
assigned_by [] name text names = record names { texts = with_name names.texts name text }
assigned_by (e ∷ es) name text names =
    if is_some (lookup (bytes_eq name) e.arguments)
    then record names { expansions = record e { arguments = with_name e.arguments name text } ∷ es }
    else record names { texts = with_name names.texts name text }

-- `assigned_by` on all names
abbrev pub assigned : List ℕ → List ℕ → Dictionary → Dictionary
assigned name text names = assigned_by names.expansions name text names

-- the names after one more call, with these arguments; calls are numbered from 1
abbrev pub called : SubstitutionTexts → Dictionary → Dictionary
called arguments names =
    record names { expansions = record { number = names.count + 1; arguments = arguments } ∷ names.expansions; count = names.count + 1 }
