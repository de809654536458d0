-- Remarks on a name that a line defines, and that has a value already (26).
use Rattle.std.specs.Prelude.{ℕ, if◌then◌else◌, List, Option, Some, None, is_some, Result, Ok, Err}
use Rattle.std.specs.Option.{option_and_then, option_or}
use Rattle.c25_meaning_language.specs.Line.{line_of}
use Rattle.c25_meaning_language.specs.Line as line
use Rattle.c25_meaning_language.specs.Value.{Table, predefined}
use Rattle.c25_meaning_language.specs.declared.line.LineFault.{LineFault}
use Rattle.c25_meaning_language.specs.declared.statement.FaultKind.TheVariants as fault
use Rattle.c25_places.specs.Values.{refused_value}
use Rattle.c25_hints.specs.Remark.{Remark, about}
use Rattle.c25_hints.specs.Values.{name_in}
use Rattle.c25_hints.specs.declared.cause.Cause.TheVariants as cause

-- the remark on a name that is predefined
abbrev pub of_predefined : List ℕ → Option Remark
of_predefined name = if is_some (predefined name) then Some (about cause.Predefined name) else None

-- the name among the operands of a line that it defines
abbrev pub defined_name : List ℕ → Table → Option (List ℕ)
defined_name text table = option_and_then (λ r. name_in r.part.start (line_of text)) (refused_value text fault.Defined table)

-- the label of a line, if it has one
abbrev pub label_of : Result line.Parts LineFault → Option (List ℕ)
label_of (Err f) = None
label_of (Ok parts) = parts.label

-- the remark on a line that defines a name which has a value already: its label, or the name among its operands,
-- may be predefined
abbrev pub of_defined : List ℕ → Table → Option Remark
of_defined text table =
    option_or (option_and_then of_predefined (label_of (line_of text))) (option_and_then of_predefined (defined_name text table))
