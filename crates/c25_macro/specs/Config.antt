-- The configuration that the state of an expander stands for, and when the answers of its methods are a
-- rewriting of the definition.
use Rattle.std.specs.Prelude.{◌≡◌, ◌==◌, ◌-◌, List, [], ◌∷◌, ◌++◌, true, false, Option, Some, None, Result, Ok, Err, map}
use Rattle.std.specs.String.{string_bytes}
use Rattle.c25_meaning_expansion.specs.Rows.{Row}
use Rattle.c25_meaning_expansion.specs.Expansion as exp
use Rattle.c25_meaning_expansion.specs.Expansion.{Read, Config, Rewriting, Gives, Goes, Finishes, Faults, Misses}
use Rattle.c25_meaning_language.specs.declared.statement.FaultKind.TheVariants as fault
use Rattle.c25_meaning_common.specs.declared.failure.Failure.{Failure}
use Rattle.c25_meaning_common.specs.declared.failure.Failure.TheVariants.{NoMemory, Fault}
use Rattle.c25_macro.specs.Acts.{act_of, bytes_of_names}
use Rattle.c25_macro.specs.Dictionary.{dictionary_of}
use Rattle.c25_macro.specs.SourceFrames.{scope_of, after, frames}
use Rattle.c25_macro.specs.declared.state.Mode.{Mode}
use Rattle.c25_macro.specs.declared.state.Mode.TheVariants as mode
use Rattle.c25_macro.specs.declared.state.ExpanderState.{ExpanderState}
use Rattle.c25_macro.specs.declared.state.LineResult.{LineResult}
use Rattle.c25_macro.specs.declared.state.LineResult.TheVariants as progress
use Rattle.c25_macro.specs.declared.expander_fault.ExpanderFault.{ExpanderFault}
use Rattle.c25_macro.specs.declared.expander_fault.ExpanderFault.TheVariants.{Faulty, Missing}

-- the mode that an expander's mode stands for; `body` is the lines that were read since the mark
abbrev pub mode_of : Mode → List Row → exp.Mode
mode_of mode.Reading body = exp.Reading
mode_of (mode.Acting place act) body = exp.Acting place (act_of act)
mode_of (mode.InMacro name parameters nested) body = exp.InMacro (string_bytes name) (bytes_of_names parameters.items) body nested
mode_of (mode.InLoop turns nested) body = exp.InLoop turns body nested

-- something holds of the lines that were read since the mark, without the last one, which is this row
abbrev pub ForBody : List Row → Row → (List Row → Type 0) → Type 0
ForBody passed row holds = (body : List Row) → passed ≡ body ++ row ∷ [] → holds body

-- the configuration that a state stands for
abbrev pub config : ExpanderState → Config
config s = record {
  lines = map Read s.top.lines.rest ++ after s.below;
  frame = scope_of s.top.frame;
  outer = frames s.below;
  mode = mode_of s.mode s.top.lines.passed;
  names = dictionary_of s.names;
  left = s.left;
}

-- the rewriting that a refusal stands for
abbrev pub refused_by : ExpanderFault → Rewriting
refused_by (Faulty place kind) = Faults place kind
refused_by (Missing place name) = Misses place (string_bytes name)

-- a failure is this rewriting, or memory ran out
abbrev pub Refuses : Rewriting → Failure ExpanderFault → Type 0
Refuses r (NoMemory n) = Unit {0}
Refuses r (Fault refusal) = r ≡ refused_by refusal

-- the answer is the next line, which is read and counted, or that no line is left, or the refusal of one line
-- too many
abbrev pub IsNextRow : ExpanderState → Result (Option Row) (Failure ExpanderFault) → ExpanderState → Type 0
IsNextRow old (Ok (Some row)) new =
    (old.top.lines.rest ≡ row ∷ new.top.lines.rest) × (new.top.lines.passed ≡ old.top.lines.passed ++ row ∷ []) × ((old.left == 0) ≡ false) × (new.left ≡ old.left - 1)
IsNextRow old (Ok None) new = (old.top.lines.rest ≡ []) × (new.top.lines.rest ≡ []) × (new.left ≡ old.left)
IsNextRow old (Err failure) new = (row : Row) × (rest : List Row) × (old.top.lines.rest ≡ row ∷ rest) × ((old.left == 0) ≡ true) × (failure ≡ Fault (Faulty row.place fault.Lines))

-- the answer of one rewriting is this one, and leads to this configuration
abbrev pub Follows : Rewriting → Result LineResult (Failure ExpanderFault) → Config → Type 0
Follows r (Ok (progress.Given row)) new = r ≡ Gives row new
Follows r (Ok progress.Consumed) new = r ≡ Goes new
Follows r (Ok progress.Finished) new = r ≡ Finishes new
Follows r (Err failure) new = Refuses r failure

-- the answer of a part of a rewriting that gives no line is this rewriting, and leads to this configuration
abbrev pub GoesOn : {A : Type 0} → Rewriting → Result A (Failure ExpanderFault) → Config → Type 0
GoesOn r (Ok x) new = r ≡ Goes new
GoesOn r (Err failure) new = Refuses r failure

-- a part of a rewriting that refuses a line leaves the configuration as it was
abbrev pub Keeps : {A : Type 0} → Result A (Failure ExpanderFault) → Config → Config → Type 0
Keeps (Ok x) old new = Unit {0}
Keeps (Err (NoMemory n)) old new = Unit {0}
Keeps (Err (Fault refusal)) old new = new ≡ old

-- the answer of a call for the next line is this rewriting, the first that does not merely go on, and leads
-- to this configuration
abbrev pub Answers : Rewriting → Result (Option Row) (Failure ExpanderFault) → Config → Type 0
Answers r (Ok (Some row)) new = r ≡ Gives row new
Answers r (Ok None) new = r ≡ Finishes new
Answers r (Err failure) new = Refuses r failure
