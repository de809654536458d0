-- What a rewriting answers where a line that is refused is left out.
use Rattle.std.specs.Prelude.{◌≡◌, Bool, true, false, if◌then◌else◌, Option, Some, None, Result, Ok, Err}
use Rattle.c25_meaning_expansion.specs.Expansion.{Config, Reading, Rewriting, Gives, Goes, Finishes}
use Rattle.c25_meaning_expansion.specs.ExpansionBounds.{IsBounded}
use Rattle.c25_meaning_expansion.specs.Rows.{Row}
use Rattle.c25_meaning_expansion.specs.LeftOut.{ends_reading, left_out, without}
use Rattle.c25_meaning_expansion.specs.declared.expansion.Directive.{Directive}
use Rattle.c25_meaning_common.specs.declared.failure.Failure.{Failure}
use Rattle.c25_meaning_common.specs.declared.failure.Failure.TheVariants.{NoMemory, Fault}
use Rattle.c25_macro.specs.Config.{refused_by}
use Rattle.c25_macro.specs.declared.expander_fault.ExpanderFault.{ExpanderFault}
use Rattle.c25_macro.specs.declared.expander_fault.ExpanderFault.TheVariants.{Faulty, Missing}
use Rattle.c25_macro.specs.declared.leaving_out.Refusal.{Refusal}
use Rattle.c25_macro.specs.declared.state.LineResult.{LineResult}
use Rattle.c25_macro.specs.declared.state.LineResult.TheVariants as progress

-- expansion goes on at this configuration, or it does not go on
abbrev pub IsLeftOut : Option Config → Config → (goes_on : Bool) → Type 0
IsLeftOut after new true = after ≡ Some new
IsLeftOut after new false = after ≡ None

-- whether nothing is read after this fault
abbrev pub ends_with : ExpanderFault → Bool
ends_with (Faulty place kind) = ends_reading kind
ends_with (Missing place name) = false

-- what is gone on with after a line with this directive, or none, is refused for this fault
abbrev pub after_fault : ExpanderFault → Option Directive → Config → Option Config
after_fault fault directive c = if ends_with fault then None else without directive (record c { mode = Reading })

-- the answer of a part of a rewriting, after which a line with this directive, or none, is left out if it is refused
abbrev pub OrLeavesOut : Option Directive → Result LineResult (Failure ExpanderFault) → Config → Result LineResult (Failure Refusal) → Config → Type 0
OrLeavesOut directive (Ok x) old (Ok y) new = (y ≡ x) × (new ≡ old)
OrLeavesOut directive (Ok x) old (Err e) new = ⊥
OrLeavesOut directive (Err e) old (Ok y) new = ⊥
OrLeavesOut directive (Err e) old (Err (NoMemory n)) new = Unit {0}
OrLeavesOut directive (Err (NoMemory n)) old (Err (Fault x)) new = ⊥
OrLeavesOut directive (Err (Fault f)) old (Err (Fault x)) new = (x.fault ≡ f) × IsLeftOut (after_fault f directive old) new x.goes_on

-- the answer of a rewriting after whose fault nothing is read
abbrev pub IsLast : Result LineResult (Failure ExpanderFault) → Result LineResult (Failure Refusal) → Type 0
IsLast (Ok x) (Ok y) = y ≡ x
IsLast (Ok x) (Err e) = ⊥
IsLast (Err e) (Ok y) = ⊥
IsLast (Err e) (Err (NoMemory n)) = Unit {0}
IsLast (Err (NoMemory n)) (Err (Fault x)) = ⊥
IsLast (Err (Fault f)) (Err (Fault x)) = (x.fault ≡ f) × (x.goes_on ≡ false)

-- the answer of one rewriting of a configuration is this one, and leads to the new configuration; a line that is
-- refused is left out
abbrev pub LeavesOut : Rewriting → Config → Result LineResult (Failure Refusal) → Config → Type 0
LeavesOut r old (Ok (progress.Given row)) new = r ≡ Gives row new
LeavesOut r old (Ok progress.Consumed) new = r ≡ Goes new
LeavesOut r old (Ok progress.Finished) new = r ≡ Finishes new
LeavesOut r old (Err (NoMemory n)) new = Unit {0}
LeavesOut r old (Err (Fault x)) new = (r ≡ refused_by x.fault) × IsLeftOut (left_out r old) new x.goes_on

-- the answer of a call for the next line is this rewriting, the first that does not merely go on, of this
-- configuration, and leads to the new one; a line that is refused is left out
abbrev pub FirstLeavingOut : Rewriting → (at : Config) → Result (Option Row) (Failure Refusal) → Config → Type 0
FirstLeavingOut r at (Ok (Some row)) new = r ≡ Gives row new
FirstLeavingOut r at (Ok None) new = r ≡ Finishes new
FirstLeavingOut r at (Err (NoMemory n)) new = Unit {0}
FirstLeavingOut r at (Err (Fault x)) new = (r ≡ refused_by x.fault) × IsLeftOut (left_out r at) new x.goes_on

-- an answer after which expansion goes on leads to a configuration within its bounds
abbrev pub StaysBounded : Result (Option Row) (Failure Refusal) → Config → Type 0
StaysBounded (Ok o) new = IsBounded new
StaysBounded (Err (NoMemory n)) new = Unit {0}
StaysBounded (Err (Fault x)) new = x.goes_on ≡ true → IsBounded new
