-- A line whose order can't be read is refused.
use Rattle.std.proofs.Common.{ℕ, Result, Err, ap, refl}
use Rattle.c25_meaning_expansion.specs.Files.{Files}
use Rattle.c25_meaning_language.specs.Value.{Table}
use Rattle.c25_meaning_expansion.specs.Acts as acts
use Rattle.c25_meaning_expansion.specs.Expansion.{Config}
use Rattle.c25_meaning_expansion.specs.ExpansionRules.{consumed}
use Rattle.c25_meaning_common.specs.declared.placed.FileLine.{FileLine}
use Rattle.c25_meaning_language.specs.declared.statement.FaultKind.{FaultKind}
use Rattle.c25_meaning_common.specs.Results.{Meets}
use Rattle.c25_meaning_common.specs.declared.failure.Failure.{Failure}
use Rattle.c25_meaning_common.specs.declared.failure.Failure.TheVariants.{NoMemory, Fault}
use Rattle.c25_macro.specs.Acts.{order_of}
use Rattle.c25_macro.specs.Config.{Keeps, Refuses}
use Rattle.c25_macro.specs.Refusals.{at_place}
use Rattle.c25_macro.specs.declared.expander_fault.ExpanderFault.{ExpanderFault}
use Rattle.c25_macro.specs.declared.state.LineResult.{LineResult}

pub refused : (files : Files) (s : Table) (place : FileLine ℕ) (told : Result acts.Order FaultKind) (failure : Failure FaultKind) (c : Config) → Meets order_of told (Err failure) → Refuses (consumed files s place told c) (at_place place failure)
refused files s place told (NoMemory n) c h = tt
refused files s place told (Fault kind) c h = ap (λ t. consumed files s place t c) h

-- and nothing is changed by it
pub keeps : (place : FileLine ℕ) (failure : Failure FaultKind) (c : Config) → Keeps {A = LineResult} (Err (at_place place failure)) c c
keeps place (NoMemory n) c = tt
keeps place (Fault kind) c = refl
