-- What the first rewriting that does not merely go on says of the next line.
use Rattle.std.proofs.Common.{◌≡◌, ℕ, false, List, [], ◌∷◌, sym, subst}
use Rattle.std.specs.String.{string_bytes}
use Rattle.c25_meaning_expansion.specs.Files.{Files}
use Rattle.c25_meaning_language.specs.Value.{Table}
use Rattle.c25_meaning_expansion.specs.Expansion.{Config, Finishes, Faults, Misses}
use Rattle.c25_meaning_expansion.specs.ExpansionBounds.{IsBounded}
use Rattle.c25_meaning_expansion.specs.ExpansionRuns.{rewrite, Leads, first, front, is_closed}
use Rattle.c25_meaning_common.specs.declared.failure.Failure.{Failure}
use Rattle.c25_meaning_common.specs.declared.failure.Failure.TheVariants.{NoMemory, Fault}
use Rattle.c25_meaning_language.specs.declared.statement.FaultKind.TheVariants.{OpenBlock}
use Rattle.c25_meaning_expansion.proofs.ExpansionFalls.{same_finishing}
use Rattle.c25_meaning_expansion.proofs.ExpansionFirst.{comes_to_first}
use Rattle.c25_macro.specs.Config.{Refuses}
use Rattle.c25_macro.specs.SourceFrames.{after}
use Rattle.c25_macro.specs.declared.frames.Source.{Source}
use Rattle.c25_macro.specs.declared.expander_fault.ExpanderFault.{ExpanderFault}
use Rattle.c25_macro.specs.declared.expander_fault.ExpanderFault.TheVariants.{Faulty, Missing}

-- a refusal, which may be that memory ran out
pub first_refusing : (files : Files) (s : Table) (n : ℕ) (old mid : Config) (failure : Failure ExpanderFault) → Leads files s n old mid → Refuses (rewrite files s mid) failure → Refuses (first files s old) failure
first_refusing files s n old mid (NoMemory e) leads h = tt
first_refusing files s n old mid (Fault (Faulty place kind)) leads h = comes_to_first files s old (Faults place kind) (n, mid, leads, h) tt
first_refusing files s n old mid (Fault (Missing place name)) leads h = comes_to_first files s old (Misses place (string_bytes name)) (n, mid, leads, h) tt

-- where nothing comes any more all is as it was
pub bounded_finishing : (files : Files) (s : Table) (c d : Config) → IsBounded c → rewrite files s c ≡ Finishes d → IsBounded d
bounded_finishing files s c d bounds e = subst IsBounded (sym (same_finishing files s c d e)) bounds

-- a source that ends while a block is open in it
pub ends_open : (files : Files) (s : Table) (sources : List Source) (c : Config) → is_closed c ≡ false → front files s (after sources) c ≡ Faults c.frame.last OpenBlock
ends_open files s [] c h = rw h
ends_open files s (x ∷ xs) c h = rw h
