-- Whether a source is assembled, and the trail of its fault.
use Rattle.std.specs.Option.{option_map}
use Rattle.std.specs.Prelude.{◌≡◌, ℕ, List, Some, None}
use Rattle.c25_macro.specs.Tracers.{fault_in}
use Rattle.c25_meaning_assembly.specs.Sections.{Progress}
use Rattle.c25_meaning_expansion.specs.ExpansionRuns.{start_of}
use Rattle.c25_meaning_expansion.specs.Files.{Files}
use Rattle.c25_meaning_language.specs.Value.{Table}
use Rattle.c25_phases.specs.Wrong.{Wrong, first_wrong, table_of}
use Rattle.c25_asm.specs.Seen.{seen_of}
use Rattle.c25_asm.specs.Trails.{PassesAll, IsTrail, IsWhole}
use Rattle.c25_asm.specs.declared.tracing.Traced.{Traced}
use Rattle.c25_asm.specs.declared.tracing.Traced.TheVariants.{Absent, Whole}
use Rattle.c25_asm.specs.declared.tracing.Traced.TheVariants as traced
use Rattle.c25_asm.specs.declared.tracing.Refused.{Refused}

-- the source of a name is refused with this fault and this trail, at this line
abbrev pub IsRefused : Files → (name : List ℕ) → Refused → Type 0
IsRefused files name r = IsTrail files name (fault_in r.fault) r.trail.items (option_map seen_of r.seen)

-- whether the source of a name is there, is assembled, or is refused
abbrev pub IsTraced : Files → (name : List ℕ) → Traced → Type 0
IsTraced files name Absent = start_of files name ≡ None
IsTraced files name Whole = IsWhole files name
IsTraced files name (traced.Refused r) = IsRefused files name r

-- all lines of the source of a name pass, this item is the first that is wrong, and names stand for this there
pub record HasWrongItem (files : Files) (name : List ℕ) (wrong : Wrong) (table : Table) : Type 0 where
  pub made : Progress
  pub passes : PassesAll files name made
  pub refused : first_wrong made ≡ Some wrong
  pub names : table ≡ table_of made wrong
