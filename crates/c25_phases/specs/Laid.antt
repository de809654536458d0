-- What the second phase makes of its input.
use Rattle.std.specs.Prelude.{List, ℕ, Result, Ok}
use Rattle.c25_meaning_assembly.specs.Emission.{emit_all, module_with}
use Rattle.c25_meaning_assembly.specs.Sections.{Definitions, PendingItem, Section}
use Rattle.c25_meaning_common.specs.Results.{◌>>=◌}
use Rattle.c25_meaning_language.specs.ExpansionFault.{ExpansionFault}
use Rattle.c25_meaning_objects.specs.Module.{Contents}

-- the module of sections and items under all names, or the first fault of the items
abbrev pub module_of : List Section → Definitions → (exported : List (List ℕ)) → List PendingItem → Result Contents ExpansionFault
module_of sections names exported items = emit_all names sections items >>= λ all. Ok (module_with all names exported)
