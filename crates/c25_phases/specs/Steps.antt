-- Parts of the rules of lines that have functions of their own.
use Rattle.std.specs.Prelude.{ℕ, List, [], ◌∷◌, ◌++◌, Option, Result, Ok}
use Rattle.c25_meaning_assembly.specs.AssemblyLine.{AssemblyAct, read_statement}
use Rattle.c25_meaning_common.specs.Results.{◌>>=◌}
use Rattle.c25_meaning_assembly.specs.Sections.{PendingItem, Progress, act, allowed, changed, few, label, pass, use_line, with_mark}
use Rattle.c25_meaning_objects.specs.declared.object.ModuleMark.{ModuleMark}
use Rattle.c25_meaning_language.specs.declared.statement.FaultKind.{FaultKind}
use Rattle.c25_meaning_common.specs.declared.placed.FileLine.{FileLine}

-- a line's text read and passed
abbrev pub text_passed : FileLine (List ℕ) → List ℕ → Progress → Result Progress FaultKind
text_passed origin text p = read_statement text >>= λ s. pass origin s p

-- one mark more, with its line
abbrev pub marked : FileLine (List ℕ) → ModuleMark → Progress → Result Progress FaultKind
marked origin m p = use_line origin p >>= λ q. Ok (record q { sections = changed (with_mark origin m) q.sections m.section })

-- what comes before a line's act
abbrev pub begun : Option (List ℕ) → AssemblyAct → Progress → Result Progress FaultKind
begun name a p = allowed a p >>= λ _. label name p

-- a line's act, after which there are not too many names
abbrev pub carried_out : FileLine (List ℕ) → AssemblyAct → Progress → Result Progress FaultKind
carried_out origin a p = act origin a p >>= λ q. few q >>= λ _. Ok q

-- one item more is left for the second phase
abbrev pub waited : PendingItem → Progress → Result Progress FaultKind
waited item p = Ok (record p { items = p.items ++ item ∷ [] })
