-- How a walk through the lines of a source looks for the line with which a name gets its value.
use Rattle.std.specs.Prelude.{◌≡◌, ℕ, true, false, List, Option, Some, None, Ok, Err}
use Rattle.c25_asm.specs.Trails.{Reaches}
use Rattle.c25_macro.specs.Expander.{shown}
use Rattle.c25_macro.specs.Tracers.{Moved, Trace}
use Rattle.c25_meaning_assembly.specs.ModuleOfSource.{read_and_pass}
use Rattle.c25_meaning_assembly.specs.Sections.{Progress, stands}
use Rattle.c25_meaning_expansion.specs.ExpansionAnswers.{ExpandedLine}
use Rattle.c25_meaning_language.specs.ExpansionFault.{ExpansionFault}
use Rattle.c25_phases.specs.View.{progress_of}
use Rattle.c25_earlier.specs.FirstLines.{IsFirstLine}
use Rattle.c25_earlier.specs.declared.walk.Turn.{Turn}
use Rattle.c25_earlier.specs.declared.walk.Turn.TheVariants as turn

-- what one line more leads to
abbrev pub Passes : ExpandedLine → Progress → (name : List ℕ) → Turn → Type 0
Passes line p name (turn.On q) = (read_and_pass line p ≡ Ok (progress_of q.value)) × (stands (progress_of q.value).names name ≡ false)
Passes line p name (turn.Came given) = (shown given ≡ line) × (q : Progress) × (read_and_pass line p ≡ Ok q) × (stands q.names name ≡ true)
Passes line p name turn.Ended = (fault : ExpansionFault) × (read_and_pass line p ≡ Err fault)

-- how a walk ends that begins after some lines
abbrev pub EndsWalk : Trace → Progress → (name : List ℕ) → Option ExpandedLine → Type 0
EndsWalk old made name line = (source : List ℕ) → Reaches old.files source old.at made old.trail → IsFirstLine old.files source name line

-- a walk goes on from one trace to another, and `next` is what the lines have made by then
pub record LeadsOn (old : Trace) (made : Progress) (name : List ℕ) (new : Trace) (next : Progress) : Type 0 where
  pub moved : Moved old new
  pub before : stands next.names name ≡ false
  pub leads : (source : List ℕ) → Reaches old.files source old.at made old.trail → Reaches old.files source new.at next new.trail

-- what one rewriting more leads to
abbrev pub Advances : Trace → Progress → (name : List ℕ) → Trace → Turn → Type 0
Advances old made name new (turn.On q) = LeadsOn old made name new (progress_of q.value)
Advances old made name new (turn.Came line) = EndsWalk old made name (Some (shown line))
Advances old made name new turn.Ended = EndsWalk old made name None
