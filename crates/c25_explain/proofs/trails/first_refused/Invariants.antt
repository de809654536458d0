use Rattle.std.proofs.Common.{ℕ, List, Option, drop}
use Rattle.c25_asm.specs.Seen.{Seen}
use Rattle.c25_meaning_common.specs.declared.placed.FileLine.{FileLine}
use Rattle.c25_meaning_language.specs.ExpansionFault.{Faulty}
use Rattle.c25_options.specs.Task.{texts_of}
use Rattle.c25_explain.specs.Trails.{IsFirstTrail}
use Rattle.c25_explain.proofs.trails.first_refused.Given as goal

abbrev pub invariant-loop-source : goal.invariant-loop-source
invariant-loop-source l = (trail : List (FileLine ℕ)) (seen : Option Seen)
    → IsFirstTrail l.files (texts_of (drop l.source-index l.sources)) (Faulty l.refused.file.now l.refused.line l.refused.kind) trail seen
    → IsFirstTrail l.files (texts_of l.sources) (Faulty l.refused.file.now l.refused.line l.refused.kind) trail seen
