use Rattle.std.proofs.Common.{Option, drop, map}
use Rattle.c25_earlier.proofs.defined.earlier_line.Given as goal
use Rattle.c25_earlier.specs.Defined.{IsEarlier}
use Rattle.c25_meaning_expansion.specs.ExpansionAnswers.{ExpandedLine}
use Rattle.c25_statements.specs.View.{texts_of}

abbrev pub invariant-loop-source : goal.invariant-loop-source
invariant-loop-source l = (line : Option ExpandedLine) → IsEarlier l.files (texts_of (drop l.source-index l.sources)) line
    → IsEarlier l.files (texts_of l.sources) line
