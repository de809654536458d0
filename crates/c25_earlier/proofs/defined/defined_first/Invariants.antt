use Rattle.std.proofs.Common.{Option, drop}
use Rattle.c25_earlier.proofs.defined.defined_first.Given as goal
use Rattle.c25_earlier.specs.Defined.{IsDefinedFirst}
use Rattle.c25_meaning_expansion.specs.ExpansionAnswers.{ExpandedLine}
use Rattle.c25_statements.specs.View.{texts_of}

abbrev pub invariant-loop-name : goal.invariant-loop-name
invariant-loop-name l = (line : Option ExpandedLine) → IsDefinedFirst l.files l.source (texts_of (drop l.name-index l.names)) line
    → IsDefinedFirst l.files l.source (texts_of l.names) line
