use Rattle.std.proofs.Common.{◌≡◌, drop}
use Rattle.c25_options.specs.Task.{texts_of}
use Rattle.c25_tasks.specs.Program.{first_refused}
use Rattle.c25_tasks.proofs.definitions.first_refused.Given as goal

abbrev pub invariant-loop-text : goal.invariant-loop-text
invariant-loop-text l = first_refused (texts_of (drop l.text-index l.definitions)) ≡ first_refused (texts_of l.definitions)
