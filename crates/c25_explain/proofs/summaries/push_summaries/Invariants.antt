use Rattle.std.proofs.Common.{◌≡◌, ◌++◌, drop, string_bytes}
use Rattle.c25_explain.specs.Explanation.{summaries}
use Rattle.c25_explain.proofs.summaries.push_summaries.Given as goal

abbrev pub invariant-loop-explanation : goal.invariant-loop-explanation
invariant-loop-explanation l = string_bytes l.text ++ summaries (drop l.explanation-index l.explanations) ≡ string_bytes l.initial.text ++ summaries l.explanations
