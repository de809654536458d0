-- with the warnings that are left, what is shown so far is all of them
use Rattle.std.proofs.Common.{drop, string_bytes}
use Rattle.c25_warning_pages.proofs.Joined.{JoinedWith}
use Rattle.c25_warning_pages.specs.Explained.{IsExplained}
use Rattle.c25_warnings.specs.View.{warning_of}
use Rattle.c25_warning_pages.proofs.explained.all_explained.Given as goal

abbrev pub invariant-loop-warning : goal.invariant-loop-warning
invariant-loop-warning l = JoinedWith warning_of IsExplained l.warnings (drop l.warning-index l.warnings) (string_bytes l.text)
