-- with the warnings that are left, what is shown so far is all of them
use Rattle.std.proofs.Common.{drop, string_bytes}
use Rattle.c25_warning_pages.proofs.Joined.{JoinedWith}
use Rattle.c25_warning_pages.specs.Explained.{IsPageExplained}
use Rattle.c25_page_reports.specs.declared.warning.PageWarning.{PageWarning}
use Rattle.c25_warning_pages.proofs.explained.explain_page_warnings.Given as goal

abbrev pub invariant-loop-warning : goal.invariant-loop-warning
invariant-loop-warning l = JoinedWith (λ (w : PageWarning). w) IsPageExplained l.warnings (drop l.warning-index l.warnings) (string_bytes l.text)
