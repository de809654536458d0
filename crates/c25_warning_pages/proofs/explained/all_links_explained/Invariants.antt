-- with the warnings that are left, what is shown so far is all of them
use Rattle.std.proofs.Common.{drop, string_bytes}
use Rattle.c25_warning_pages.proofs.Joined.{JoinedWith}
use Rattle.c25_warning_pages.specs.Explained.{IsLinkExplained}
use Rattle.c25_warnings.specs.View.{link_warning_of}
use Rattle.c25_warning_pages.proofs.explained.all_links_explained.Given as goal

abbrev pub invariant-loop-warning : goal.invariant-loop-warning
invariant-loop-warning l = JoinedWith link_warning_of IsLinkExplained l.warnings (drop l.warning-index l.warnings) (string_bytes l.text)
