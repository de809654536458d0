use Rattle.std.proofs.Common.{◌≡◌, ◌++◌, drop, string_bytes}
use Rattle.std.specs.List.{flat_map}
use Rattle.c25_warning_pages.specs.Pages.{summary_line}
use Rattle.c25_warning_pages.proofs.summaries.push_summaries.Given as goal

abbrev pub invariant-loop-page : goal.invariant-loop-page
invariant-loop-page l = string_bytes l.text ++ flat_map summary_line (drop l.page-index l.pages) ≡ string_bytes l.initial.text ++ flat_map summary_line l.pages
