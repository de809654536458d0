use Rattle.std.proofs.Common.{rules, tests}
use Rattle.std.proofs.lemmas.Iterator.{YieldsList-from_slice}
use Rattle.std.proofs.lemmas.Iterator.Search.{any_from_yields_List}
use Rattle.std.specs.Str.{str_eq_ignore_ascii_case}
use Rattle.c25_line_warnings.specs.Labels.{is_directive}
use Rattle.c25_line_warnings.proofs.labels.is_directive.Goals as goal

pub returns : goal.returns
unfolding is_directive
returns c = any_from_yields_List (λ s. str_eq_ignore_ascii_case c.args.label.now s.now) _ _ _ c.any.ensures.ran (YieldsList-from_slice _ c.iter.ensures.rest) (λ x b q k. search (rules, tests))
