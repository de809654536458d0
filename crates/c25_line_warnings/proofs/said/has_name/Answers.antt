use Rattle.std.proofs.Common.{rules, tests, sym, ◌∙◌}
use Rattle.std.proofs.lemmas.Iterator.{YieldsList-from_slice}
use Rattle.std.proofs.lemmas.Iterator.Search.{any_from_yields_List}
use Rattle.c25_meaning_language.specs.DirectiveOperands.{is_name}
use Rattle.c25_text.specs.View.{piece_of}
use Rattle.c25_line_warnings.proofs.Lists.{any_mapped}
use Rattle.c25_line_warnings.proofs.said.has_name.Goals as goal

pub returns : goal.returns
returns c =
    any_from_yields_List (λ t. is_name t.kind) _ _ _ c.any.ensures.ran (YieldsList-from_slice _ c.iter.ensures.rest) (λ x b q k. search (rules, tests))
    ∙ sym (any_mapped (λ p. is_name p.kind) piece_of c.args.tokens.now)
