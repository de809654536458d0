use Rattle.std.proofs.Common.{ap, ◌∙◌}
use Rattle.std.specs.String.{string_bytes}
use Rattle.c25_meaning_language.specs.Texts.{with_name}
use Rattle.c25_substitution.specs.Pairs.{pairs}
use Rattle.c25_substitution.proofs.Pairs.{pairs-insert}
use Rattle.c25_substitution.proofs.texts.SubstitutionTexts.put.Goals as goal

pub returns-clause-ok : goal.returns-clause-ok
returns-clause-ok c =
    ap pairs c.in_ok-insert.ensures.entries ∙ pairs-insert c.self.inside.entries.entries c.in_ok-name.name c.args.text
    ∙ ap (λ es. with_name es (string_bytes c.in_ok-name.name) (string_bytes c.args.text)) c.self.view_is
    ∙ ap (λ n. with_name c.args.self.now n (string_bytes c.args.text)) c.in_ok-name.ensures.ok
