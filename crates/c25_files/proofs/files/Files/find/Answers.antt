use Rattle.std.proofs.Common.{ap, ◌∙◌}
use Rattle.std.specs.Map.{lookup}
use Rattle.std.specs.Option.{option_map}
use Rattle.std.specs.Str.{bytes_eq}
use Rattle.c25_meaning_expansion.specs.Rows.{file_number}
use Rattle.c25_files.proofs.Entries.{lookup-views, numbered}
use Rattle.c25_files.proofs.files.Files.find.Goals as goal

pub returns-in-Some-clause-text : goal.returns-in-Some-clause-text
returns-in-Some-clause-text c =
    ap (option_map (λ t. t)) c.in-Some.ensures.value
    ∙ lookup-views (λ t. t) c.self.inside.texts.entries c.args.name.now ∙ ap (lookup (bytes_eq c.args.name.now)) c.self.view_is

pub returns-in-Some-clause-number : goal.returns-in-Some-clause-number
returns-in-Some-clause-number c =
    numbered c.self.inside.texts.entries c.args.name.now c.in-Some.number c.in-Some.ensures.index ∙ ap (λ files. file_number files c.args.name.now) c.self.view_is

pub returns-in-None-clause-text : goal.returns-in-None-clause-text
returns-in-None-clause-text c =
    ap (option_map (λ t. t)) c.in-None.ensures.value
    ∙ lookup-views (λ t. t) c.self.inside.texts.entries c.args.name.now ∙ ap (lookup (bytes_eq c.args.name.now)) c.self.view_is
