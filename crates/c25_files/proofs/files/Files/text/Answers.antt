use Rattle.std.proofs.Common.{Some, ap, ◌∙◌}
use Rattle.std.specs.Map.{lookup}
use Rattle.std.specs.Option.{option_map}
use Rattle.std.specs.Str.{bytes_eq}
use Rattle.c25_files.proofs.Entries.{lookup-views}
use Rattle.c25_files.proofs.files.Files.text.Goals as goal

pub returns-in-Some : goal.returns-in-Some
returns-in-Some c =
    ap Some c.as_str.ensures ∙ ap (option_map (λ t. t)) c.in-Some.ensures.value
    ∙ lookup-views (λ t. t) c.self.inside.texts.entries c.args.name.now ∙ ap (lookup (bytes_eq c.args.name.now)) c.self.view_is

pub returns-in-None : goal.returns-in-None
returns-in-None c =
    ap (option_map (λ t. t)) c.in-None.ensures.value
    ∙ lookup-views (λ t. t) c.self.inside.texts.entries c.args.name.now ∙ ap (lookup (bytes_eq c.args.name.now)) c.self.view_is
