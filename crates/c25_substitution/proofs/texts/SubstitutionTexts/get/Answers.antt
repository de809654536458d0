use Rattle.std.proofs.Common.{ap, ◌∙◌, Some}
use Rattle.std.specs.Map.{lookup}
use Rattle.std.specs.Option.{option_map}
use Rattle.std.specs.Str.{bytes_eq}
use Rattle.std.specs.String.{string_bytes}
use Rattle.c25_substitution.proofs.Pairs.{lookup-pairs}
use Rattle.c25_substitution.proofs.texts.SubstitutionTexts.get.Goals as goal

pub returns-in-Some : goal.returns-in-Some
returns-in-Some c =
    ap Some c.as_str.ensures.value ∙ ap (option_map string_bytes) c.in-Some.ensures.value
    ∙ lookup-pairs c.self.inside.entries.entries c.args.name.now ∙ ap (lookup (bytes_eq c.args.name.now)) c.self.view_is

pub returns-in-None : goal.returns-in-None
returns-in-None c =
    ap (option_map string_bytes) c.in-None.ensures.value
    ∙ lookup-pairs c.self.inside.entries.entries c.args.name.now ∙ ap (lookup (bytes_eq c.args.name.now)) c.self.view_is
