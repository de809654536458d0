use Rattle.std.proofs.Common.{◌≡◌, Option, Some, None, Bor, refl, ap, ◌∙◌}
use Rattle.std.specs.Map.{lookup}
use Rattle.std.specs.Option.{option_map, option_copied}
use Rattle.std.specs.Str.{bytes_eq}
use Rattle.c25_macro.specs.Acts.{macro_of}
use Rattle.c25_macro.specs.declared.macros.Macro.{Macro}
use Rattle.c25_files.proofs.Entries.{lookup-views}
use Rattle.c25_macro.proofs.macros.Macros.get.Goals as goal

copied : (o : Option (Bor Macro)) → option_map (λ m. macro_of m.now) o ≡ option_map macro_of (option_copied o)
copied None = refl
copied (Some m) = refl

pub returns : goal.returns
returns c =
    copied c.get.result ∙ ap (option_map macro_of) c.get.ensures.value
    ∙ lookup-views macro_of c.self.inside.entries.entries c.args.name.now ∙ ap (lookup (bytes_eq c.args.name.now)) c.self.view_is
