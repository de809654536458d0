use Rattle.std.proofs.Common.{ap, ◌∙◌}
use Rattle.std.specs.String.{string_bytes}
use Rattle.c25_meaning_language.specs.Texts.{with_name}
use Rattle.c25_macro.specs.Acts.{macro_of}
use Rattle.c25_files.proofs.Entries.{views}
use Rattle.c25_macro.proofs.Entries.{views-insert}
use Rattle.c25_macro.proofs.macros.Macros.put.Goals as goal

pub returns : goal.returns
returns c =
    ap (views macro_of) c.in_ok-insert.ensures.entries ∙ views-insert macro_of c.self.inside.entries.entries c.args.name c.args.definition
    ∙ ap (λ es. with_name es (string_bytes c.args.name) (macro_of c.args.definition)) c.self.view_is
