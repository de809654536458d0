use Rattle.std.proofs.Common.{ap, sym, take, ◌∙◌}
use Rattle.std.proofs.lemmas.List.{take-map}
use Rattle.std.specs.String.{string_bytes}
use Rattle.c25_files.specs.Entries.{named_texts}
use Rattle.c25_files.proofs.files.Files.truncate.Goals as goal

pub returns : goal.returns
returns c =
    ap named_texts c.truncate.ensures.entries ∙ sym (take-map (λ e. (string_bytes e.0, e.1)) c.args.count c.self.inside.texts.entries) ∙ ap (take c.args.count) c.self.view_is
