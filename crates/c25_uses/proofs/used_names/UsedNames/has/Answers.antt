use Rattle.std.proofs.Common.{ap, ◌∙◌}
use Rattle.c25_meaning_assembly.specs.Sections.{is_in}
use Rattle.c25_uses.specs.UsedNames.{bytes_of}
use Rattle.c25_uses.proofs.Keys.{any_bytes}
use Rattle.c25_uses.proofs.used_names.UsedNames.has.Goals as goal

pub returns : goal.returns
returns c =
    let name = c.args.name.now in
    let keys = c.self.inside.once.keys in
    c.contains.ensures ∙ any_bytes keys c.as_bytes.result.now ∙ ap (is_in (bytes_of keys)) c.as_bytes.ensures.value
    ∙ c.self.invariant name ∙ ap (λ ns. is_in ns name) c.self.view_is
