use Rattle.std.proofs.Common.{[], ◌∷◌, ◌++◌, ap, ◌∙◌}
use Rattle.std.specs.Map.{lookup}
use Rattle.std.specs.Str.{bytes_eq}
use Rattle.std.specs.String.{string_bytes}
use Rattle.c25_files.proofs.Entries.{views, views-new, none_there}
use Rattle.c25_files.proofs.files.Files.put.Goals as goal

pub returns-clause-ok : goal.returns-clause-ok
returns-clause-ok c =
    let name = c.in_ok-name.name in
    let text = c.new.result in
    let entries = c.self.inside.texts.entries in
    let is_new = ap (λ n. lookup (bytes_eq n) (views (λ t. t) entries)) c.in_ok-name.ensures.ok ∙ ap (lookup (bytes_eq c.args.name.now)) c.self.view_is ∙ none_there _ c.requires in
    ap (views (λ t. t)) c.in_ok-insert.ensures.entries ∙ views-new (λ t. t) entries name text is_new
    ∙ ap (λ es. es ++ (string_bytes name, text) ∷ []) c.self.view_is
    ∙ ap (λ n. c.args.self.now ++ (n, text) ∷ []) c.in_ok-name.ensures.ok
    ∙ ap (λ t. c.args.self.now ++ (c.args.name.now, t) ∷ []) c.new.ensures
