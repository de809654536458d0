use Rattle.std.proofs.Common.{ℕ, List, ◌++◌, ap, ◌∙◌, string_bytes}
use Rattle.std.specs.List.{flat_map}
use Rattle.c25_dis.specs.View.{label_by}
use Rattle.c25_dis.specs.declared.index.IndexEntry.{IndexEntry}
use Rattle.c25_dis.proofs.Labels.{labels_same}
use Rattle.c25_dis.proofs.Passed.{ok_then}
use Rattle.c25_dis.proofs.section.push_labels_at.Goals as goal

pub returns : goal.returns
returns c =
    ok_then c.push_labels.result c.push_labels.ensures (λ is.
    is
    ∙ ap (λ (t : List ℕ). string_bytes c.args.text.now ++ t)
    (ap (λ (found : List IndexEntry). flat_map (label_by c.args.symbols.now c.args.place) found) c.at.ensures ∙ labels_same c.args.symbols.now c.args.index.now c.args.place c.args.section c.requires))
