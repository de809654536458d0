use Rattle.std.proofs.Common.{◌++◌, List, String, Global, ap, ◌∙◌, string_bytes}
use Rattle.std.specs.List.{flat_map}
use Rattle.std.proofs.lemmas.List.{take_all}
use Rattle.c25_image_source.specs.Told.{comment_of}
use Rattle.c25_image_source.proofs.told.push_comments.Goals as goal

pub returns : goal.returns
returns c =
    c.loop-line.invariant
    ∙ ap (λ (xs : List (String Global)). string_bytes c.args.text.now ++ flat_map comment_of xs) (take_all c.loop-line.line-index c.args.lines.now c.loop-line-test.false)
