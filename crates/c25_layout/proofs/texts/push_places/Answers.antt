use Rattle.std.proofs.Common.{◌++◌, List, ap, ◌∙◌, string_bytes}
use Rattle.std.specs.List.{flat_map}
use Rattle.std.proofs.lemmas.List.{take_all}
use Rattle.c25_layout.specs.SourceText.{place_line}
use Rattle.c25_layout.specs.declared.layout.Part.{Part}
use Rattle.c25_layout.proofs.texts.push_places.Goals as goal

pub returns : goal.returns
returns c =
    c.loop-part.invariant
    ∙ ap (λ (xs : List Part). string_bytes c.args.text.now ++ flat_map place_line xs) (take_all c.loop-part.part-index c.args.parts.now c.loop-part-test.false)
