use Rattle.std.proofs.Common.{◌++◌, ℕ, List, ap, ◌∙◌, string_bytes}
use Rattle.std.specs.List.{flat_map}
use Rattle.std.proofs.lemmas.List.{take_all}
use Rattle.c25_layout.specs.SourceText.{further_text}
use Rattle.c25_layout.proofs.row_text.push_rest.Goals as goal

pub returns : goal.returns
returns c =
    c.loop-word.invariant
    ∙ ap (λ (xs : List ℕ). string_bytes c.args.text.now ++ flat_map further_text xs) (take_all c.loop-word.word-index c.args.words.now c.loop-word-test.false)
