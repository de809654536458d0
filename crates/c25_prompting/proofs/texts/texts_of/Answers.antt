use Rattle.std.proofs.Common.{◌≡◌, ◌<◌, ◌∙◌, length, List, ap, rules}
use Rattle.c25_prompt_lines.specs.SourceTexts.{files_of}
use Rattle.c25_prompt_lines.specs.declared.program.SourceText.{SourceText}
use Rattle.c25_prompting.proofs.Copied.{all_copied, one_copied}
use Rattle.c25_prompting.proofs.texts.texts_of.Goals as goal

pub loop-number-preserved : goal.loop-number-preserved
loop-number-preserved c =
    let files = c.args.files.now in
    let texts = c.loop-number.texts in
    let below : c.loop-number.number < length files = search rules in
    ap (λ (xs : List SourceText). files_of xs) c.in_ok-push.ensures.items
    ∙ one_copied files texts.items c.in_ok-text_at.field-0 c.loop-number.number below c.loop-number.invariant c.in_ok-text_at.ensures.name c.in_ok-text_at.ensures.text

pub returns : goal.returns
returns c =
    let files = c.args.files.now in
    let all : c.loop-number.number ≡ length files = search rules in
    all_copied files c.loop-number.texts.items c.loop-number.number all c.loop-number.invariant
