use Rattle.std.proofs.Common.{Some, string_bytes}
use Rattle.std.proofs.lemmas.Str.Pattern.{split_text_parts}
use Rattle.c25_moving.proofs.BssTexts.{in_place}
use Rattle.c25_moving.proofs.bss_text.with_word.Goals as goal

pub returns-in_ok-format-in-Some-split_once : goal.returns-in_ok-format-in-Some-split_once
returns-in_ok-format-in-Some-split_once c =
    let cut = split_text_parts c.in-Some.was.now c.args.text.now (Some (c.in-Some-split_once.before, c.in-Some-split_once.after)) c.in-Some-split_once.ensures.cases in
    in_place c.args.front.now c.args.text.now c.in-Some-split_once.before.now c.in-Some.was.now c.in-Some-split_once.after.now c.args.word.now (string_bytes c.in_ok-format-in-Some-split_once.field-0)
    cut c.in_ok-format-in-Some-split_once.ensures.ok
