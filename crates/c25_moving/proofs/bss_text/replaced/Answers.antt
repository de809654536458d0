use Rattle.std.proofs.Common.{codes, string_bytes}
use Rattle.c25_moving.proofs.BssTexts.{passed, whole}
use Rattle.c25_moving.proofs.bss_text.replaced.Goals as goal

pub returns-then-starts_with : goal.returns-then-starts_with
returns-then-starts_with c =
    let known = passed c.args.text.now (string_bytes c.loop.front) (string_bytes c.push_str.new.self) (string_bytes c.push_str-in-loop.new.self) c.loop.rest.now c.in-Some.before.now (codes ".bss") c.in-Some.after.now
    c.loop.invariant.1 c.in-Some.ensures c.in_ok-push_str.ensures.bytes c.in_ok-push_str-2.ensures.bytes in
    whole c.args.text.now (string_bytes c.push_str-in-loop.new.self) c.as_str.result.now c.in-Some.after.now c.args.word.now c.with_word.result known c.as_str.ensures.value c.with_word.ensures
