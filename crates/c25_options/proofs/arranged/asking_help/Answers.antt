use Rattle.std.proofs.Common.{map, string_bytes}
use Rattle.std.proofs.lemmas.Result.{IfOk-weaker}
use Rattle.c25_options.proofs.Ordered.{copied_help}
use Rattle.c25_options.proofs.arranged.asking_help.Goals as goal

pub returns : goal.returns
returns c =
    IfOk-weaker c.joined.result _ _
    (λ words e. copied_help c.args.name.now c.args.topic.now c.split_at.result.0.now c.in_ok-help.help.items c.split_at.result.1.now c.deref.result.now c.topics.result (map string_bytes words.items)
    c.topics.ensures c.split_at.ensures.front c.split_at.ensures.back c.deref.ensures.value c.in_ok-help.ensures e)
    c.joined.ensures
