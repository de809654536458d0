use Rattle.std.proofs.Common.{arith}
use Rattle.std.proofs.lemmas.Grind.{common_steps}
use Rattle.std.proofs.lemmas.Str.{IsUtf8-had}
use Rattle.std.specs.String.{string_bytes}
use Rattle.c25_files.proofs.files.Files.add_from.Goals as goal

pub returns-in_ok-put-in-Ok-clause-ok : goal.returns-in_ok-put-in-Ok-clause-ok
returns-in_ok-put-in-Ok-clause-ok g c =
    let text = c.in-Ok.text in
    (string_bytes text, c.in-Ok.ensures.ok, IsUtf8-had (string_bytes text) text.ok, c.in_ok-put-in-Ok.ensures.ok)

pub returns-then-is_some-clause-unread : goal.returns-then-is_some-clause-unread
returns-then-is_some-clause-unread c = grind (arith, common_steps)
