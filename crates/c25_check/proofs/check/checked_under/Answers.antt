use Rattle.std.proofs.Common.{map, string_bytes}
use Rattle.c25_check.proofs.Found.{found_with}
use Rattle.c25_check.proofs.check.checked_under.Goals as goal

pub returns : goal.returns
returns c = λ read is program.
    found_with c.args.showing c.args.files.now (map string_bytes c.args.program.sources.now) c.args.program.modules.now read c.args.program.linked.now.image (string_bytes c.in_ok-text.text) (string_bytes c.in_ok-pages.pages.warnings) c.in_ok-pages.pages.facts
    c.with_pages.result c.with_pages.ensures.lines c.with_pages.ensures.facts (c.in_ok-text.ensures read is) (c.in_ok-pages.ensures read program)
