use Rattle.std.proofs.Common.{rules, tests, ◌≡◌, ◌∙◌}
use Rattle.std.specs.Prelude.{count_by}
use Rattle.c25_symbols.specs.View.{entry_view}
use Rattle.c25_prompt_lines.specs.Addresses.{is_named}
use Rattle.c25_prompt_lines.proofs.Found.{counted}
use Rattle.c25_prompt_lines.proofs.address.count_named.Goals as goal

pub returns : goal.returns
returns c =
    let by_call : c.count.result ≡ count_by (λ y. is_named c.args.name.now (entry_view y)) c.args.symbols.now = search (rules, tests) in
    by_call ∙ counted (is_named c.args.name.now) c.args.symbols.now
