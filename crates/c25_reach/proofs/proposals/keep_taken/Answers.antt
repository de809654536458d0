use Rattle.std.proofs.Common.{List, String, Global, string_bytes, subst, sym}
use Rattle.std.specs.List.{All}
use Rattle.std.proofs.lemmas.List.Elements.{All-push}
use Rattle.c25_reach.specs.Proposals.{IsTaken}
use Rattle.c25_reach.proofs.proposals.keep_taken.Goals as goal

abbrev Taken : String Global → Type 0
Taken line = IsTaken (string_bytes line)

pub returns-in_ok-push : goal.returns-in_ok-push
returns-in_ok-push c =
    subst (λ (lines : List (String Global)). All Taken lines) (sym c.in_ok-push.ensures.items)
    (All-push Taken c.args.lines.now.items c.in_ok-from_str.field-0 c.requires (subst IsTaken (sym c.in_ok-from_str.ensures.ok) (c.in_ok-is_taken.ensures c.if-branch.true)))
