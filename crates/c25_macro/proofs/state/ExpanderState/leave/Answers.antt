use Rattle.std.proofs.Common.{◌≡◌, None, rules}
use Rattle.c25_meaning_expansion.specs.Expansion.{left_through}
use Rattle.c25_macro.specs.Config.{config}
use Rattle.c25_macro.specs.SourceFrames.{test_of}
use Rattle.c25_macro.proofs.Leaving.{none_leaves, some_leaves}
use Rattle.c25_macro.proofs.state.ExpanderState.leave.Goals as goal

pub returns-then-not-can_leave-clause-left : goal.returns-then-not-can_leave-clause-left
returns-then-not-can_leave-clause-left c =
    let old = config c.args.self.now in
    none_leaves (test_of c.args.block) old.lines old.frame old.outer old.names old c.can_leave.result c.can_leave.ensures c.if-not-can_leave.true

pub returns-clause-kept : goal.returns-clause-kept
returns-clause-kept c = λ same.
    let old = config c.args.self.now in
    let none : left_through (test_of c.args.block) old.lines old.frame old.outer old.names old ≡ None = search rules in
    absurd (some_leaves (test_of c.args.block) old.lines old.frame old.outer old.names old c.can_leave.result c.can_leave.ensures c.if-not-can_leave.false none)
