use Rattle.std.proofs.Common.{refl}
use Rattle.c25_meaning_expansion.specs.Expansion.{Acting, Config}
use Rattle.c25_meaning_expansion.specs.ExpansionRules.{acts}
use Rattle.c25_macro.specs.Acts.{act_of}
use Rattle.c25_macro.specs.Config.{config}
use Rattle.c25_macro.proofs.LeavingOut.{acted_leaves}
use Rattle.c25_macro.proofs.state.ExpanderState.act_or_leave_out.Goals as goal

pub returns : goal.returns
returns c =
    let here = config c.args.self.now in
    let mid = config c.act.new.self in
    let r = acts c.args.files.now c.args.symbols.now c.args.place (act_of c.args.act) here in
    acted_leaves r here mid (config c.or_leave_out.new.self) c.args.place (act_of c.args.act) c.directive-directive.result c.consumed-answer.result c.or_leave_out.result
    (c.consumed-answer.ensures.answer r mid c.act.ensures.answer) (c.consumed-answer.ensures.kept here mid c.act.ensures.kept) c.or_leave_out.ensures c.directive-directive.ensures
