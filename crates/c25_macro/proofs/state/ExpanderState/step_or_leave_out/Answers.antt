use Rattle.std.proofs.Common.{◌≡◌, ap, rules}
use Rattle.std.specs.String.{string_bytes}
use Rattle.c25_meaning_expansion.specs.Expansion as exp
use Rattle.c25_meaning_expansion.specs.ExpansionRules.{acts}
use Rattle.c25_meaning_expansion.specs.ExpansionRuns.{front}
use Rattle.c25_macro.specs.Acts.{act_of, bytes_of_names}
use Rattle.c25_macro.specs.Config.{Follows, config, mode_of}
use Rattle.c25_macro.specs.LeavingOut.{LeavesOut}
use Rattle.c25_macro.specs.declared.state.Mode.{Mode}
use Rattle.c25_macro.specs.declared.state.Mode.TheVariants as modes
use Rattle.c25_macro.proofs.LeavingOut.{step_acts, step_loop, step_macro}
use Rattle.c25_macro.proofs.state.ExpanderState.step_or_leave_out.Goals as goal

pub returns-in-Acting : goal.returns-in-Acting
returns-in-Acting c =
    let files = c.args.files.now in
    let s = c.args.symbols.now in
    let old = config c.args.self.now in
    let act = act_of c.in-Acting.act in
    let new = config c.act_or_leave_out.new.self in
    let mode : c.args.self.now.mode ≡ modes.Acting c.in-Acting.place c.in-Acting.act = search rules in
    let told : LeavesOut (acts files s c.in-Acting.place act (record old { mode = exp.Reading })) (record old { mode = exp.Acting c.in-Acting.place act }) c.act_or_leave_out.result new = search rules in
    step_acts files s old new c.in-Acting.place act c.act_or_leave_out.result (ap (λ (m : Mode). mode_of m c.args.self.now.top.lines.passed) mode) told

pub returns-in-InMacro : goal.returns-in-InMacro
returns-in-InMacro c =
    let files = c.args.files.now in
    let s = c.args.symbols.now in
    let old = config c.args.self.now in
    let new = config c.read_into_macro.new.self in
    let name = string_bytes c.in-InMacro.name in
    let parameters = bytes_of_names c.in-InMacro.parameters.items in
    let body = c.args.self.now.top.lines.passed in
    let mode : c.args.self.now.mode ≡ modes.InMacro c.in-InMacro.name c.in-InMacro.parameters c.in-InMacro.nested = search rules in
    let told : Follows (front files s old.lines (record old { mode = exp.InMacro name parameters body c.in-InMacro.nested })) c.read_into_macro.result new = search rules in
    step_macro files s old new name parameters body c.in-InMacro.nested c.read_into_macro.result c.last.result (ap (λ (m : Mode). mode_of m body) mode) told c.last.ensures

pub returns-in-InLoop : goal.returns-in-InLoop
returns-in-InLoop c =
    let files = c.args.files.now in
    let s = c.args.symbols.now in
    let old = config c.args.self.now in
    let new = config c.read_into_loop.new.self in
    let body = c.args.self.now.top.lines.passed in
    let mode : c.args.self.now.mode ≡ modes.InLoop c.in-InLoop.turns c.in-InLoop.nested = search rules in
    let told : Follows (front files s old.lines (record old { mode = exp.InLoop c.in-InLoop.turns body c.in-InLoop.nested })) c.read_into_loop.result new = search rules in
    step_loop files s old new c.in-InLoop.turns body c.in-InLoop.nested c.read_into_loop.result c.last-in-InLoop.result (ap (λ (m : Mode). mode_of m body) mode) told c.last-in-InLoop.ensures
