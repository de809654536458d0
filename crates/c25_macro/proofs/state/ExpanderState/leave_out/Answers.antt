use Rattle.std.proofs.Common.{◌≡◌, Option, Some, rules, subst, sym}
use Rattle.c25_meaning_expansion.specs.Expansion.{Reading}
use Rattle.c25_meaning_expansion.specs.LeftOut.{without}
use Rattle.c25_meaning_expansion.specs.declared.expansion.Directive.{Directive}
use Rattle.c25_meaning_expansion.specs.declared.expansion.Directive.TheVariants as directive
use Rattle.c25_macro.specs.Config.{config}
use Rattle.c25_macro.specs.LeavingOut.{IsLeftOut}
use Rattle.c25_macro.proofs.state.ExpanderState.leave_out.Goals as goal

pub returns-in-Some-Loop : goal.returns-in-Some-Loop
returns-in-Some-Loop c =
    let old = config c.args.self.now in
    let new = config c.pass_over_loop.new.self in
    let told = c.pass_over_loop.ensures in
    let here : IsLeftOut (without (Some directive.Loop) (record old { mode = Reading })) new c.pass_over_loop.result = rw c.look.ensures at told in
    let is : c.args.directive ≡ Some directive.Loop = search rules in
    subst (λ (d : Option Directive). IsLeftOut (without d (record old { mode = Reading })) new c.pass_over_loop.result) (sym is) here
