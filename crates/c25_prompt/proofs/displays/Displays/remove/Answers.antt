use Rattle.std.proofs.Common.{◌∙◌, ◌==◌, not, List, ap, rules}
use Rattle.std.proofs.lemmas.Fn.{filter_same}
use Rattle.c25_prompt.specs.Displays.{DisplayData, without_display}
use Rattle.c25_prompt.specs.declared.displays.Display.{Display}
use Rattle.c25_prompt.proofs.displays.Displays.remove.Goals as goal

pub returns : goal.returns
returns c =
    let number = c.args.number in
    let kept = filter_same _ (λ (d : Display). not (d.number == number)) _ (λ x b f' called. search rules) _ _ c.retain.ensures.filtered in
    let all : List Display → DisplayData = λ xs. record { shown = xs; given = c.self.inside.given } in
    ap all kept ∙ ap (λ (d : DisplayData). without_display d number) c.self.view_is
