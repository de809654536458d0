use Rattle.std.proofs.Common.{List, map, string_bytes, subst}
use Rattle.std.proofs.lemmas.Result.{IfOk-weaker}
use Rattle.c25_meaning_processor.specs.Signals.{signals_of}
use Rattle.c25_meaning_processor.specs.WordStep.{WordStep}
use Rattle.c25_prompt_lines.specs.SourceTexts.{text_in}
use Rattle.c25_prompt_lines.specs.declared.program.SourceText.{SourceText}
use Rattle.c25_prompting.specs.Debugged.{first_of, inputs_read}
use Rattle.c25_prompting.specs.Prompting.{Talks}
use Rattle.c25_prompting.proofs.Begun.{names_symbols}
use Rattle.c25_prompting.proofs.session.hold_session.Goals as goal
use Rattle.c25_symbols.specs.Symbols.{Listed, all_symbols}
use Rattle.c25_chain.specs.Linked.{places_of}

pub returns : goal.returns
returns g c =
    let d = c.args.debugged.now in
    let inputs = inputs_read c.args.work.texts.samples.now c.args.work.texts.schedule.now in
    let shown = map string_bytes c.args.work.shown.now in
    IfOk-weaker c.answer_lines.result _ _
    (λ done talks.
    subst
    (λ (ts : List SourceText). Talks WordStep (signals_of inputs.entries) (record { symbols = all_symbols d.modules.items shown (places_of d.linked.image.described); image = d.linked.image; texts = text_in ts }) (first_of d.linked inputs) (g.R.Read.remaining c.args.input.now) (g.O.Write.contents c.args.out.now) (g.O.Write.contents c.answer_lines.new.out))
    c.as_slice-3.ensures.value
    (subst
    (λ (ys : List Listed). Talks WordStep (signals_of inputs.entries) (record { symbols = ys; image = d.linked.image; texts = text_in c.as_slice-3.result.now }) (first_of d.linked inputs) (g.R.Read.remaining c.args.input.now) (g.O.Write.contents c.args.out.now) (g.O.Write.contents c.answer_lines.new.out))
    (names_symbols c.as_slice-2.result.now c.in-Ok.symbols.items c.as_slice.result.now d.modules.items shown c.as_slice-sections.result.now c.map.result.now d.linked.image.described
    c.as_slice-2.ensures.value c.as_slice.ensures.value c.as_slice-sections.ensures.value c.map.ensures c.in-Ok.ensures)
    talks))
    c.answer_lines.ensures
