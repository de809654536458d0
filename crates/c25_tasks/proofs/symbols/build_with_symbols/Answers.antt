use Rattle.std.proofs.Common.{◌≡◌, ap, ◌∙◌, List, map, string_bytes}
use Rattle.c25_chain.specs.Linked.{places_of}
use Rattle.c25_meaning_objects.specs.Module.{Contents}
use Rattle.c25_meaning_linking.specs.GoodMap.{ranges_for}
use Rattle.c25_symbols.specs.Text.{symbols_text}
use Rattle.c25_tasks.proofs.WithSymbols.{with_symbols}
use Rattle.c25_tasks.proofs.symbols.build_with_symbols.Goals as goal

pub returns : goal.returns
returns c =
    let m = c.in_ok-modules.field-0 in
    let sources = map string_bytes c.args.sources.now in
    let shown = map string_bytes c.args.shown.now in
    let linked = c.in_ok-linked.linked in
    let under = c.in_ok-linked.ensures.under in
    let first : c.as_slice.result.now ≡ m.modules.items = cc (c.as_slice.ensures.value, c.in_ok-modules.modules-is) in
    let second : c.as_slice-2.result.now ≡ c.as_slice.result.now = cc (c.as_slice.ensures.value, c.as_slice-2.ensures.value) in
    with_symbols c.args.files.now sources shown c.args.command.now m linked c.in_ok-symbols.symbols c.as_slice.result.now c.in_ok-modules.ensures first c.in_ok-linked.ensures
    (c.in_ok-symbols.ensures under.command under.read ∙ ap (λ (ms : List Contents). symbols_text ms shown (places_of linked.image.described) (ranges_for under.command)) second)
