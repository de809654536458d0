use Rattle.std.proofs.Common.{length, Some, sym, refl, ap, ◌∙◌}
use Rattle.std.proofs.lemmas.Option.{slice_get_read}
use Rattle.c25_meaning_image.specs.WordMap.{put_all}
use Rattle.c25_link.specs.Layout.{places_in}
use Rattle.c25_link.specs.declared.loading.PageLists.{PageLists}
use Rattle.c25_link.proofs.Loaded.{no_pages, all_loaded}
use Rattle.c25_link.proofs.loading.load.Goals as goal

pub loop-number-init : goal.loop-number-init
loop-number-init c =
    let pages : PageLists = record { program = c.new.result; store = c.new-2.result } in
    no_pages c.args.layout.now.modules.now (places_in c.args.layout.now) pages c.new.ensures c.new-2.ensures

pub load_module-requires-clause-owner : goal.load_module-requires-clause-owner
load_module-requires-clause-owner c =
    let modules = c.args.layout.now.modules.now in
    slice_get_read modules (length modules) c.loop-number.number c.module-item.result refl c.loop-number-test.true c.module-item.is ∙ ap Some (sym c.parts.ensures.kept)

pub returns-clause-program : goal.returns-clause-program
returns-clause-program c =
    rw c.in_ok-program.ensures (all_loaded c.args.layout.now.modules.now (places_in c.args.layout.now) c.loop-number.number 0 (put_all c.loop-number.pages.program) c.loop-number-test.false c.loop-number.invariant.program)

pub returns-clause-store : goal.returns-clause-store
returns-clause-store c =
    rw c.in_ok-store.ensures (all_loaded c.args.layout.now.modules.now (places_in c.args.layout.now) c.loop-number.number 1 (put_all c.loop-number.pages.store) c.loop-number-test.false c.loop-number.invariant.store)
