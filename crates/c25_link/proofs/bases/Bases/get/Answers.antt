use Rattle.std.proofs.Common.{Some, None, ◌∙◌}
use Rattle.c25_link.proofs.Parted.{base_found, page_found, run_found, elsewhere_found, found_part, no_part, no_list}
use Rattle.c25_link.proofs.bases.Bases.get.Goals as goal

pub returns-in-Some-get-clause-base : goal.returns-in-Some-get-clause-base
returns-in-Some-get-clause-base c = λ modules places m knows is.
    base_found modules places c.args.number c.args.index m (Some c.in-Some-get.part.now)
    (found_part c.args.self.now.modules.items c.deref.result.now c.deref-in-Some.result.now c.args.number c.args.index c.in-Some.parts c.in-Some-get.part c.deref.ensures.value c.deref-in-Some.ensures.value c.in-Some.ensures.lookup c.in-Some-get.ensures.lookup
    ∙ knows c.args.number c.args.index m is)

pub returns-in-Some-get-clause-page : goal.returns-in-Some-get-clause-page
returns-in-Some-get-clause-page c = λ modules places m knows is.
    page_found modules places c.args.number c.args.index m (Some c.in-Some-get.part.now)
    (found_part c.args.self.now.modules.items c.deref.result.now c.deref-in-Some.result.now c.args.number c.args.index c.in-Some.parts c.in-Some-get.part c.deref.ensures.value c.deref-in-Some.ensures.value c.in-Some.ensures.lookup c.in-Some-get.ensures.lookup
    ∙ knows c.args.number c.args.index m is)

pub returns-in-Some-get-clause-run : goal.returns-in-Some-get-clause-run
returns-in-Some-get-clause-run c = λ modules places m knows is.
    run_found modules places c.args.number c.args.index m (Some c.in-Some-get.part.now)
    (found_part c.args.self.now.modules.items c.deref.result.now c.deref-in-Some.result.now c.args.number c.args.index c.in-Some.parts c.in-Some-get.part c.deref.ensures.value c.deref-in-Some.ensures.value c.in-Some.ensures.lookup c.in-Some-get.ensures.lookup
    ∙ knows c.args.number c.args.index m is)

pub returns-in-Some-get-clause-elsewhere : goal.returns-in-Some-get-clause-elsewhere
returns-in-Some-get-clause-elsewhere c = λ modules places m knows is.
    elsewhere_found modules places c.args.number c.args.index m (Some c.in-Some-get.part.now)
    (found_part c.args.self.now.modules.items c.deref.result.now c.deref-in-Some.result.now c.args.number c.args.index c.in-Some.parts c.in-Some-get.part c.deref.ensures.value c.deref-in-Some.ensures.value c.in-Some.ensures.lookup c.in-Some-get.ensures.lookup
    ∙ knows c.args.number c.args.index m is)

pub returns-in-None-get-clause-base : goal.returns-in-None-get-clause-base
returns-in-None-get-clause-base c = λ modules places m knows is.
    base_found modules places c.args.number c.args.index m None
    (no_part c.args.self.now.modules.items c.deref.result.now c.deref-in-Some.result.now c.args.number c.args.index c.in-Some.parts c.deref.ensures.value c.deref-in-Some.ensures.value c.in-Some.ensures.lookup c.in-None-get.ensures.lookup
    ∙ knows c.args.number c.args.index m is)

pub returns-in-None-get-clause-page : goal.returns-in-None-get-clause-page
returns-in-None-get-clause-page c = λ modules places m knows is.
    page_found modules places c.args.number c.args.index m None
    (no_part c.args.self.now.modules.items c.deref.result.now c.deref-in-Some.result.now c.args.number c.args.index c.in-Some.parts c.deref.ensures.value c.deref-in-Some.ensures.value c.in-Some.ensures.lookup c.in-None-get.ensures.lookup
    ∙ knows c.args.number c.args.index m is)

pub returns-in-None-get-clause-run : goal.returns-in-None-get-clause-run
returns-in-None-get-clause-run c = λ modules places m knows is.
    run_found modules places c.args.number c.args.index m None
    (no_part c.args.self.now.modules.items c.deref.result.now c.deref-in-Some.result.now c.args.number c.args.index c.in-Some.parts c.deref.ensures.value c.deref-in-Some.ensures.value c.in-Some.ensures.lookup c.in-None-get.ensures.lookup
    ∙ knows c.args.number c.args.index m is)

pub returns-in-None-get-clause-elsewhere : goal.returns-in-None-get-clause-elsewhere
returns-in-None-get-clause-elsewhere c = λ modules places m knows is.
    elsewhere_found modules places c.args.number c.args.index m None
    (no_part c.args.self.now.modules.items c.deref.result.now c.deref-in-Some.result.now c.args.number c.args.index c.in-Some.parts c.deref.ensures.value c.deref-in-Some.ensures.value c.in-Some.ensures.lookup c.in-None-get.ensures.lookup
    ∙ knows c.args.number c.args.index m is)

pub returns-in-None-clause-base : goal.returns-in-None-clause-base
returns-in-None-clause-base c = λ modules places m knows is.
    base_found modules places c.args.number c.args.index m None (no_list c.args.self.now.modules.items c.deref.result.now c.args.number c.args.index c.deref.ensures.value c.in-None.ensures.lookup ∙ knows c.args.number c.args.index m is)

pub returns-in-None-clause-page : goal.returns-in-None-clause-page
returns-in-None-clause-page c = λ modules places m knows is.
    page_found modules places c.args.number c.args.index m None (no_list c.args.self.now.modules.items c.deref.result.now c.args.number c.args.index c.deref.ensures.value c.in-None.ensures.lookup ∙ knows c.args.number c.args.index m is)

pub returns-in-None-clause-run : goal.returns-in-None-clause-run
returns-in-None-clause-run c = λ modules places m knows is.
    run_found modules places c.args.number c.args.index m None (no_list c.args.self.now.modules.items c.deref.result.now c.args.number c.args.index c.deref.ensures.value c.in-None.ensures.lookup ∙ knows c.args.number c.args.index m is)

pub returns-in-None-clause-elsewhere : goal.returns-in-None-clause-elsewhere
returns-in-None-clause-elsewhere c = λ modules places m knows is.
    elsewhere_found modules places c.args.number c.args.index m None (no_list c.args.self.now.modules.items c.deref.result.now c.args.number c.args.index c.deref.ensures.value c.in-None.ensures.lookup ∙ knows c.args.number c.args.index m is)
