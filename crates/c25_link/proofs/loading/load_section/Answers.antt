use Rattle.std.proofs.Common.{◌≡◌, ℕ, ◌+◌, ◌<◌, List, length, ap, sym, refl, ◌∙◌, arith}
use Rattle.std.specs.FinMap as finite
use Rattle.std.proofs.lemmas.List.{length-map}
use Rattle.c25_meaning_objects.specs.Module.{Initialised, body_words}
use Rattle.c25_meaning_linking.specs.Place.{IsPart}
use Rattle.c25_meaning_image.specs.WordMap.{put_all}
use Rattle.c25_module.specs.View.{contents, body_data, section_data}
use Rattle.c25_module.specs.declared.parts.Body.{Body}
use Rattle.c25_link.specs.Layout.{places_in}
use Rattle.c25_link.specs.Loading.{loaded, linked_at, HavePagesBefore}
use Rattle.c25_link.specs.declared.loading.PageLists.{PageLists}
use Rattle.c25_link.proofs.Loaded.{part_ends, pages_uninitialised, program_loaded, store_loaded, other_page, on_ok}
use Rattle.c25_link.proofs.Owned.{section_at, few_sections}
use Rattle.c25_link.proofs.loading.load_section.Goals as goal

pub overflow_cast-section : goal.overflow_cast-section
overflow_cast-section c =
    let m = contents c.args.owner.now.parts.now in
    let few = few_sections m (c.requires.laid.modules c.args.owner.now.number m c.requires.owner).lists in
    let below = c.requires.section in
    omega (arith, few, below)

pub load_words-requires-clause-within : goal.load_words-requires-clause-within
load_words-requires-clause-within c =
    let modules = c.args.layout.now.modules.now in
    let places = places_in c.args.layout.now in
    let m = contents c.args.owner.now.parts.now in
    let s = c.index-section.result.now in
    let lt : c.args.index < length c.args.owner.now.parts.now.sections.items = omega (arith, c.requires.section, length-map c.args.owner.now.parts.now.sections.items section_data) in
    let part : IsPart modules c.args.owner.now.number c.args.index m (section_data s) = record { owner_is = c.requires.owner; section_is = section_at c.args.owner.now.parts.now.sections.items c.args.index s lt c.index-section.ensures } in
    part_ends modules places c.args.owner.now.number c.args.index c.get-part.result.base c.deref.result.now m (section_data s) c.requires.laid.room part
    (c.get-part.ensures.base modules places m c.requires.laid.bases c.requires.owner) (ap body_data c.in-Initialised.is ∙ ap (λ (ws : List ℕ). Initialised ws) (sym c.deref.ensures.value))

pub load_words-requires-else-part-eq0-clause-within :
    goal.load_words-requires-else-part-eq0-clause-within
load_words-requires-else-part-eq0-clause-within c =
    let modules = c.args.layout.now.modules.now in
    let places = places_in c.args.layout.now in
    let m = contents c.args.owner.now.parts.now in
    let s = c.index-section.result.now in
    let lt : c.args.index < length c.args.owner.now.parts.now.sections.items = omega (arith, c.requires.section, length-map c.args.owner.now.parts.now.sections.items section_data) in
    let part : IsPart modules c.args.owner.now.number c.args.index m (section_data s) = record { owner_is = c.requires.owner; section_is = section_at c.args.owner.now.parts.now.sections.items c.args.index s lt c.index-section.ensures } in
    part_ends modules places c.args.owner.now.number c.args.index c.get-part.result.base c.deref.result.now m (section_data s) c.requires.laid.room part
    (c.get-part.ensures.base modules places m c.requires.laid.bases c.requires.owner) (ap body_data c.in-Initialised.is ∙ ap (λ (ws : List ℕ). Initialised ws) (sym c.deref.ensures.value))

pub returns-in-Uninitialised : goal.returns-in-Uninitialised
returns-in-Uninitialised c =
    let modules = c.args.layout.now.modules.now in
    let m = contents c.args.owner.now.parts.now in
    let s = c.index-section.result.now in
    let lt : c.args.index < length c.args.owner.now.parts.now.sections.items = omega (arith, c.requires.section, length-map c.args.owner.now.parts.now.sections.items section_data) in
    let part : IsPart modules c.args.owner.now.number c.args.index m (section_data s) = record { owner_is = c.requires.owner; section_is = section_at c.args.owner.now.parts.now.sections.items c.args.index s lt c.index-section.ensures } in
    pages_uninitialised modules (places_in c.args.layout.now) c.args.owner.now.number c.args.index m (section_data s) c.args.pages.now part (ap (λ (b : Body). body_words (body_data b)) c.in-Uninitialised.is) c.requires.before

pub returns-then-part-eq0 : goal.returns-then-part-eq0
returns-then-part-eq0 c =
    let modules = c.args.layout.now.modules.now in
    let places = places_in c.args.layout.now in
    let m = contents c.args.owner.now.parts.now in
    let s = c.index-section.result.now in
    let ws = c.deref.result.now in
    let base = c.get-part.result.base in
    let old = c.args.pages.now in
    let new : PageLists = record { program = c.load_words.new.page; store = old.store } in
    let lt : c.args.index < length c.args.owner.now.parts.now.sections.items = omega (arith, c.requires.section, length-map c.args.owner.now.parts.now.sections.items section_data) in
    let part : IsPart modules c.args.owner.now.number c.args.index m (section_data s) = record { owner_is = c.requires.owner; section_is = section_at c.args.owner.now.parts.now.sections.items c.args.index s lt c.index-section.ensures } in
    on_ok (λ address. finite.get (put_all new.program) address ≡ loaded base (length ws) (linked_at modules places c.args.owner.now.number m c.args.index ws) (finite.get (put_all old.program) address) address)
    (HavePagesBefore modules places c.args.owner.now.number (c.args.index + 1) new) c.load_words.result c.load_words.ensures (λ is.
    program_loaded modules places c.args.owner.now.number c.args.index base ws m (section_data s) old new part c.requires.laid.parts
    (sym c.if-part-eq0.true ∙ c.get-part.ensures.page modules places m c.requires.laid.bases c.requires.owner)
    (ap body_data c.in-Initialised.is ∙ ap (λ (xs : List ℕ). Initialised xs) (sym c.deref.ensures.value))
    (record { base_is = c.get-part.ensures.base modules places m c.requires.laid.bases c.requires.owner; words_are = is }) refl c.requires.before)

pub returns-else-part-eq0 : goal.returns-else-part-eq0
returns-else-part-eq0 c =
    let modules = c.args.layout.now.modules.now in
    let places = places_in c.args.layout.now in
    let m = contents c.args.owner.now.parts.now in
    let s = c.index-section.result.now in
    let ws = c.deref.result.now in
    let base = c.get-part.result.base in
    let old = c.args.pages.now in
    let new : PageLists = record { program = old.program; store = c.load_words-else-part-eq0.new.page } in
    let lt : c.args.index < length c.args.owner.now.parts.now.sections.items = omega (arith, c.requires.section, length-map c.args.owner.now.parts.now.sections.items section_data) in
    let part : IsPart modules c.args.owner.now.number c.args.index m (section_data s) = record { owner_is = c.requires.owner; section_is = section_at c.args.owner.now.parts.now.sections.items c.args.index s lt c.index-section.ensures } in
    let page = c.get-part.ensures.page modules places m c.requires.laid.bases c.requires.owner in
    let one : c.get-part.result.page ≡ 1 = other_page modules places c.args.owner.now.number c.args.index c.get-part.result.page m (section_data s) c.requires.laid.room part page c.if-part-eq0.false in
    on_ok (λ address. finite.get (put_all new.store) address ≡ loaded base (length ws) (linked_at modules places c.args.owner.now.number m c.args.index ws) (finite.get (put_all old.store) address) address)
    (HavePagesBefore modules places c.args.owner.now.number (c.args.index + 1) new) c.load_words-else-part-eq0.result c.load_words-else-part-eq0.ensures (λ is.
    store_loaded modules places c.args.owner.now.number c.args.index base ws m (section_data s) old new part c.requires.laid.parts (sym one ∙ page)
    (ap body_data c.in-Initialised.is ∙ ap (λ (xs : List ℕ). Initialised xs) (sym c.deref.ensures.value))
    (record { base_is = c.get-part.ensures.base modules places m c.requires.laid.bases c.requires.owner; words_are = is }) refl c.requires.before)
