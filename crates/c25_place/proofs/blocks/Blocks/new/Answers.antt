use Rattle.std.proofs.Common.{◌≡◌, ◌≤◌, ℕ, List, [], All, None, take, unwrap_or, sym, ap, subst, ◌∙◌}
use Rattle.std.specs.Map.{lookup}
use Rattle.std.specs.Str.{bytes_eq}
use Rattle.c25_meaning_objects.specs.Module.{Contents, body_size}
use Rattle.c25_meaning_linking.specs.Place.{BlockData, by_modules, part_blocks, size_of_parts}
use Rattle.c25_module.specs.View.{body_data, sections_data}
use Rattle.c25_module.specs.declared.parts.Section.{Section}
use Rattle.c25_place.specs.Blocks.{KnowsPaging, anywhere}
use Rattle.c25_place.specs.View.{named}
use Rattle.c25_place.proofs.Blocked.{module_next}
use Rattle.c25_place.proofs.Listed.{small_sections}
use Rattle.c25_place.proofs.Paged.{known_of_none}
use Rattle.c25_place.proofs.blocks.Blocks.new.Goals as goal

pub loop-module-init : goal.loop-module-init
loop-module-init c = λ name.
    let none : named c.new-found.result name ≡ None = ap (λ es. lookup (λ k. bytes_eq name k.now) es) c.new-found.ensures.empty in
    subst (λ o. KnowsPaging (unwrap_or o anywhere) 0 []) (sym none) known_of_none

pub add_words-requires : goal.add_words-requires
add_words-requires c =
    subst (λ (ss : List Section). All (λ s. body_size (body_data s.body) ≤ 65536) ss) (sym c.deref.ensures.value)
    (small_sections c.module-item.result c.parts-in-loop-module.result.now.sections.items c.parts-in-loop-module.ensures.spelled (ap (λ (m : Contents). m.sections) c.parts-in-loop-module.ensures.kept))

pub loop-module-preserved : goal.loop-module-preserved
loop-module-preserved c = λ name.
    let modules = c.args.modules.now in
    let i = c.loop-module.module-index in
    let words : List ℕ → ℕ = λ n. size_of_parts n (take i modules) in
    let blocks : List ℕ → List BlockData = λ n. by_modules (part_blocks modules n) 0 (take i modules) in
    let added = c.in_ok-add_blocks.ensures words blocks c.loop-module.invariant in
    module_next modules i c.module-item.result _ (sections_data c.deref.result.now) name _ c.loop-module-test.true c.module-item.is c.parts.ensures.kept
    (ap (λ (ss : List Section). sections_data ss) c.deref.ensures.value ∙ ap (λ (m : Contents). m.sections) c.parts-in-loop-module.ensures.kept)
    (c.in_ok-add_words.ensures words _ added name)
