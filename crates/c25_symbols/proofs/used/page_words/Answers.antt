use Rattle.std.proofs.Common.{◌≡◌, ◌+◌, Bool, List, length, sym, subst, take, rules}
use Rattle.std.proofs.lemmas.List.{take_all}
use Rattle.c25_map.specs.declared.map.OutputSection.{OutputSection}
use Rattle.c25_meaning_linking.specs.Place.{Place}
use Rattle.c25_symbols.specs.View.{KnowsPage, places_view}
use Rattle.c25_symbols.proofs.Marked.{marked_none, written_back}
use Rattle.c25_symbols.proofs.Next.{places_more}
use Rattle.c25_symbols.proofs.used.page_words.Goals as goal

pub loop-section-init : goal.loop-section-init
loop-section-init c = marked_none c.in_ok-words.words.items c.args.page c.in_ok-words.ensures

pub loop-section-preserved : goal.loop-section-preserved
loop-section-preserved c =
    let i = c.loop-section.section-index in
    let before = places_view (take i c.args.sections.now) in
    let sized : length c.mark_section.new.words ≡ c.loop-section.words.len = search rules in
    let knows : KnowsPage c.deref_mut.result.now c.args.page before = subst (λ (ws : List Bool). KnowsPage ws c.args.page before) (sym c.deref_mut.ensures.value) c.loop-section.invariant in
    subst (λ (ws : List Bool). KnowsPage ws c.args.page (places_view (take (i + 1) c.args.sections.now))) (sym (written_back c.loop-section.words.len c.mark_section.new.words _ sized))
    (subst (λ (ps : List Place). KnowsPage c.mark_section.new.words c.args.page ps) (sym (places_more c.args.sections.now i c.section-item.result c.loop-section-test.true c.section-item.is)) (c.mark_section.ensures.known before knows))

pub returns : goal.returns
returns c =
    subst (λ (ss : List OutputSection). KnowsPage c.loop-section.words.items c.args.page (places_view ss)) (take_all c.loop-section.section-index c.args.sections.now c.loop-section-test.false) c.loop-section.invariant
