use denote.Ref.{Bor}
use Rattle.std.proofs.Common.{◌+◌, ℕ, List, [], drop, get_or, map, ap, sym, ◌∙◌}
use Rattle.std.proofs.lemmas.List.{drop_more}
use Rattle.c25_place.specs.View.{places_view}
use Rattle.c25_warnings.specs.Warnings.{each_once, of_sources}
use Rattle.c25_warnings.proofs.Once.{source_more}
use Rattle.c25_warnings.proofs.source.add_sources.Goals as goal

pub loop-number-preserved : goal.loop-number-preserved
loop-number-preserved c =
    let d : Bor (List ℕ) = record { ref_ptr = (0, 0); now = [] } in
    let files = c.args.files.now in
    let places = places_view c.args.linked.places.now in
    let ms = c.args.linked.modules.now in
    let names = c.args.names.now in
    let i = c.loop-number.number in
    let old = c.loop-number.reports in
    source_more files places (get_or names i d).now (map (λ n. n.now) (drop (i + 1) names)) ms i old c.add_numbered.new.reports c.in_ok-add_numbered.ensures
    ∙ ap (λ (ns : List (Bor (List ℕ))). each_once old (of_sources files (map (λ n. n.now) ns) (drop i ms) places)) (sym (drop_more names i d c.loop-number-test.true))
    ∙ c.loop-number.invariant
