use denote.Ref.{Bor}
use Rattle.std.proofs.Common.{◌≡◌, rules, tests, Option, Some, None, refl, ap, sym, ◌∙◌}
use Rattle.std.proofs.lemmas.Iterator.{YieldsList-from_slice}
use Rattle.std.proofs.lemmas.Iterator.Search.{find_from_yields_List}
use Rattle.std.specs.Option.{option_map}
use Rattle.std.specs.Str.{bytes_eq}
use Rattle.c25_place.specs.View.{place_view}
use Rattle.c25_place.specs.declared.placement.Place.{Place}
use Rattle.c25_line_warnings.proofs.Lists.{found_mapped}
use Rattle.c25_line_warnings.proofs.memories.place_of.Goals as goal

viewed : (found : Option (Bor Place)) → option_map (λ p. place_view p.now) found ≡ option_map place_view (option_map (λ p. p.now) found)
viewed None = refl
viewed (Some p) = refl

pub returns : goal.returns
returns c =
    let name = c.args.name.now in
    let found = find_from_yields_List (λ (p : Place). bytes_eq name p.name.now) _ _ c.find.result c.find.ensures.ran (YieldsList-from_slice _ c.iter.ensures.rest) (λ x b q k. search (rules, tests)) in
    viewed c.find.result ∙ ap (option_map place_view) found ∙ sym (found_mapped (λ p. bytes_eq name p.name) place_view c.args.places.now)
