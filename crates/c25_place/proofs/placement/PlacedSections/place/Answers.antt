use Rattle.std.proofs.Common.{List, [], ◌∷◌, ap, sym, subst, refl, ◌∙◌}
use Rattle.std.proofs.lemmas.List.{map-append}
use Rattle.c25_meaning_linking.specs.Place as place
use Rattle.c25_place.specs.Room.{KnowsRoom, KnowsRuns}
use Rattle.c25_place.specs.View.{request_view, place_view, places_view, refusal_of}
use Rattle.c25_place.specs.declared.placement.Place.{Place}
use Rattle.c25_place.proofs.Placing.{refused_is}
use Rattle.c25_place.proofs.placement.PlacedSections.place.Goals as goal

pub returns-in_ok-push-in-Ok-clause-room : goal.returns-in_ok-push-in-Ok-clause-room
returns-in_ok-push-in-Ok-clause-room c =
    subst (λ (ps : List place.Place). KnowsRoom c.take.new.self ps) (sym (ap (λ (ps : List Place). places_view ps) c.in_ok-push-in-Ok.ensures.items ∙ map-append place_view c.args.self.now.places.items (_ ∷ [])))
    (c.take.ensures (places_view c.args.self.now.places.items) _ c.requires.room refl refl refl)

pub returns-in_ok-push-in-Ok-clause-runs : goal.returns-in_ok-push-in-Ok-clause-runs
returns-in_ok-push-in-Ok-clause-runs c =
    subst (λ (ps : List place.Place). KnowsRuns c.take-in-Ok.new.self ps) (sym (ap (λ (ps : List Place). places_view ps) c.in_ok-push-in-Ok.ensures.items ∙ map-append place_view c.args.self.now.places.items (_ ∷ [])))
    (c.take-in-Ok.ensures (places_view c.args.self.now.places.items) _ c.requires.runs refl refl)

pub returns-in_ok-push-in-Ok-clause-placed : goal.returns-in_ok-push-in-Ok-clause-placed
returns-in_ok-push-in-Ok-clause-placed c = λ all modules knows blocks.
    let here = c.page_for-page.ensures.page all modules knows in
    let fits = c.in-Ok.ensures.fits all modules knows blocks here in
    record {
      place = place_view (record { name = c.args.request.now.name; page = c.page_for-page.result; base = c.in-Ok.base; size = c.args.request.now.size; run = c.args.request.now.run });
      stands = record {
        name_is = refl;
        page_is = here;
        size_is = refl;
        base_is = fits.0;
        run_is = refl;
        runs = fits.1;
      };
      after_is = ap (λ (ps : List Place). places_view ps) c.in_ok-push-in-Ok.ensures.items ∙ map-append place_view c.args.self.now.places.items (_ ∷ []);
    }

pub returns-in_ok-refusal-in-Err-clause-placed : goal.returns-in_ok-refusal-in-Err-clause-placed
returns-in_ok-refusal-in-Err-clause-placed c = λ all modules knows blocks.
    refused_is all (places_view c.args.self.now.places.items) (request_view modules c.args.request.now) (refusal_of c.in_ok-refusal-in-Err.field-0) c.in-Err.fault c.in_ok-refusal-in-Err.ensures
    (c.in-Err.ensures.fits all modules knows blocks (c.page_for-page.ensures.page all modules knows))
