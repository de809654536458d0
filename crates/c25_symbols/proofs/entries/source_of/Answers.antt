use Rattle.std.proofs.Common.{List, [], length, Option, ℕ, refl, ap, sym, ◌∙◌, string_bytes}
use Rattle.std.specs.Option.{option_map}
use Rattle.std.specs.Prelude.{unwrap_or}
use Rattle.std.proofs.lemmas.Option.{slice_get_past, slice_get_read, slice_get-map}
use Rattle.c25_symbols.proofs.entries.source_of.Goals as goal

pub returns-in-None : goal.returns-in-None
returns-in-None c =
    let sources = c.args.sources.now in
    sym (ap (λ (o : Option (List ℕ)). unwrap_or o [])
    (slice_get-map string_bytes sources c.args.number ∙ ap (option_map string_bytes) (slice_get_past sources c.args.number c.in-None.ensures.lookup.3)))

pub returns-in-Some : goal.returns-in-Some
returns-in-Some c =
    let sources = c.args.sources.now in
    let source = c.in-Some.source.now in
    let here = c.in-Some.ensures.lookup in
    c.as_str.ensures.value
    ∙ sym (ap (λ (o : Option (List ℕ)). unwrap_or o [])
    (slice_get-map string_bytes sources c.args.number ∙ ap (option_map string_bytes) (slice_get_read sources (length sources) c.args.number source refl here.3.0 here.1)))
