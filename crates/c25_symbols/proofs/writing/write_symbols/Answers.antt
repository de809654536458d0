use Rattle.std.proofs.Common.{◌≡◌, ◌++◌, List, ap, map, string_bytes, subst, ◌∙◌}
use Rattle.std.specs.List.{flat_map}
use Rattle.c25_cmd.specs.View.{command_data}
use Rattle.c25_map.specs.View.{map_data}
use Rattle.c25_meaning_linking.specs.GoodMap.{ranges_for}
use Rattle.c25_meaning_linking.specs.Place.{Place}
use Rattle.c25_symbols.specs.Symbols.{symbols_by_name}
use Rattle.c25_symbols.specs.Text.{range_line, symbol_line}
use Rattle.c25_symbols.specs.View.{KnowsUsed, places_of, places_view}
use Rattle.c25_symbols.proofs.Joined.{text_joined}
use Rattle.c25_symbols.proofs.Next.{places_seen}
use Rattle.c25_symbols.proofs.writing.write_symbols.Goals as goal

pub returns : goal.returns
returns c =
    let modules = c.args.modules.now in
    let sources = map string_bytes c.args.sources.now in
    let places = places_of (map_data c.args.described.now) in
    let seen : places_view c.args.described.now.sections.items ≡ places = places_seen c.args.described.now in
    let used : KnowsUsed c.in_ok-used.used places = subst (λ (ps : List Place). KnowsUsed c.in_ok-used.used ps) (ap places_view c.deref.ensures.value ∙ seen) c.in_ok-used.ensures in
    let symbols : string_bytes c.push_symbols.new.out ≡ string_bytes c.push_str.new.self ++ flat_map symbol_line (symbols_by_name modules sources places) =
    c.in_ok-push_symbols.ensures
    ∙ ap (λ (ps : List Place). string_bytes c.push_str.new.self ++ flat_map symbol_line (symbols_by_name modules sources ps)) (ap places_view c.deref-2.ensures.value ∙ seen) in
    text_joined (string_bytes c.new-out.result) (string_bytes c.push_str.new.self) (string_bytes c.push_symbols.new.out) (string_bytes c.push_ranges.new.out) (string_bytes c.push_str-2.new.self) _ (flat_map symbol_line (symbols_by_name modules sources places))
    (flat_map (range_line places) (ranges_for (command_data c.args.command.now))) _ c.new-out.ensures.bytes c.in_ok-push_str.ensures.bytes symbols (c.in_ok-push_ranges.ensures places used) c.in_ok-push_str-2.ensures.bytes
