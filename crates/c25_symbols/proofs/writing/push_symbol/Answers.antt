use Rattle.std.proofs.Common.{string_bytes}
use Rattle.std.specs.Prelude.{codes}
use Rattle.c25_symbols.specs.Text.{place_words, symbol_line, value_digits}
use Rattle.c25_symbols.specs.View.{entry_view}
use Rattle.c25_symbols.proofs.Joined.{line_told}
use Rattle.c25_symbols.proofs.writing.push_symbol.Goals as goal

pub returns : goal.returns
unfolding symbol_line
returns c =
    let entry = c.args.entry.now in
    line_told c.push_name.result (string_bytes c.args.out.now) (string_bytes c.push_str.new.self) (string_bytes c.push_value.new.out) (string_bytes c.push_str-2.new.self) (string_bytes c.push_place.new.out)
    (string_bytes c.push_name.new.text) (codes "SYMBOL ") (value_digits entry.value) (place_words (entry_view entry)) entry.name.now
    c.in_ok-push_str.ensures.bytes c.in_ok-push_value.ensures c.in_ok-push_str-2.ensures.bytes c.in_ok-push_place.ensures c.push_name.ensures
