use Rattle.std.proofs.Common.{sym, ◌∙◌, arith}
use Rattle.std.proofs.lemmas.List.{length-map}
use Rattle.c25_module.specs.View.{symbol_data, sections_data, symbols_data}
use Rattle.c25_module.proofs.AllSymbols.{too_many, some_stands_not, fits_if_names_differ}
use Rattle.c25_module.proofs.spelling.symbols_fit.Goals as goal

pub returns-then-symbols-gt-MAX_SYMBOLS : goal.returns-then-symbols-gt-MAX_SYMBOLS
returns-then-symbols-gt-MAX_SYMBOLS c =
    let same = length-map c.args.symbols.now symbol_data in
    sym (too_many c.args.version (sections_data c.args.sections.now) (symbols_data c.args.symbols.now) (omega arith))

pub returns-then-all_symbols_stand : goal.returns-then-all_symbols_stand
returns-then-all_symbols_stand c =
    let same = length-map c.args.symbols.now symbol_data in
    fits_if_names_differ c.args.version (sections_data c.args.sections.now) (symbols_data c.args.symbols.now) c.names_differ.result (omega arith) (sym c.all_symbols_stand.ensures ∙ c.if-all_symbols_stand.true) c.names_differ.ensures

pub returns-else-all_symbols_stand : goal.returns-else-all_symbols_stand
returns-else-all_symbols_stand c =
    c.if-all_symbols_stand.false ∙ sym (some_stands_not c.args.version (sections_data c.args.sections.now) (symbols_data c.args.symbols.now) (sym c.all_symbols_stand.ensures ∙ c.if-all_symbols_stand.false))
