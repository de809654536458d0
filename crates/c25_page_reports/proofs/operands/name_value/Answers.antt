use Rattle.std.proofs.Common.{◌∙◌, map}
use Rattle.c25_map.specs.View.{symbol_data}
use Rattle.c25_page_reports.proofs.Named.{value_found}
use Rattle.c25_page_reports.proofs.operands.name_value.Goals as goal

pub returns : goal.returns
returns c = λ modules places e. c.value_of.ensures ∙ value_found modules places c.args.name.now (map symbol_data c.args.symbols.now) e
