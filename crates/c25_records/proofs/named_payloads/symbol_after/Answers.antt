use Rattle.std.proofs.Common.{sym, ◌∙◌}
use Rattle.c25_module.proofs.Texts.{symbol_name_text}
use Rattle.c25_records.proofs.named_payloads.symbol_after.Goals as goal

pub text_of-name-requires : goal.text_of-name-requires
text_of-name-requires c = symbol_name_text _ (sym c.is_symbol_name.ensures ∙ c.if-not-is_symbol_name.false)
