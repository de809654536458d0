use Rattle.std.proofs.Common.{sym, ◌∙◌}
use Rattle.c25_module.proofs.Texts.{section_name_text}
use Rattle.c25_records.proofs.named_payloads.section_after.Goals as goal

pub text_of-requires : goal.text_of-requires
text_of-requires c = section_name_text _ (sym c.is_section_name.ensures ∙ c.if-not-is_section_name.false)
