use Rattle.std.proofs.Common.{ℕ, List, string_bytes, subst}
use Rattle.c25_hex.specs.Hex.{SpellsWords}
use Rattle.c25_chain.proofs.page.page_of.Goals as goal

pub returns-in-Ok-clause-words : goal.returns-in-Ok-clause-words
returns-in-Ok-clause-words c =
    c.one_text_spells_one_map.ensures (string_bytes c.in_ok-text.text) c.in-Ok.words c.args.words.now (subst (λ (text : List ℕ). SpellsWords text c.in-Ok.words) c.as_str.ensures.value c.in-Ok.ensures.found) c.in_ok-text.ensures.spelled
