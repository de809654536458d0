use Rattle.std.proofs.Common.{rules}
use Rattle.c25_substitution.proofs.strings.string_text.Goals as goal

pub returns : goal.returns
returns c = search rules
