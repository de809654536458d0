use Rattle.std.proofs.Common.{arith}
use Rattle.std.proofs.lemmas.Str.{IsCharBoundary-after_ascii}
use Rattle.c25_substitution.proofs.Cuts.{byte_within}
use Rattle.c25_substitution.proofs.fragments.behind_blank.Goals as goal

pub range_from-requires : goal.range_from-requires
range_from-requires c = λ _. IsCharBoundary-after_ascii c.args.text.now 0 c.utf8.text (byte_within c.args.text.now 0 (omega (arith, c.requires))) (omega (arith, c.requires))
