use Rattle.std.proofs.Common.{◌∙◌, codes}
use Rattle.clap.proofs.WalkLemmas.{one_text-rows}
use Rattle.std.specs.Str.Parse.{ParsesUnsigned, ExplainsUnsignedError, HasUnsignedDigitsIfOk}
use Rattle.clap.specs.Words.{found_of}
use Rattle.c25_options.proofs.NumberText.{count_read}
use Rattle.c25_options.proofs.matched.blank.Goals as goal

pub returns : goal.returns
returns c =
    let same = one_text-rows (found_of c.args.matches.now) (codes "blank") in
    count_read (λ t x. ParsesUnsigned 32 10 t x × ExplainsUnsignedError 10 t x × HasUnsignedDigitsIfOk t x)
    _ c.get_one.result (λ t x g. g.0) c.requires (λ e. c.get_one.ensures.none (same ∙ e)) (λ t e. c.get_one.ensures.value t (same ∙ e))
