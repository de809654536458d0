use Rattle.std.proofs.Common.{◌∙◌, Some, ap, option_map, sym}
use Rattle.std.proofs.lemmas.Result.{IfOk-weaker}
use Rattle.clap.proofs.WalkLemmas.{raw_values-rows}
use Rattle.clap.specs.Words.{found_of}
use Rattle.c25_options.specs.Complete.{rows_in}
use Rattle.c25_options.specs.Task.{texts_of}
use Rattle.c25_options.proofs.Rows.{there_listed}
use Rattle.c25_options.proofs.matched.all.Goals as goal

pub unreachable-requires : goal.unreachable-requires
unreachable-requires c =
    let same = c.get_strs.ensures ∙ raw_values-rows (found_of c.args.matches.now) c.args.id.now in
    there_listed c.args.id.now (rows_in c.args.matches.now) c.requires (sym same ∙ ap (option_map (λ s. texts_of s.now)) c.in-None.is)

pub returns : goal.returns
returns c =
    let same = c.get_strs.ensures ∙ raw_values-rows (found_of c.args.matches.now) c.args.id.now in
    IfOk-weaker c.cloned.result _ _ (λ v e. sym same ∙ ap (option_map (λ s. texts_of s.now)) c.in-Some.is ∙ ap (λ l. Some (texts_of l)) (sym e)) c.cloned.ensures
