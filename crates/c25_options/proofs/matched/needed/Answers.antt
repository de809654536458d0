use Rattle.std.proofs.Common.{◌∙◌, ap, is_some, sym, true≢false}
use Rattle.clap.proofs.WalkLemmas.{first_value-rows}
use Rattle.clap.specs.Words.{found_of}
use Rattle.c25_options.specs.Task.{text_of}
use Rattle.c25_options.proofs.matched.needed.Goals as goal

pub unreachable-requires : goal.unreachable-requires
unreachable-requires c =
    let same = c.get_str.ensures ∙ first_value-rows (found_of c.args.matches.now) c.args.id.now in
    true≢false (sym c.requires ∙ ap is_some (sym same ∙ ap text_of c.in-None.is))

pub returns : goal.returns
returns c = sym (c.get_str.ensures ∙ first_value-rows (found_of c.args.matches.now) c.args.id.now) ∙ ap text_of c.in-Some.is
