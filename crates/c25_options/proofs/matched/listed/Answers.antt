use Rattle.std.proofs.Common.{◌∙◌, List, Option, Some, None, [], ap, option_map, sym}
use Rattle.std.proofs.lemmas.Result.{IfOk-weaker}
use Rattle.clap.proofs.WalkLemmas.{raw_values-rows}
use Rattle.clap.specs.Words.{Text, found_of}
use Rattle.c25_options.specs.Task.{texts_of}
use Rattle.c25_options.proofs.matched.listed.Goals as goal

abbrev or_none : Option (List Text) → List Text
or_none values = elim values [ None ↦ [] | Some texts ↦ texts ]

pub returns-in-Some : goal.returns-in-Some
returns-in-Some c =
    let same = c.get_strs.ensures ∙ raw_values-rows (found_of c.args.matches.now) c.args.id.now in
    let found = sym same ∙ ap (option_map (λ s. texts_of s.now)) c.in-Some.is in
    IfOk-weaker c.cloned.result _ _ (λ v e. ap texts_of e ∙ sym (ap or_none found)) c.cloned.ensures

pub returns-in-None : goal.returns-in-None
returns-in-None c =
    let same = c.get_strs.ensures ∙ raw_values-rows (found_of c.args.matches.now) c.args.id.now in
    let found = sym same ∙ ap (option_map (λ s. texts_of s.now)) c.in-None.is in
    ap texts_of c.new.ensures.items ∙ sym (ap or_none found)
