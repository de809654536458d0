use Rattle.std.proofs.Common.{string_bytes, map}
use Rattle.c25_chain.specs.Chain.{given_of}
use Rattle.c25_chain.proofs.Answered.{answered, growth_refused}
use Rattle.c25_chain.proofs.chain.run_chain.Goals as goal

pub returns-in-Err-clause-answer : goal.returns-in-Err-clause-answer
returns-in-Err-clause-answer c = growth_refused _ c.args.n c.into.result c.into.ensures

pub returns-in-Ok-clause-answer : goal.returns-in-Ok-clause-answer
returns-in-Ok-clause-answer c =
    let g = given_of c.args.files.now (map string_bytes c.args.sources.now) c.args.command.now c.args.samples.now c.args.schedule.now in
    answered g c.args.n c.in_ok-built.field-0.built c.in-Ok.done c.chain_of.result c.in_ok-built.field-0.samples c.in_ok-built.field-0.schedule (c.in_ok-built.ensures).built (c.in_ok-built.ensures).read
    c.in-Ok.ensures c.chain_of.ensures.texts c.chain_of.ensures.listings c.chain_of.ensures.run

pub returns-in-Ok-clause-hex_texts_hold_the_words : goal.returns-in-Ok-clause-hex_texts_hold_the_words
returns-in-Ok-clause-hex_texts_hold_the_words c = c.answers_run_as_their_sources.ensures.words _ _ _ (returns-in-Ok-clause-answer c)

pub returns-in-Ok-clause-marks_are_statements : goal.returns-in-Ok-clause-marks_are_statements
returns-in-Ok-clause-marks_are_statements c = c.answers_run_as_their_sources.ensures.marks _ _ _ (returns-in-Ok-clause-answer c)

pub returns-in-Ok-clause-runs_agree : goal.returns-in-Ok-clause-runs_agree
returns-in-Ok-clause-runs_agree c = c.answers_run_as_their_sources.ensures.runs _ _ _ (returns-in-Ok-clause-answer c)

pub returns-in-Ok-clause-code_stays : goal.returns-in-Ok-clause-code_stays
returns-in-Ok-clause-code_stays c = c.answers_run_as_their_sources.ensures.code _ _ _ (returns-in-Ok-clause-answer c)

pub returns-in-Ok-clause-own_run_is_the_statements : goal.returns-in-Ok-clause-own_run_is_the_statements
returns-in-Ok-clause-own_run_is_the_statements c = c.answers_run_as_their_sources.ensures.own_run _ _ _ (returns-in-Ok-clause-answer c)
