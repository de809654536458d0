use Rattle.std.proofs.Common.{◌∙◌, ap, Ok, Err, map, string_bytes}
use Rattle.c25_inputs.proofs.Fails.{over_short}
use Rattle.c25_inputs.proofs.Gathering.{inputs_read, inputs_refused, inputs_shown}
use Rattle.c25_inputs.specs.Files.{assembled_in, source_names}
use Rattle.c25_chain.specs.Chain.{given_of}
use Rattle.c25_prompting.specs.Prompting.{Prompts, PromptsOver}
use Rattle.c25_prompting.proofs.Prompted.{held_session, prompts_same, readable, refused}
use Rattle.c25_prompting.proofs.prompting.debug_at_prompt.Goals as goal

pub returns-in_err-inputs-clause-answer : goal.returns-in_err-inputs-clause-answer
returns-in_err-inputs-clause-answer g c =
    let held = g.D.Disk.bytes_of c.args.disk.now in
    let sources = source_names c.args.named.sources in
    let names = assembled_in sources in
    let input = g.R.Read.remaining c.args.input.now in
    let before = g.O.Write.contents c.args.out.now in
    inputs_refused held sources c.args.named.files (λ given command samples schedule. PromptsOver held given names sources.names command samples schedule input before before) c.from_residual.result c.in_err-inputs.field-0.0
    (λ given command samples schedule fault short. over_short held given (λ all result. Prompts (given_of all names command samples schedule) sources.names input before before result) fault short) c.in_err-inputs.ensures c.from_residual.ensures.1

pub hold_session-requires : goal.hold_session-requires
hold_session-requires g c = readable (g.D.Disk.bytes_of c.args.disk.now) _ _ _ _ _ c.in-Ok.debugged c.in-Ok.ensures

pub returns-in-Ok-clause-answer : goal.returns-in-Ok-clause-answer
returns-in-Ok-clause-answer g c =
    let held = g.D.Disk.bytes_of c.args.disk.now in
    let sources = source_names c.args.named.sources in
    let names = assembled_in sources in
    let input = g.R.Read.remaining c.args.input.now in
    let before = g.O.Write.contents c.args.out.now in
    let after = g.O.Write.contents c.hold_session.new.out in
    inputs_read held sources c.args.named.files (λ given command samples schedule. PromptsOver held given names sources.names command samples schedule input before after) c.in_ok-inputs.inputs (Ok c.hold_session.result) c.in_ok-inputs.ensures
    (λ named.
    prompts_same held _ names _ sources.names _ _ _ _ _ _ _ input before after (Ok c.hold_session.result) (ap (λ xs. map string_bytes xs) c.as_slice.ensures.value ∙ named) (ap (λ xs. map string_bytes xs) c.as_slice-2.ensures.value ∙ inputs_shown held sources c.args.named.files c.in_ok-inputs.inputs c.in_ok-inputs.ensures)
    c.as_str.ensures.value c.as_str-2.ensures.value c.as_str-3.ensures.value
    (held_session c.answers_run_as_their_sources.ensures.first_states c.conversations_answer_alike.ensures held _ _ _ _ _ _ input before after c.in-Ok.debugged c.hold_session.result c.hold_session.ensures c.in-Ok.ensures))

pub returns-clause-answer : goal.returns-clause-answer
returns-clause-answer g c =
    let held = g.D.Disk.bytes_of c.args.disk.now in
    let sources = source_names c.args.named.sources in
    let names = assembled_in sources in
    let input = g.R.Read.remaining c.args.input.now in
    let before = g.O.Write.contents c.args.out.now in
    inputs_read held sources c.args.named.files (λ given command samples schedule. PromptsOver held given names sources.names command samples schedule input before before) c.in_ok-inputs.inputs (Err c.in-Err.fault) c.in_ok-inputs.ensures
    (λ named.
    prompts_same held _ names _ sources.names _ _ _ _ _ _ _ input before before (Err c.in-Err.fault) (ap (λ xs. map string_bytes xs) c.as_slice.ensures.value ∙ named) (ap (λ xs. map string_bytes xs) c.as_slice-2.ensures.value ∙ inputs_shown held sources c.args.named.files c.in_ok-inputs.inputs c.in_ok-inputs.ensures)
    c.as_str.ensures.value c.as_str-2.ensures.value c.as_str-3.ensures.value
    (refused held _ _ _ _ _ _ input before before c.in-Err.fault c.in-Err.ensures))
