use Rattle.std.proofs.Common.{inl}
use Rattle.std.specs.Prelude.{Err}
use Rattle.c25_inputs.specs.Files.{ReadsAll}
use Rattle.c25_inputs.proofs.Fails.{fails_with}
use Rattle.c25_options.specs.Task.{text_of, texts_of}
use Rattle.c25_tasks.specs.Assembly.{one_source}
use Rattle.c25_tasks.proofs.Assembled.{outputs_of_name, outputs_short}
use Rattle.c25_tasks.proofs.assembly.asm_outputs.Goals as goal

pub returns-in_err-files : goal.returns-in_err-files
returns-in_err-files g c =
    inl (fails_with c.from_residual.result c.in_err-files.field-0.0 (λ fault. ReadsAll (g.D.Disk.bytes_of c.args.disk.now) (one_source c.args.assembly.source.now (texts_of c.args.definitions.now)) (Err fault)) c.from_residual.ensures.1 c.in_err-files.ensures)

pub returns-in_err-name : goal.returns-in_err-name
returns-in_err-name g c =
    outputs_short (g.D.Disk.bytes_of c.args.disk.now) (texts_of c.args.definitions.now) c.args.assembly.source.now c.args.assembly.object.now (text_of c.args.assembly.list) c.in_ok-files.files c.from_residual-in_err-name.result c.in_ok-files.ensures
    c.from_residual-in_err-name.ensures.1

pub returns : goal.returns
returns g c =
    outputs_of_name (g.D.Disk.bytes_of c.args.disk.now) (texts_of c.args.definitions.now) c.args.assembly.source.now c.args.assembly.object.now (text_of c.args.assembly.list) c.in_ok-files.files _ _ c.work_over.result c.in_ok-files.ensures
    c.as_str.ensures.value c.in_ok-name.ensures c.work_over.ensures
