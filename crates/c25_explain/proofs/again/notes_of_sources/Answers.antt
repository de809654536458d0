use Rattle.std.proofs.Common.{◌∙◌, [], ap, map, string_bytes, subst, sym}
use Rattle.std.specs.Prelude.{Ok, Result, String}
use Rattle.std.specs.declared.alloc.Global.{Global}
use Rattle.c25_disk.specs.Held.{ReadsSources}
use Rattle.c25_disk.specs.declared.fault.FileFault.{FileFault}
use Rattle.c25_meaning_common.specs.declared.failure.Failure.{Failure}
use Rattle.c25_meaning_common.specs.declared.placed.Placed.{Placed}
use Rattle.c25_meaning_expansion.specs.Files.{Files}
use Rattle.c25_inputs.specs.Inputs.{ReadsInputs}
use Rattle.c25_options.specs.Task.{text_of, texts_of}
use Rattle.c25_options.specs.declared.task.RunFiles.{RunFiles}
use Rattle.c25_inputs.specs.Files.{IsOptional, SourceNames, plain_names}
use Rattle.c25_inputs.proofs.Gathering.{inputs_are}
use Rattle.c25_explain.proofs.Noticed.{notes_of_work}
use Rattle.c25_explain.specs.Again.{question}
use Rattle.c25_explain.proofs.again.notes_of_sources.Goals as goal

pub returns : goal.returns
returns g c =
    let held = g.D.Disk.bytes_of c.args.disk.now in
    let names = texts_of c.args.sources.now in
    let alone = subst (λ (s : SourceNames). ReadsInputs held s c.command_alone.result (Ok c.in_ok-inputs.inputs)) c.without_definitions-sources.ensures c.in_ok-inputs.ensures in
    let are = inputs_are held (plain_names names) c.command_alone.result c.in_ok-inputs.inputs alone in
    let read = subst (λ (r : Result Files (Failure (Placed (String Global) FileFault))). ReadsSources held [] names r) (sym are.0.2) are.0.1 in
    let of_command = subst (λ (files : RunFiles). IsOptional held (text_of files.command) (string_bytes c.in_ok-inputs.inputs.beside.command)) c.command_alone.ensures are.2 in
    notes_of_work (question c.args.asked) held names (map string_bytes c.as_slice.result.now) (text_of c.args.command) _ _ c.as_str.result.now c.work_over.result
    (ap (λ xs. map string_bytes xs) c.as_slice.ensures.value ∙ are.1) c.as_str.ensures.value read of_command c.work_over.ensures
