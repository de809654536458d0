use Rattle.std.proofs.Common.{ap, sym, ◌∙◌}
use Rattle.c25_rom.specs.Made.{made_of}
use Rattle.c25_tasks.specs.Building.{program_files}
use Rattle.c25_tasks.proofs.Quiet.{keeps, stays}
use Rattle.c25_tasks.proofs.Written.{none_written, past_meant, rom_past, rom_written, some_written}
use Rattle.c25_tasks.proofs.build_to_disk.write_asked.Goals as goal

pub returns-in-None : goal.returns-in-None
returns-in-None g c = λ held.
    none_written held c.args.writing.notes c.args.writing.base.now c.args.writing.rom c.args.program _ _ _ _ c.in-None.is (c.write_program.ensures held) (keeps _)

pub returns-in-Ok : goal.returns-in-Ok
returns-in-Ok g c = λ held.
    let base = c.args.writing.base.now in
    let asked = c.in-Some.asked in
    let words = c.args.program.built.linked.image.program in
    let is = ap (λ w. made_of base asked.shape w asked.fill) (sym c.words-words.ensures) ∙ c.in-Ok.ensures in
    some_written held c.args.writing.notes base c.args.writing.rom c.args.program _ _ _ _ asked c.in-Some.is
    (rom_written held c.args.writing.notes (program_files base c.args.program) _ _ _ (made_of base asked.shape words asked.fill) _ c.in-Ok.rom is (c.write_with_rom.ensures held))

pub returns : goal.returns
returns g c = λ held.
    let base = c.args.writing.base.now in
    let asked = c.in-Some.asked in
    let words = c.args.program.built.linked.image.program in
    let is = ap (λ w. made_of base asked.shape w asked.fill) (sym c.words-words.ensures) ∙ past_meant _ c.in-Err-Fault.field-0 c.in-Err-Fault.past c.in-Err-Fault.field-0-is c.in-Err-Fault.ensures in
    some_written held c.args.writing.notes base c.args.writing.rom c.args.program _ _ _ _ asked c.in-Some.is
    (rom_past held c.args.writing.notes (program_files base c.args.program) _ _ _ (made_of base asked.shape words asked.fill) _ c.in-Err-Fault.past _ is c.is_explained.ensures c.report_past.ensures (stays _) (keeps _))
