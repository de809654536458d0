use Rattle.std.proofs.Common.{ap, arith}
use Rattle.c25_module.specs.View.{body_data, section_data}
use Rattle.c25_records.proofs.Lengths.{length-initialised}
use Rattle.c25_records.proofs.writing.section_length.Goals as goal

pub returns-in-Initialised : goal.returns-in-Initialised
returns-in-Initialised c =
    let whole = length-initialised (section_data c.args.section.now) c.in-Initialised.words.items (ap body_data c.in-Initialised.is) in
    omega arith
