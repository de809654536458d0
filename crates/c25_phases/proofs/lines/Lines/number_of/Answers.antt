use Rattle.std.proofs.Common.{ap}
use Rattle.c25_phases.proofs.Filed.{joined, number_is}
use Rattle.c25_phases.proofs.lines.Lines.number_of.Goals as goal

pub returns-clause-number : goal.returns-clause-number
returns-clause-number c =
    number_is c.args.file c.self.inside.files.keys c.args.self.now.files _ c.in_ok-number.ensures.index (ap (λ l. l.files) c.self.view_is)

pub returns-clause-files : goal.returns-clause-files
returns-clause-files c =
    let grown = joined c.args.file c.self.inside.files.keys c.insert_full.new.self.keys c.args.self.now.files c.in_ok-number.ensures.keys (ap (λ l. l.files) c.self.view_is) in
    let lines = ap (λ l. l.lines) c.self.view_is in
    λ i. record { files = grown i; lines = lines i }
